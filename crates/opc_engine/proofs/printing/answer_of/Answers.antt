use Rattle.std.proofs.Common.{SFits, w32, rules, ap}
use Rattle.std.specs.Prelude.{length}
use Rattle.std.proofs.lemmas.Int.{to_z-of_z}
use Rattle.opc_engine.proofs.CheckLaws.{stored_is}
use Rattle.opc_engine.proofs.printing.answer_of.Goals as goal

pub returns : goal.returns
returns c =
    let grid : SFits w32 c.args.given.now.rules.pick.grid = search rules in
    let width : SFits w32 c.args.given.now.rules.mask.width = search rules in
    stored_is c.args.given.now c.args.printed.now c.in_ok-found.found.items c.deref.result.now _ _ _ _
    (to_z-of_z w32 c.args.given.now.rules.pick.grid grid) (to_z-of_z w32 c.args.given.now.rules.mask.width width) c.rects.ensures.stacks
    c.in_ok-layout.ensures.file c.in_ok-layout.ensures.expands c.in_ok-found.ensures c.deref.ensures.value
    (ap length c.rects.ensures.list) c.in_ok-list.ensures.text c.in_ok-list.ensures.last

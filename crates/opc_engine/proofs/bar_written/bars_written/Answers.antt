use Rattle.std.proofs.Common.{◌≡◌, SFits, w32, sym, ◌∙◌, rules}
use Rattle.std.proofs.Math.Path.{fun_ext}
use Rattle.std.proofs.lemmas.Int.{to_z-of_z}
use Rattle.opc_base.specs.Plane.{cover}
use Rattle.opc_session.specs.Sessions.{mask_of}
use Rattle.opc_engine.proofs.BarTableLaws.{bars_written_is, flags_are}
use Rattle.opc_engine.proofs.bar_written.bars_written.Goals as goal

pub returns : goal.returns
returns g c =
    let given = c.args.given.now in let s = c.args.session.now in
    let over = c.requires.over in
    let grid : SFits w32 c.args.given.now.whole.rules.pick.grid = search rules in
    let pixels : cover c.in_ok-region.region ≡ mask_of c.args.session.now = fun_ext (λ x. fun_ext (λ y. c.in_ok-region.ensures.pixels x y)) in
    let printed = flags_are _ s given.bars.items c.in_ok-flags.flags.items (rw c.deref.ensures.value at c.in_ok-flags.ensures) (c.requires.tables ∙ sym over.set) pixels (sym over.rules) in
    bars_written_is given s over c.args.rounds.now c.in_ok-flags.flags.items c.in_ok-region.region c.rects.result.now _ _ printed c.in_ok-region.ensures.canonical pixels c.rects.ensures.list
    (rw c.deref-2.ensures.value at c.in_ok-table.ensures.text) c.in_ok-table.ensures.last c.offsets.ensures.keeps
    (to_z-of_z w32 c.args.given.now.whole.rules.pick.grid grid) c.in_ok-mask.ensures.file c.in_ok-mask.ensures.expands

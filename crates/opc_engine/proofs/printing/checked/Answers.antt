use Rattle.std.proofs.Common.{SFits, w64, rules}
use Rattle.std.proofs.lemmas.Int.{to_z-of_z}
use Rattle.opc_engine.proofs.CheckLaws.{checked_is}
use Rattle.opc_engine.proofs.printing.checked.Goals as goal

pub returns : goal.returns
returns g c =
    let fits : SFits w64 c.args.given.now.rules.site.threshold = search rules in
    let pixels = simp to_z-of_z at c.in_ok-printed.ensures.pixels in
    checked_is c.args.given.now c.args.window c.in_ok-mask.mask c.in_ok-printed.printed c.in_ok-tables.tables c.answer_of.result c.in_ok-tables.ensures.set
    c.in_ok-mask.ensures pixels c.answer_of.ensures

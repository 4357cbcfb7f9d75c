use Rattle.std.proofs.Common.{SFits, w32, rules, subst, sym}
use Rattle.std.proofs.lemmas.Int.{to_z-of_z}
use Rattle.opc_base.specs.Canonical.{AreCanonical}
use Rattle.opc_engine.proofs.WindowLaws.{window_of_region}
use Rattle.opc_engine.proofs.window.window_with.Goals as goal

pub returns-clause-is : goal.returns-clause-is
returns-clause-is c =
    let fits : SFits w32 c.args.margin = search rules in
    let round = simp to_z-of_z at c.window_round.ensures.is in
    let canonical = subst AreCanonical (sym c.rects-rects.ensures.list) c.rects-rects.ensures.canonical in
    window_of_region c.args.region.now c.rects-rects.result.now c.args.margin c.least_rect.result c.window_round.result c.rects-rects.ensures.list
    canonical.solid c.least_rect.ensures.each c.least_rect.ensures.least round

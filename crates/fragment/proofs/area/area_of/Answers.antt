use Rattle.std.proofs.Common.{sym, arith}
use Rattle.std.proofs.lemmas.Int.{ints}
use Rattle.fragment.proofs.AreaLaws.{area_level, area_upright}
use Rattle.fragment.proofs.area.area_of.Goals as goal

pub returns-then-is_vertical : goal.returns-then-is_vertical
returns-then-is_vertical c =
    let a = c.requires.edge in let b = c.requires.lo in let d = c.requires.hi in
    area_upright c.args.fragment.now _ _ _ _ (sym c.if-is_vertical.ensures) (omega (arith, ints)) (omega (arith, ints)) (omega (arith, ints)) (omega (arith, ints))

pub returns-else-is_vertical : goal.returns-else-is_vertical
returns-else-is_vertical c =
    let a = c.requires.edge in let b = c.requires.lo in let d = c.requires.hi in
    area_level c.args.fragment.now _ _ _ _ (sym c.if-is_vertical.ensures) (omega (arith, ints)) (omega (arith, ints)) (omega (arith, ints)) (omega (arith, ints))

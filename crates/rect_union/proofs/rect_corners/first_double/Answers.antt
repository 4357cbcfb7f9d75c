use Rattle.std.proofs.Common.{◌<◌, ◌-ℤ◌, pos, length, get_or, SFits, w32, to_z-of_z, refl, arith, rules}
use Rattle.std.specs.Int.{w128}
use Rattle.rect_union.specs.declared.quadrants.Quadrant.{Quadrant}
use Rattle.rect_union.proofs.TouchLaws.{first_double_at}
use Rattle.rect_union.proofs.rect_corners.first_double.Goals as goal

pub returns-then-is_double-clause-found : goal.returns-then-is_double-clause-found
returns-then-is_double-clause-found c =
    let quadrant : Quadrant = record { y = pos 0; column = record { x = pos 0; owner = 0; sign = pos 0 } } in
    let at : c.loop-quadrant.quadrant-index < length c.args.merged.now = omega arith in
    let near = c.requires.near c.loop-quadrant.quadrant-index quadrant at in
    let x_fits : SFits w32 (get_or c.args.merged.now c.loop-quadrant.quadrant-index quadrant).column.x = search rules in
    let y_fits : SFits w32 (get_or c.args.merged.now c.loop-quadrant.quadrant-index quadrant).y = search rules in
    let sign_fits : SFits w128 (get_or c.args.merged.now c.loop-quadrant.quadrant-index quadrant).column.sign = search rules in
    let left_fits : SFits w32 ((get_or c.args.merged.now c.loop-quadrant.quadrant-index quadrant).column.x -ℤ pos 1) = search rules in
    let low_fits : SFits w32 ((get_or c.args.merged.now c.loop-quadrant.quadrant-index quadrant).y -ℤ pos 1) = search rules in
    let double = simp to_z-of_z at (c.if-is_double.ensures.double refl) in
    simp to_z-of_z (first_double_at c.args.merged.now c.loop-quadrant.quadrant-index quadrant at double c.loop-quadrant.invariant)

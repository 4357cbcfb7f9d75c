use Rattle.std.proofs.Common.{◌<◌, ◌+ℤ◌, pos, length, get_or, SFits, to_z-of_z, refl, arith, rules}
use Rattle.std.specs.Int.{w128}
use Rattle.std.proofs.lemmas.Int.{fits_signed_from_abs}
use Rattle.std.proofs.Common.{◌^◌}
use Rattle.rect_union.specs.declared.quadrants.Quadrant.{Quadrant}
use Rattle.rect_union.proofs.MergingLaws.{merging_ends, merging_fits, merging_step}
use Rattle.rect_union.proofs.rect_corners.merge_points.Goals as goal

pub loop-index-preserved : goal.loop-index-preserved
loop-index-preserved c =
    let quadrant : Quadrant = record { y = pos 0; column = record { x = pos 0; owner = 0; sign = pos 0 } } in
    let at : c.loop-index.index < length c.args.quadrants.now = omega arith in
    let left_fits : SFits w128 c.in_ok-sign.sign = search rules in
    let sign_fits : SFits w128 c.loop-index.sign = search rules in
    let own_fits : SFits w128 (get_or c.args.quadrants.now c.loop-index.index quadrant).column.sign = search rules in
    let so_far = simp c.loop-index.sign-is at c.loop-index.invariant in
    let small = merging_fits c.args.quadrants.now c.loop-index.index (2 ^ 126) c.loop-index.sign c.loop-index.merged.items quadrant at c.requires.small so_far in
    let sum_fits : SFits w128 (c.loop-index.sign +ℤ (get_or c.args.quadrants.now c.loop-index.index quadrant).column.sign) =
    fits_signed_from_abs w128 (c.loop-index.sign +ℤ (get_or c.args.quadrants.now c.loop-index.index quadrant).column.sign) (omega arith) in
    let settled = simp (c.loop-index.sign-is, to_z-of_z) at c.in_ok-sign.ensures.settled in
    simp to_z-of_z
    (merging_step c.args.quadrants.now c.loop-index.index c.loop-index.sign (c.loop-index.sign +ℤ (get_or c.args.quadrants.now c.loop-index.index quadrant).column.sign)
    c.in_ok-sign.sign c.loop-index.merged.items c.settle.new.merged.items quadrant c.requires.rows at refl so_far settled)

pub returns : goal.returns
returns c =
    let quadrant : Quadrant = record { y = pos 0; column = record { x = pos 0; owner = 0; sign = pos 0 } } in
    let sign_fits : SFits w128 c.loop-index.sign = search rules in
    let so_far = simp c.loop-index.sign-is at c.loop-index.invariant in
    record { merged = merging_ends c.args.quadrants.now c.loop-index.index c.loop-index.sign c.loop-index.merged.items quadrant (omega arith) so_far }

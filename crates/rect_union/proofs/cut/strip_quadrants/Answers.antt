use Rattle.std.proofs.Common.{◌<◌, ◌≤◌, length, pos, SFits, w32, to_z-of_z, arith}
use Rattle.rect_union.specs.declared.quadrants.Quadrant.{Quadrant}
use Rattle.rect_union.proofs.CutLaws.{cut_ends, cut_fits, cut_starts, cut_step}
use Rattle.rect_union.proofs.cut.strip_quadrants.Goals as goal

pub loop-quadrant-init : goal.loop-quadrant-init
loop-quadrant-init c = rw c.new-seen.ensures.items (cut_starts c.args.quadrants.now _ _)

pub push_quadrant-requires : goal.push_quadrant-requires
push_quadrant-requires c =
    let quadrant : Quadrant = record { y = pos 0; column = record { x = pos 0; owner = 0; sign = pos 0 } } in
    let at : c.loop-quadrant.quadrant-index < length c.args.quadrants.now = omega arith in
    record {
      small = rw c.quadrant_in.ensures
          (cut_fits c.args.quadrants.now c.loop-quadrant.seen.items _ _ c.loop-quadrant.quadrant-index quadrant c.requires.small at c.loop-quadrant.invariant);
    }

pub loop-quadrant-preserved : goal.loop-quadrant-preserved
loop-quadrant-preserved c =
    let left_fits : SFits w32 c.args.left = c.ranges.left in
    let right_fits : SFits w32 c.args.right = c.ranges.right in
    let quadrant : Quadrant = record { y = pos 0; column = record { x = pos 0; owner = 0; sign = pos 0 } } in
    let at : c.loop-quadrant.quadrant-index < length c.args.quadrants.now = omega arith in
    let so_far = simp to_z-of_z at c.loop-quadrant.invariant in
    let adds = simp to_z-of_z at (rw c.quadrant_in.ensures at c.in_ok-push_quadrant.ensures.added) in
    simp to_z-of_z
    (cut_step c.args.quadrants.now c.loop-quadrant.seen.items c.push_quadrant.new.quadrants.items c.args.left c.args.right c.loop-quadrant.quadrant-index quadrant
    c.requires.rows at so_far adds)

pub returns : goal.returns
returns c =
    let left_fits : SFits w32 c.args.left = c.ranges.left in
    let right_fits : SFits w32 c.args.right = c.ranges.right in
    let all : length c.args.quadrants.now ≤ c.loop-quadrant.quadrant-index = omega arith in
    record {
      cut = cut_ends c.args.quadrants.now c.loop-quadrant.seen.items c.args.left c.args.right c.loop-quadrant.quadrant-index all
          (simp to_z-of_z at c.loop-quadrant.invariant);
    }

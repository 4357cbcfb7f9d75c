use Rattle.std.proofs.Common.{◌≡◌, ℤ, ◌+ℤ◌, take}
use Rattle.std.specs.Prelude.{All}
use Rattle.opc_base.specs.Corners.{quadrant_sum}
use Rattle.opc_base.specs.Sums.{sum_each}
use Rattle.rect_union.specs.CornerSets.{IsCornerWithin, rect_sign}
use Rattle.mask_rules.specs.LineSets.{field_sign, sign_of, turned_rect}
use Rattle.mask_rules.proofs.line_sets.line_corners.Given as goal

abbrev pub invariant-loop-rect : goal.invariant-loop-rect
invariant-loop-rect l = record {
  sums : (x y : ℤ) → quadrant_sum l.corners.items x y ≡ field_sign l.out x y +ℤ sum_each (λ r. rect_sign (sign_of l.out) (turned_rect l.turn r) x y) (take l.rect-index l.rects);
  within : All (IsCornerWithin 1048576) l.corners.items;
}

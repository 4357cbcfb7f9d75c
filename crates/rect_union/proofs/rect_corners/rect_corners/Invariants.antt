use Rattle.std.proofs.Common.{◌≡◌, ℤ, take}
use Rattle.opc_base.specs.Corners.{quadrant_sum}
use Rattle.rect_union.specs.Outlines.{path_count}
use Rattle.rect_union.proofs.rect_corners.rect_corners.Given as goal

abbrev pub invariant-loop-rect : goal.invariant-loop-rect
invariant-loop-rect l = (x y : ℤ) → quadrant_sum l.corners.items x y ≡ path_count (take l.rect-index l.rects) x y

use Rattle.std.proofs.Common.{◌≡◌, ◌*◌, ◌≤◌, ℤ, length, take}
use Rattle.opc_base.specs.Plane.{indicator, rect_cover}
use Rattle.opc_base.specs.Sums.{sum_each}
use Rattle.opc_base.specs.declared.plane.Rect.{Rect}
use Rattle.corners.specs.Points.{quadrants}
use Rattle.signed_points.specs.Points.{SignsWithin}
use Rattle.corners.specs.Windows.{clip}
use Rattle.corners.proofs.window_corners.corners_of.Given as goal

abbrev pub invariant-loop-rect : goal.invariant-loop-rect
invariant-loop-rect l = record {
  signs : SignsWithin 1 l.points.items;
  sums : (y x : ℤ) → quadrants l.points.items y x ≡ sum_each (λ (r : Rect). indicator (rect_cover (clip l.fn.window r)) x y) (take l.rect-index l.rects);
  few : length l.points.items ≤ 4 * l.rect-index;
}

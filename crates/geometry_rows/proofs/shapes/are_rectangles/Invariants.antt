use Rattle.std.proofs.Common.{ℕ, ◌<◌, length, get_or}
use Rattle.opc_base.specs.declared.plane.Rect.{Rect}
use Rattle.opc_base.specs.Canonical.{IsSolid}
use Rattle.opc_base.specs.Plane.{IsRectWithin}
use Rattle.geometry_rows.proofs.shapes.are_rectangles.Given as goal

abbrev pub invariant-loop-rect : goal.invariant-loop-rect
invariant-loop-rect l = record {
  solid : (k : ℕ) (d : Rect) → k < l.rect-index → k < length l.rects → IsSolid (get_or l.rects k d);
  within : (k : ℕ) (d : Rect) → k < l.rect-index → k < length l.rects → IsRectWithin 1048000 (get_or l.rects k d);
}

use Rattle.std.proofs.Common.{ℕ, ◌-◌, ◌<◌, ◌≤◌, length, get_or}
use Rattle.opc_base.specs.declared.plane.Rect.{Rect}
use Rattle.mask_polygons.specs.Links.{LiesBefore}
use Rattle.mask_polygons.proofs.links.first_at.Given as goal

abbrev pub invariant-loop-low : goal.invariant-loop-low
invariant-loop-low l = record {
  order : l.low ≤ l.high;
  within : l.high ≤ length l.rects;
  ahead : (k : ℕ) (d : Rect) → k < l.low → LiesBefore (get_or l.rects k d) l.height l.column;
  behind : (k : ℕ) (d : Rect) → l.high ≤ k → k < length l.rects → ¬ LiesBefore (get_or l.rects k d) l.height l.column;
}

abbrev pub decreases-loop-low : goal.decreases-loop-low
decreases-loop-low l = l.high - l.low

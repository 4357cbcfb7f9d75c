use Rattle.std.proofs.Common.{◌≡◌, ℕ, ◌<◌, ◌≤◌, ℤ, Bool, length, get_or, take}
use Rattle.signed_points.specs.declared.points.Point.{Point}
use Rattle.signed_points.specs.Points.{point_at, IsAscending, IsSigned, IsUpTo, SignsWithin, signs_among}
use Rattle.signed_points.proofs.points.merge_points.Given as goal

abbrev pub invariant-loop-point : goal.invariant-loop-point
invariant-loop-point l = record {
  ascending : IsAscending l.merged.items;
  few : length l.merged.items ≤ l.point-index;
  signed : IsSigned l.merged.items;
  behind : (k : ℕ) → l.point-index ≤ k → k < length l.points → (j : ℕ) (d : Point) → j < length l.merged.items
      → IsUpTo (point_at l.points k) (get_or l.merged.items j d);
  signs : SignsWithin l.point-index l.merged.items;
  sums : (places : ℤ → ℤ → Bool) → signs_among places l.merged.items ≡ signs_among places (take l.point-index l.points);
}

-- The area is round those that were taken.
use Rattle.std.proofs.Common.{ℕ, ◌<◌, ◌≤◌}
use Rattle.fragment.specs.Index.{IsInside, area_at}
use Rattle.fragment.proofs.area.enclosing.Given as goal

abbrev pub invariant-loop-k : goal.invariant-loop-k
invariant-loop-k l = (j : ℕ) → l.first ≤ j → j < l.k → IsInside (area_at l.areas j) l.area

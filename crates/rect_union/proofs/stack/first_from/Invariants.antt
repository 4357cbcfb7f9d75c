use Rattle.std.proofs.Common.{ℕ, ◌<◌, ◌≤◌, ◌<ℤ◌, ◌-◌, length, get_or}
use Rattle.rect_union.specs.declared.stack.Growing.{Growing}
use Rattle.rect_union.proofs.stack.first_from.Given as goal

abbrev pub invariant-loop-place : goal.invariant-loop-place
invariant-loop-place l = record {
  later : l.next ≤ l.place;
  within : l.place ≤ length l.growing;
  passed : (k : ℕ) (d : Growing) → l.next ≤ k → k < l.place → (get_or l.growing k d).run.first <ℤ l.x;
}

abbrev pub decreases-loop-place : goal.decreases-loop-place
decreases-loop-place l = length l.growing - l.place

-- The fragments so far are not met.
use Rattle.std.proofs.Common.{◌≡◌, ℕ, ◌-◌, ◌<◌, ◌≤◌, false, length}
use Rattle.fragment.specs.Index.{is_met}
use Rattle.fragment.proofs.area_tree.AreaTree.first_met.Given as goal

abbrev pub invariant-loop-k : goal.invariant-loop-k
invariant-loop-k l = (l.fn.from ≤ l.k) × (l.k ≤ 36864)
    × ((j : ℕ) → l.fn.from ≤ j → j < l.k → j < length l.self → is_met l.self l.rect j ≡ false)

abbrev pub decreases-loop-k : goal.decreases-loop-k
decreases-loop-k l = l.count - l.k

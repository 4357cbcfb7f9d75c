use Rattle.std.proofs.Common.{ℕ, ◌*◌, ◌<◌, ◌≤◌}
use Rattle.opc_parallel.specs.Conditions.{IsUnseen, setting_of}
use Rattle.opc_parallel.proofs.fragment_sums.end_of_seeing.Given as goal

abbrev pub invariant-loop-end : goal.invariant-loop-end
invariant-loop-end l =
    (l.first ≤ l.end) × (l.end ≤ 2 * l.work.samples) × ((k : ℕ) → l.end ≤ k → k < 2 * l.work.samples → IsUnseen (setting_of l.work) l.number k l.rect)

abbrev pub decreases-loop-end : goal.decreases-loop-end
decreases-loop-end l = l.end

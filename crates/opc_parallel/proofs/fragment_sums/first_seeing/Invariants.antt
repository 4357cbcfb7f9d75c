use Rattle.std.proofs.Common.{ℕ, ◌-◌, ◌*◌, ◌<◌, ◌≤◌}
use Rattle.opc_parallel.specs.Conditions.{IsUnseen, setting_of}
use Rattle.opc_parallel.proofs.fragment_sums.first_seeing.Given as goal

abbrev pub invariant-loop-first : goal.invariant-loop-first
invariant-loop-first l = (l.first ≤ 2 * l.work.samples) × ((k : ℕ) → k < l.first → IsUnseen (setting_of l.work) l.number k l.rect)

abbrev pub decreases-loop-first : goal.decreases-loop-first
decreases-loop-first l = 2 * l.work.samples - l.first

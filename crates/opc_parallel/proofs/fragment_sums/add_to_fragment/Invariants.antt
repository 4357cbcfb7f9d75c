use Rattle.std.proofs.Common.{◌+◌, ◌*◌, ◌/◌, ◌%◌, ◌≤◌}
use Rattle.opc_base.specs.Changes.{RisesBetween}
use Rattle.opc_base.specs.Lanes.{lane_count}
use Rattle.opc_parallel.specs.Conditions.{setting_of}
use Rattle.opc_parallel.specs.Stored.{sample_change}
use Rattle.opc_parallel.proofs.fragment_sums.add_to_fragment.Given as goal

abbrev pub invariant-loop-sample : goal.invariant-loop-sample
invariant-loop-sample g l =
    let set = l.work.tables.now in
    (RisesBetween (λ n. sample_change (setting_of l.work) l.swept l.number (n / lane_count set) (n % lane_count set)) 0 (l.first * lane_count set) (l.sample * lane_count set) l.fn.sums l.sums)
    × (l.steps ≤ l.fn.steps + 4 * l.sample)

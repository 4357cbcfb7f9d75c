use Rattle.std.proofs.Common.{◌≡◌, ℕ, ◌<◌, length, get_or, pos}
use Rattle.opc_base.specs.Lanes.{ground_of_lane}
use Rattle.prefix_tables.proofs.ground_sums.ground_sums.Given as goal

abbrev pub invariant-loop-lane : goal.invariant-loop-lane
invariant-loop-lane l = record {
  count : length l.sums.items ≡ l.lane;
  each : (k : ℕ) → k < l.lane → get_or l.sums.items k (pos 0) ≡ ground_of_lane l.kernels k;
}

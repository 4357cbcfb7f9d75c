use Rattle.std.proofs.Common.{◌≡◌, ℕ, ◌+◌, ◌*◌, ◌<◌, pos, get_or, length}
use Rattle.opc_base.specs.Lanes.{ground_of_lane, lane_count}
use Rattle.opc_session.proofs.opening.uncovered_sums.Given as goal

abbrev pub invariant-loop-sample : goal.invariant-loop-sample
invariant-loop-sample l = record {
  size : length l.sums.items ≡ l._sample * lane_count l.scene.set;
  each : (j lane : ℕ) → j < l._sample → lane < lane_count l.scene.set →
      get_or l.sums.items (j * lane_count l.scene.set + lane) (pos 0) ≡ ground_of_lane l.scene.set lane;
}

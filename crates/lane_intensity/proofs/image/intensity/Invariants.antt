use Rattle.std.proofs.Common.{◌≡◌, ◌≤◌, ◌-◌, length}
use Rattle.lane_intensity.specs.Differences.{power_sum}
use Rattle.lane_intensity.proofs.image.intensity.Given as goal

abbrev pub invariant-loop-kernel : goal.invariant-loop-kernel
invariant-loop-kernel l = record {
  within : l.kernel ≤ length l.weights;
  so_far : l.sum ≡ power_sum l.weights l.acc l.kernel;
}

abbrev pub decreases-loop-kernel : goal.decreases-loop-kernel
decreases-loop-kernel l = length l.weights - l.kernel

abbrev pub invariant-loop-kernel-2 : goal.invariant-loop-kernel-2
invariant-loop-kernel-2 l = record {
  within : l.kernel ≤ length l.weights;
  so_far : l.sum ≡ power_sum l.weights l.acc l.kernel;
}

abbrev pub decreases-loop-kernel-2 : goal.decreases-loop-kernel-2
decreases-loop-kernel-2 l = length l.weights - l.kernel

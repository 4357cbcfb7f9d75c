use Rattle.std.proofs.Common.{◌≡◌, ◌+◌}
use Rattle.lane_intensity.specs.Differences.{power_sum}
use Rattle.lane_intensity.proofs.image.with_four.Given as goal

abbrev pub invariant-loop-next : goal.invariant-loop-next
invariant-loop-next l = l.sum ≡ power_sum l.weights l.acc (l.kernel + l.next)

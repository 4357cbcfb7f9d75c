use Rattle.std.proofs.Common.{◌-◌, ◌≤◌, length}
use Rattle.opc_base.specs.Changes.{RisesBetween}
use Rattle.lane_intensity.specs.Differences.{four_lanes}
use Rattle.lane_intensity.proofs.rect_sums.add_difference.Given as goal

abbrev pub invariant-loop-lane : goal.invariant-loop-lane
invariant-loop-lane l = record {
  within : l.lane ≤ length l.acc;
  rises : RisesBetween (four_lanes l.a l.b l.c l.d) 0 0 l.lane l.fn.acc l.acc;
}

abbrev pub decreases-loop-lane : goal.decreases-loop-lane
decreases-loop-lane l = length l.acc - l.lane

abbrev pub invariant-loop-lane-2 : goal.invariant-loop-lane-2
invariant-loop-lane-2 l = record {
  within : l.lane ≤ length l.acc;
  rises : RisesBetween (four_lanes l.a l.b l.c l.d) 0 0 l.lane l.fn.acc l.acc;
}

abbrev pub decreases-loop-lane-2 : goal.decreases-loop-lane-2
decreases-loop-lane-2 l = length l.acc - l.lane

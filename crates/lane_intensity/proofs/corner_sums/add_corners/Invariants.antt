use Rattle.std.proofs.Common.{◌≡◌, ℕ, ◌+◌, ◌*◌, ◌^◌, ◌<◌, ◌≤◌, unsigned_abs, get_or, pos, length, take}
use Rattle.opc_base.specs.Changes.{RisesBy}
use Rattle.opc_base.specs.Lanes.{corners_change, lane_count}
use Rattle.lane_intensity.proofs.corner_sums.add_corners.Given as goal

abbrev pub invariant-loop-corner : goal.invariant-loop-corner
invariant-loop-corner g l = record {
  count : length l.acc ≡ lane_count l.tables;
  rises : RisesBy (corners_change l.tables (take l.corner-index l.corners) l.fn.at.x l.fn.at.y) 0 l.fn.acc l.acc;
  small : (lane : ℕ) → lane < lane_count l.tables → unsigned_abs (get_or l.acc lane (pos 0)) ≤ 2 ^ 62 + l.corner-index * 2 ^ 28;
  cost : l.steps ≡ l.fn.steps + l.corner-index;
}

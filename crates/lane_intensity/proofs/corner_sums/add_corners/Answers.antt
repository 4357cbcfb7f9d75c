use Rattle.std.proofs.Common.{◌≡◌, ◌+◌, ◌*◌, ◌^◌, ◌≤◌, pos, unsigned_abs, get_or, take, take_all, ◌∙◌, arith}
use Rattle.opc_base.proofs.LaneLaws.{amplitude_of_lane-bound}
use Rattle.lane_intensity.proofs.CornerSums.{corners_amplitudes, corners_part, corners_start, corners_step, small_step}
use Rattle.lane_intensity.proofs.corner_sums.add_corners.Goals as goal

pub loop-corner-init : goal.loop-corner-init
loop-corner-init g c = record {
  count = c.requires.lanes.count;
  rises = corners_start c.args.tables.now c.args.at.x c.args.at.y c.args.acc.now;
  small = c.requires.lanes.small;
  cost = omega arith;
}

pub loop-corner-preserved : goal.loop-corner-preserved
loop-corner-preserved g c = record {
  count = c.add_corner.ensures.rises.same_length ∙ c.loop-corner.invariant.count;
  rises = corners_step c.args.tables.now c.args.corners.now c.loop-corner.corner-index _ c.args.at.x c.args.at.y _ _ _ c.loop-corner-test.true
      c.loop-corner.invariant.rises c.add_corner.ensures.rises;
  small = λ lane below.
      let next : unsigned_abs (get_or c.add_corner.new.acc lane (pos 0)) ≤ 2 ^ 62 + c.loop-corner.corner-index * 2 ^ 28 + 2 ^ 28 =
      small_step c.args.tables.now _ c.args.at.x c.args.at.y (2 ^ 62 + c.loop-corner.corner-index * 2 ^ 28) _ _ c.loop-corner.invariant.count
      c.loop-corner.invariant.small c.add_corner.ensures.small c.add_corner.ensures.rises lane below in
      omega arith;
  cost = omega (arith, c.add_corner.ensures.cost, c.loop-corner.invariant.cost);
}

pub returns-clause-part : goal.returns-clause-part
returns-clause-part g c pixels near =
    let whole : take c.loop-corner.corner-index c.args.corners.now ≡ c.args.corners.now = take_all c.loop-corner.corner-index c.args.corners.now (omega arith) in
    corners_part c.args.tables.now pixels c.args.corners.now c.args.at.x c.args.at.y _ _ near (rw whole at c.loop-corner.invariant.rises)

pub returns-clause-amplitudes : goal.returns-clause-amplitudes
returns-clause-amplitudes g c pixels near from =
    corners_amplitudes c.args.tables.now pixels c.args.at.x c.args.at.y _ _ from (returns-clause-part g c pixels near)

pub returns-clause-small : goal.returns-clause-small
returns-clause-small g c pixels near from =
    let amplitudes = returns-clause-amplitudes g c pixels near from in
    record {
      count = amplitudes.count;
      small = λ lane below. rw (amplitudes.each lane below)
          (amplitude_of_lane-bound c.args.tables.now pixels c.args.at.x c.args.at.y lane c.lanes.ensures.bounds);
    }

use Rattle.std.proofs.Common.{arith}
use Rattle.lane_intensity.proofs.Vectors.{asks_times, asks_times_total, holds_times_total, stored}
use Rattle.lane_intensity.specs.Differences.{times_lane}
use Rattle.lane_intensity.proofs.corner_sums.add_eight_times.Goals as goal

pub overflow_mul-change : goal.overflow_mul-change
overflow_mul-change c =
    asks_times c.args.lane c.args.acc.now c.args.block.now c.args.times c.requires.lane c.requires.acc c.requires.times c.requires.block

pub overflow_add-acc : goal.overflow_add-acc
overflow_add-acc c =
    asks_times_total c.args.lane c.args.acc.now c.args.block.now c.args.times c.requires.lane c.requires.acc c.requires.times c.requires.block

pub returns : goal.returns
returns c =
    let total = holds_times_total c.args.lane c.args.acc.now c.args.block.now c.args.times c.requires.lane c.requires.acc c.requires.times c.requires.block in
    stored _ (times_lane c.args.times c.args.block.now) _ c.args.acc.now c.args.lane total c.requires.lane (omega arith)

use Rattle.std.proofs.Common.{arith}
use Rattle.lane_intensity.proofs.Vectors.{asks_ab, asks_abc, asks_abcd, asks_total, holds_total, stored}
use Rattle.lane_intensity.specs.Differences.{four_lanes}
use Rattle.lane_intensity.proofs.rect_sums.add_eight.Goals as goal

pub overflow_sub-difference : goal.overflow_sub-difference
overflow_sub-difference c =
    asks_ab c.args.lane c.args.acc.now c.args.a.now c.args.b.now c.args.c.now c.args.d.now c.requires.lane c.requires.acc c.requires.a c.requires.b c.requires.c c.requires.d

pub overflow_sub-difference-2 : goal.overflow_sub-difference-2
overflow_sub-difference-2 c =
    asks_abc c.args.lane c.args.acc.now c.args.a.now c.args.b.now c.args.c.now c.args.d.now c.requires.lane c.requires.acc c.requires.a c.requires.b c.requires.c c.requires.d

pub overflow_add-difference : goal.overflow_add-difference
overflow_add-difference c =
    asks_abcd c.args.lane c.args.acc.now c.args.a.now c.args.b.now c.args.c.now c.args.d.now c.requires.lane c.requires.acc c.requires.a c.requires.b c.requires.c c.requires.d

pub overflow_add-acc : goal.overflow_add-acc
overflow_add-acc c =
    asks_total c.args.lane c.args.acc.now c.args.a.now c.args.b.now c.args.c.now c.args.d.now c.requires.lane c.requires.acc c.requires.a c.requires.b c.requires.c c.requires.d

pub returns : goal.returns
returns c =
    let total = holds_total c.args.lane c.args.acc.now c.args.a.now c.args.b.now c.args.c.now c.args.d.now c.requires.lane c.requires.acc c.requires.a c.requires.b c.requires.c c.requires.d in
    stored _ (four_lanes c.args.a.now c.args.b.now c.args.c.now c.args.d.now) _ c.args.acc.now c.args.lane total c.requires.lane (omega arith)

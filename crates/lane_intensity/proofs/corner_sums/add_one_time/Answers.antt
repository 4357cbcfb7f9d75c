use Rattle.std.proofs.Common.{ℤ, pos, List, slice_index_or, to_z-of_z, zero-add}
use Rattle.opc_base.proofs.ChangeLaws.{RisesBetween-set}
use Rattle.lane_intensity.specs.Differences.{times_lane}
use Rattle.lane_intensity.proofs.CornerSums.{lane-is, product-is, sum-fits}
use Rattle.lane_intensity.proofs.corner_sums.add_one_time.Goals as goal

pub overflow_add-acc : goal.overflow_add-acc
overflow_add-acc c =
    let at : List ℤ → ℤ = λ xs. slice_index_or xs c.args.lane (pos 0) in
    rw (lane-is (at c.args.acc.now) c.requires.acc, product-is c.args.times (at c.args.block.now) c.requires.times (c.requires.block.small c.args.lane c.requires.lane))
    (sum-fits (at c.args.acc.now) c.args.times (at c.args.block.now) c.requires.acc c.requires.times (c.requires.block.small c.args.lane c.requires.lane))

pub returns : goal.returns
returns c =
    let at : List ℤ → ℤ = λ xs. slice_index_or xs c.args.lane (pos 0) in
    let fits = sum-fits (at c.args.acc.now) c.args.times (at c.args.block.now) c.requires.acc c.requires.times (c.requires.block.small c.args.lane c.requires.lane) in
    RisesBetween-set (times_lane c.args.times c.args.block.now) 0 c.args.lane c.args.acc.now _ c.requires.lane
    (rw (lane-is (at c.args.acc.now) c.requires.acc, product-is c.args.times (at c.args.block.now) c.requires.times (c.requires.block.small c.args.lane c.requires.lane))
    (rw (zero-add c.args.lane) (to_z-of_z fits)))

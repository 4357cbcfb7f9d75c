use Rattle.std.proofs.Common.{◌≡◌, ◌+◌, ◌*◌, arith}
use Rattle.std.proofs.lemmas.Int.{ints}
use Rattle.opc_base.proofs.OpticsLaws.{reach_within}
use Rattle.opc_base.proofs.SumLaws.{sum_range_start, sum_range_step}
use Rattle.prefix_tables.proofs.ground_sums.ground_sum.Goals as goal

pub loop-row-init : goal.loop-row-init
loop-row-init c = record { so_far = sum_range_start _ _; small = omega arith }

pub overflow_add-sum : goal.overflow_add-sum
overflow_add-sum c =
    let near = reach_within c.args.kernels.now c.requires.bounds in
    omega (arith, ints)

pub loop-row-preserved : goal.loop-row-preserved
loop-row-preserved c =
    let near = reach_within c.args.kernels.now c.requires.bounds in
    record {
      so_far = sum_range_step _ _ _ _ _ _ c.loop-row.invariant.so_far c.row_sum-sum.ensures.value (omega (arith, ints));
      small = omega (arith, ints);
    }

-- the loop ends at the last row
pub returns : goal.returns
returns c =
    let end : c.loop-row.row ≡ 2 * c.args.kernels.now.reach + 1 = omega arith in
    rw end at c.loop-row.invariant.so_far

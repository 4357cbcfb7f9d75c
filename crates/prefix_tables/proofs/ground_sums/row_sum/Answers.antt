use Rattle.std.proofs.Common.{◌≡◌, ◌+◌, ◌*◌, ◌≤◌, unsigned_abs, arith}
use Rattle.std.proofs.lemmas.Int.{ints}
use Rattle.opc_base.proofs.LaneLaws.{uncovered-within}
use Rattle.opc_base.proofs.OpticsLaws.{reach_within}
use Rattle.opc_base.proofs.SumLaws.{sum_range_start, sum_range_step}
use Rattle.prefix_tables.proofs.ground_sums.row_sum.Goals as goal

pub loop-column-init : goal.loop-column-init
loop-column-init c = record { so_far = sum_range_start _ _; small = omega arith }

pub overflow_add-sum : goal.overflow_add-sum
overflow_add-sum c =
    let near = reach_within c.args.kernels.now c.requires.bounds in
    let more : unsigned_abs c.passed-sum.result ≤ 2048 = rw c.passed-sum.ensures (uncovered-within c.args.kernels.now c.args.lane _ _ c.requires.bounds) in
    omega (arith, ints)

pub loop-column-preserved : goal.loop-column-preserved
loop-column-preserved c =
    let near = reach_within c.args.kernels.now c.requires.bounds in
    let more : unsigned_abs c.passed-sum.result ≤ 2048 = rw c.passed-sum.ensures (uncovered-within c.args.kernels.now c.args.lane _ _ c.requires.bounds) in
    record {
      so_far = sum_range_step _ _ _ _ _ _ c.loop-column.invariant.so_far c.passed-sum.ensures (omega (arith, ints));
      small = omega (arith, ints);
    }

-- the loop ends at the last column
pub returns-clause-value : goal.returns-clause-value
returns-clause-value c =
    let end : c.loop-column.column ≡ 2 * c.args.kernels.now.reach + 1 = omega arith in
    rw end at c.loop-column.invariant.so_far

pub returns-clause-small : goal.returns-clause-small
returns-clause-small c =
    let near = reach_within c.args.kernels.now c.requires.bounds in
    omega arith

use Rattle.std.proofs.Common.{◌≡◌, ◌+◌, ◌*◌, arith}
use Rattle.std.proofs.lemmas.Int.{ints}
use Rattle.opc_base.proofs.OpticsLaws.{reach_within}
use Rattle.opc_base.proofs.SumLaws.{sum_range_start, sum_range_step}
use Rattle.plain_optics.proofs.amplitude.row_amplitude.Goals as goal

pub loop-column-init : goal.loop-column-init
loop-column-init c = record {
  re_so_far = sum_range_start _ _;
  im_so_far = sum_range_start _ _;
  small = (omega arith, omega arith);
}

pub overflow_add-re : goal.overflow_add-re
overflow_add-re c =
    let near = reach_within c.args.kernels.now c.requires.bounds in
    let so_far = c.loop-column.invariant.small.0 in
    let more = c.place_amplitude-part.ensures.small.0 in
    omega (arith, ints)

pub overflow_add-im : goal.overflow_add-im
overflow_add-im c =
    let near = reach_within c.args.kernels.now c.requires.bounds in
    let so_far = c.loop-column.invariant.small.1 in
    let more = c.place_amplitude-part.ensures.small.1 in
    omega (arith, ints)

pub loop-column-preserved : goal.loop-column-preserved
loop-column-preserved c =
    let near = reach_within c.args.kernels.now c.requires.bounds in
    let re_so_far = c.loop-column.invariant.small.0 in
    let re_more = c.place_amplitude-part.ensures.small.0 in
    let im_so_far = c.loop-column.invariant.small.1 in
    let im_more = c.place_amplitude-part.ensures.small.1 in
    record {
      re_so_far = sum_range_step _ _ _ _ _ _ c.loop-column.invariant.re_so_far c.place_amplitude-part.ensures.re (omega (arith, ints));
      im_so_far = sum_range_step _ _ _ _ _ _ c.loop-column.invariant.im_so_far c.place_amplitude-part.ensures.im (omega (arith, ints));
      small = (omega (arith, ints), omega (arith, ints));
    }

-- the loop ends at the last column
pub returns-clause-re : goal.returns-clause-re
returns-clause-re c =
    let end : c.loop-column.column ≡ 2 * c.args.kernels.now.reach + 1 = omega arith in
    rw end at c.loop-column.invariant.re_so_far

pub returns-clause-im : goal.returns-clause-im
returns-clause-im c =
    let end : c.loop-column.column ≡ 2 * c.args.kernels.now.reach + 1 = omega arith in
    rw end at c.loop-column.invariant.im_so_far

pub returns-clause-small : goal.returns-clause-small
returns-clause-small c =
    let near = reach_within c.args.kernels.now c.requires.bounds in
    let re = c.loop-column.invariant.small.0 in
    let im = c.loop-column.invariant.small.1 in
    (omega arith, omega arith)

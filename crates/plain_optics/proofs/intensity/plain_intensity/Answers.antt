use Rattle.std.proofs.Common.{◌≡◌, ℤ, ap, ap₂, ◌∙◌, take, take_all, arith}
use Rattle.std.proofs.lemmas.Int.{ints}
use Rattle.opc_base.specs.Optics.{amplitude_im, amplitude_re, weighted_power}
use Rattle.opc_base.specs.Plane.{cover}
use Rattle.opc_base.specs.declared.kernels.Kernel.{Kernel}
use Rattle.opc_base.proofs.SumLaws.{sum_each_start, sum_each_step}
use Rattle.plain_optics.proofs.WeightLaws.{weights_more, weights_so_far}
use Rattle.plain_optics.proofs.intensity.plain_intensity.Goals as goal

pub loop-kernel-init : goal.loop-kernel-init
loop-kernel-init c = record {
  items = c.as_slice-kernel-items.ensures.list;
  so_far = sum_each_start _;
  small = omega arith;
}

pub overflow_add-sum : goal.overflow_add-sum
overflow_add-sum c =
    let weights = weights_so_far c.args.kernels.now c.as_slice-kernel-items.result.now c.loop-kernel.kernel-index c.kernel-item.result
    c.requires.bounds c.as_slice-kernel-items.ensures.list c.loop-kernel-test.true c.kernel-item.is in
    omega (arith, ints)

pub loop-kernel-preserved : goal.loop-kernel-preserved
loop-kernel-preserved c =
    let set = c.args.kernels.now in
    let xs = c.as_slice-kernel-items.result.now in
    let i = c.loop-kernel.kernel-index in
    let kernel = c.kernel-item.result in
    let power : Kernel → ℤ = λ k. weighted_power k.weight (amplitude_re set k (cover c.args.rects.now) c.args.at.x c.args.at.y)
    (amplitude_im set k (cover c.args.rects.now) c.args.at.x c.args.at.y) in
    let weights = weights_so_far set xs i kernel c.requires.bounds c.as_slice-kernel-items.ensures.list c.loop-kernel-test.true c.kernel-item.is in
    let more = weights_more xs i kernel c.loop-kernel-test.true c.kernel-item.is in
    record {
      items = c.loop-kernel.invariant.items;
      so_far = sum_each_step power xs i kernel _ _ _ c.loop-kernel-test.true c.loop-kernel.invariant.so_far
          (c.weighted_power-sum.ensures.value ∙ ap₂ (weighted_power kernel.weight) c.plain_amplitude.ensures.re c.plain_amplitude.ensures.im
          ∙ ap power c.kernel-item.is)
          (omega (arith, ints));
      small = omega (arith, ints);
    }

-- the loop ends after the last kernel
pub returns : goal.returns
returns c =
    let xs = c.as_slice-kernel-items.result.now in
    let whole : take c.loop-kernel.kernel-index xs ≡ c.args.kernels.now.kernels = take_all c.loop-kernel.kernel-index xs (omega arith) ∙ c.as_slice-kernel-items.ensures.list in
    rw whole at c.loop-kernel.invariant.so_far

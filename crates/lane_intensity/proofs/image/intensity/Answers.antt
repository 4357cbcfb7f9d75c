use Rattle.std.proofs.Common.{◌≡◌, pos, length, take_all, ap, ◌∙◌, arith}
use Rattle.std.proofs.lemmas.List.{length-map}
use Rattle.opc_base.specs.Sums.{sum_each}
use Rattle.opc_base.specs.declared.kernels.Kernel.{Kernel}
use Rattle.lane_intensity.proofs.PowerSums.{power_of_kernel, powers-are, powers_start}
use Rattle.lane_intensity.proofs.image.intensity.Goals as goal

pub loop-kernel-init : goal.loop-kernel-init
loop-kernel-init c = record { within = omega arith; so_far = powers_start c.args.weights.now c.args.acc.now }

-- the second loop ends after the last kernel
pub returns-clause-value : goal.returns-clause-value
returns-clause-value c =
    let end : c.loop-kernel-2.kernel ≡ length c.args.weights.now = omega arith in
    rw end at c.loop-kernel-2.invariant.so_far

pub returns-clause-image : goal.returns-clause-image
returns-clause-image c set pixels x y is_weights are_lanes =
    let size : length c.args.weights.now ≡ length set.kernels = ap length is_weights ∙ length-map set.kernels (λ (k : Kernel). pos k.weight) in
    returns-clause-value c
    ∙ powers-are set pixels x y c.args.weights.now c.args.acc.now (length c.args.weights.now) is_weights are_lanes (omega arith)
    ∙ ap (sum_each (power_of_kernel set pixels x y)) (take_all (length c.args.weights.now) set.kernels (omega arith))

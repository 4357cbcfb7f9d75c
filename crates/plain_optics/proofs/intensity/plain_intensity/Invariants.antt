use Rattle.std.proofs.Common.{◌≡◌, ◌*◌, ◌≤◌, unsigned_abs, take, sum_by}
use Rattle.opc_base.specs.Optics.{amplitude_im, amplitude_re, weighted_power}
use Rattle.opc_base.specs.Plane.{cover}
use Rattle.opc_base.specs.Sums.{sum_each}
use Rattle.opc_base.specs.declared.kernels.Kernel.{Kernel}
use Rattle.plain_optics.proofs.intensity.plain_intensity.Given as goal

abbrev pub invariant-loop-kernel : goal.invariant-loop-kernel
invariant-loop-kernel l = record {
  items : l.kernel-items ≡ l.kernels.kernels;
  so_far : l.sum ≡ sum_each (λ (k : Kernel). weighted_power k.weight (amplitude_re l.kernels k (cover l.rects) l.fn.at.x l.fn.at.y) (amplitude_im l.kernels k (cover l.rects) l.fn.at.x l.fn.at.y)) (take l.kernel-index l.kernel-items);
  small : unsigned_abs l.sum ≤ sum_by (λ (k : Kernel). k.weight) (take l.kernel-index l.kernel-items) * (2 * 34080768 * 34080768);
}

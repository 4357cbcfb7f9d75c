use Rattle.std.proofs.Common.{◌≡◌, ◌*◌, pos, neg_ℤ}
use Rattle.opc_base.specs.Plane.{cover}
use Rattle.opc_base.specs.Sums.{sum_range}
use Rattle.plain_optics.specs.Places.{ArePartsWithin, row_im, row_re}
use Rattle.plain_optics.proofs.amplitude.plain_amplitude.Given as goal

abbrev pub invariant-loop-row : goal.invariant-loop-row
invariant-loop-row l = record {
  re_so_far : l.re ≡ sum_range (λ v. row_re l.kernels l.kernel (cover l.rects) l.fn.at.x l.fn.at.y v) (neg_ℤ (pos l.kernels.reach)) l.row;
  im_so_far : l.im ≡ sum_range (λ v. row_im l.kernels l.kernel (cover l.rects) l.fn.at.x l.fn.at.y v) (neg_ℤ (pos l.kernels.reach)) l.row;
  small : ArePartsWithin (129 * 2048 * l.row) l.re l.im;
}

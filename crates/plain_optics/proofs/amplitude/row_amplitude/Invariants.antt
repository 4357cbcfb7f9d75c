use Rattle.std.proofs.Common.{◌≡◌, ◌*◌, pos, neg_ℤ}
use Rattle.opc_base.specs.Blocks.{place_at}
use Rattle.opc_base.specs.Plane.{cover}
use Rattle.opc_base.specs.Sums.{sum_range}
use Rattle.plain_optics.specs.Places.{ArePartsWithin, place_im, place_re}
use Rattle.plain_optics.proofs.amplitude.row_amplitude.Given as goal

abbrev pub invariant-loop-column : goal.invariant-loop-column
invariant-loop-column l = record {
  re_so_far : l.re ≡ sum_range (λ u. place_re l.kernels l.kernel (cover l.rects) l.fn.at.x l.fn.at.y u (place_at l.kernels.reach l.row)) (neg_ℤ (pos l.kernels.reach)) l.column;
  im_so_far : l.im ≡ sum_range (λ u. place_im l.kernels l.kernel (cover l.rects) l.fn.at.x l.fn.at.y u (place_at l.kernels.reach l.row)) (neg_ℤ (pos l.kernels.reach)) l.column;
  small : ArePartsWithin (2048 * l.column) l.re l.im;
}

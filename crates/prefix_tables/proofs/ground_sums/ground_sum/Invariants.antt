use Rattle.std.proofs.Common.{◌≡◌, ◌*◌, ◌≤◌, unsigned_abs, pos, neg_ℤ}
use Rattle.opc_base.specs.Sums.{sum_range}
use Rattle.prefix_tables.specs.Places.{ground_row}
use Rattle.prefix_tables.proofs.ground_sums.ground_sum.Given as goal

abbrev pub invariant-loop-row : goal.invariant-loop-row
invariant-loop-row l = record {
  so_far : l.sum ≡ sum_range (λ v. ground_row l.kernels l.lane v) (neg_ℤ (pos l.kernels.reach)) l.row;
  small : unsigned_abs l.sum ≤ 2048 * 129 * l.row;
}

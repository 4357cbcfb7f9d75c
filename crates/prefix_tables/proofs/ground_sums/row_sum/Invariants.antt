use Rattle.std.proofs.Common.{◌≡◌, ◌*◌, ◌≤◌, unsigned_abs, pos, neg_ℤ}
use Rattle.opc_base.specs.Blocks.{place_at}
use Rattle.opc_base.specs.Lanes.{passed_in_lane}
use Rattle.opc_base.specs.Sums.{sum_range}
use Rattle.prefix_tables.proofs.ground_sums.row_sum.Given as goal

abbrev pub invariant-loop-column : goal.invariant-loop-column
invariant-loop-column l = record {
  so_far : l.sum ≡ sum_range (λ u. passed_in_lane l.kernels l.lane l.kernels.uncovered u (place_at l.kernels.reach l.row)) (neg_ℤ (pos l.kernels.reach)) l.column;
  small : unsigned_abs l.sum ≤ 2048 * l.column;
}

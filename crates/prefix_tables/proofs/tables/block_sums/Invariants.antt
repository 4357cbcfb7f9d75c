use Rattle.std.proofs.Common.{◌≡◌, length}
use Rattle.prefix_tables.specs.Places.{HoldsFirst, table_place}
use Rattle.prefix_tables.proofs.tables.block_sums.Given as goal

abbrev pub invariant-loop-row : goal.invariant-loop-row
invariant-loop-row l = record {
  size : length l.sums.items ≡ table_place l.kernels l.row 0 0;
  holds : HoldsFirst l.kernels l.sums.items (table_place l.kernels l.row 0 0);
}

abbrev pub invariant-loop-column : goal.invariant-loop-column
invariant-loop-column l = record {
  size : length l.sums.items ≡ table_place l.kernels l.row l.column 0;
  holds : HoldsFirst l.kernels l.sums.items (table_place l.kernels l.row l.column 0);
}

abbrev pub invariant-loop-lane : goal.invariant-loop-lane
invariant-loop-lane l = record {
  size : length l.sums.items ≡ table_place l.kernels l.row l.column l.lane;
  holds : HoldsFirst l.kernels l.sums.items (table_place l.kernels l.row l.column l.lane);
}

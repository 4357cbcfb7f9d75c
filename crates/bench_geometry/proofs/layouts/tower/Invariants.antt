use Rattle.std.proofs.Common.{◌≡◌, length}
use Rattle.bench_geometry.proofs.TowerLaws.{AreRows}
use Rattle.bench_geometry.proofs.layouts.tower.Given as goal

abbrev pub invariant-loop-k : goal.invariant-loop-k
invariant-loop-k l = record {
  size : length l.rects.items ≡ l.k;
  rows : AreRows l.rects.items;
}

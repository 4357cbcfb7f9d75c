use Rattle.std.proofs.Common.{◌≤◌, All, length}
use Rattle.opc_parallel.specs.Conditions.{IsSweepable}
use Rattle.bench_parallel.proofs.layout.moves.Given as goal

abbrev pub invariant-loop-i : goal.invariant-loop-i
invariant-loop-i l = record {
  sweepable : All IsSweepable l.list.items;
  few : length l.list.items ≤ l.i;
}

use Rattle.std.proofs.Common.{All, ◌≤◌, length}
use Rattle.opc_parallel.specs.Conditions.{IsSweepable}
use Rattle.parallel_rows.proofs.part_tests.sweeps.Given as goal

abbrev pub invariant-loop-number : goal.invariant-loop-number
invariant-loop-number l = All IsSweepable l.list.items × (length l.list.items ≤ l.number)

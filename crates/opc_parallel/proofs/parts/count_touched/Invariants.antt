use Rattle.std.proofs.Common.{◌≡◌, ◌+◌, length}
use Rattle.opc_parallel.proofs.parts.count_touched.Given as goal

abbrev pub invariant-loop-tile : goal.invariant-loop-tile
invariant-loop-tile g l = l.steps ≡ l.fn.steps + length l.yielded

use Rattle.std.proofs.Common.{◌≤◌, ◌+◌, length}
use Rattle.opc.proofs.file_host.read_some.Given as goal

abbrev pub invariant-turns : goal.invariant-turns
invariant-turns g l = length l.bytes.items ≤ l.limit + 1

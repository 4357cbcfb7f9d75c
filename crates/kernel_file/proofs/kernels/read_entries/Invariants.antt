-- The entries so far, none of which has a part out of range.
use Rattle.std.proofs.Common.{◌≡◌, ◌*◌, None}
use Rattle.kernel_file.specs.Faults.{bad_part}
use Rattle.kernel_file.specs.KernelFile.{entries_at}
use Rattle.kernel_file.proofs.kernels.read_entries.Given as goal

abbrev pub invariant-loop-k : goal.invariant-loop-k
invariant-loop-k l = record {
  read : l.entries.items ≡ entries_at l.bytes l.place l.k;
  right : bad_part l.limit l.bytes l.place (2 * l.k) ≡ None;
}

-- The kernels so far, none of which has a fault.
use Rattle.std.proofs.Common.{◌≡◌, None, map}
use Rattle.std.specs.List.{range_with_len}
use Rattle.kernel_file.specs.Faults.{kernels_fault}
use Rattle.kernel_file.specs.KernelFile.{kernel_at}
use Rattle.kernel_file.proofs.kernels.read_each.Given as goal

abbrev pub invariant-loop-index : goal.invariant-loop-index
invariant-loop-index l = record {
  read : l.kernels.items ≡ map (kernel_at l.bytes) (range_with_len 0 l.index);
  right : kernels_fault l.bytes l.index ≡ None;
}

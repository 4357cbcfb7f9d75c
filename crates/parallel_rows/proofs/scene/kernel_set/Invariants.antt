use Rattle.std.proofs.Common.{◌≡◌, All, length}
use Rattle.opc_base.specs.Optics.{IsEntryWithin}
use Rattle.parallel_rows.proofs.scene.kernel_set.Given as goal

abbrev pub invariant-loop-re : goal.invariant-loop-re
invariant-loop-re l = record {
  count : length l.entries.items ≡ l.re-index;
  small : All (IsEntryWithin 128) l.entries.items;
}

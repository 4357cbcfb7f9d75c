use Rattle.std.proofs.Common.{◌≡◌, All, length}
use Rattle.opc_base.specs.Optics.{IsEntryWithin}
use Rattle.optics_rows.proofs.sets.entries_of.Given as goal

abbrev pub invariant-loop-re : goal.invariant-loop-re
invariant-loop-re l = record {
  count : length l.entries.items ≡ l.re-index;
  within : All (IsEntryWithin 128) l.entries.items;
}

use Rattle.std.proofs.Common.{◌≡◌, All, vec_len}
use Rattle.opc_base.specs.Optics.{IsEntryWithin}
use Rattle.prefix_tables.proofs.tests.set_of.Given as goal

abbrev pub invariant-loop-re : goal.invariant-loop-re
invariant-loop-re l = record {
  count : vec_len l.entries ≡ l.re-index;
  small : All (IsEntryWithin 128) l.entries.items;
}

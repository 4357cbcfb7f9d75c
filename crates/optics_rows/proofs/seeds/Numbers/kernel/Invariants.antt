use Rattle.std.proofs.Common.{◌≡◌, All, length}
use Rattle.opc_base.specs.Optics.{IsEntryWithin}
use Rattle.optics_rows.proofs.seeds.Numbers.kernel.Given as goal

abbrev pub invariant-loop : goal.invariant-loop
invariant-loop l = record {
  count : length l.entries.items ≡ l.counter;
  within : All (IsEntryWithin l.most) l.entries.items;
}

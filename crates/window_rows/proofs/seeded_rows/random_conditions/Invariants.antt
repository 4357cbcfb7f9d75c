use Rattle.std.proofs.Common.{◌≡◌, All, length}
use Rattle.process_window.specs.Conditions.{IsCondition}
use Rattle.window_rows.proofs.seeded_rows.random_conditions.Given as goal

abbrev pub invariant-loop : goal.invariant-loop
invariant-loop l = (length l.conditions.items ≡ l.counter) × All IsCondition l.conditions.items

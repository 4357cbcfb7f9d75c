use Rattle.std.proofs.Common.{◌≡◌, drop}
use Rattle.toml.specs.View.{table_view}
use Rattle.rule_file.specs.Keys.{keys}
use Rattle.rule_file.specs.RuleText.{first_fault}
use Rattle.rule_file.proofs.check.first_fault.Given as goal

abbrev pub invariant-loop-key : goal.invariant-loop-key
invariant-loop-key l =
    first_fault (table_view l.table) keys ≡ first_fault (table_view l.table) (drop l.key-index keys)

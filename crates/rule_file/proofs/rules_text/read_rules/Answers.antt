use Rattle.std.proofs.Common.{sym, ◌∙◌, inr}
use Rattle.toml.specs.View.{table_view}
use Rattle.rule_file.proofs.KeyLaws.{fault_of_table}
use Rattle.rule_file.proofs.rules_text.read_rules.Goals as goal

pub returns-in-Some-clause-fault : goal.returns-in-Some-clause-fault
returns-in-Some-clause-fault c =
    inr (fault_of_table c.args.bytes.now (table_view c.in_ok-table.table) c.in_ok-table.ensures.text c.in_ok-table.ensures.table ∙ sym c.in-Some.ensures.fault)

pub returns-clause-valid : goal.returns-clause-valid
returns-clause-valid c =
    fault_of_table c.args.bytes.now (table_view c.in_ok-table.table) c.in_ok-table.ensures.text c.in_ok-table.ensures.table ∙ sym c.in-None.ensures.fault

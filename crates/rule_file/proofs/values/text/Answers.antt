use Rattle.toml.specs.View.{table_view}
use Rattle.rule_file.specs.Keys.{HoldsText, kind_of}
use Rattle.rule_file.specs.RuleText.{text_at}
use Rattle.rule_file.proofs.KeyLaws.{text_passes, never_None, holds_of_Some}
use Rattle.rule_file.proofs.values.text.Goals as goal

pub unreachable-requires : goal.unreachable-requires
unreachable-requires c =
    never_None (HoldsText (kind_of c.args.key)) (text_at (table_view c.args.table.now) c.args.key) c.in-None.ensures
    (text_passes (table_view c.args.table.now) c.args.key (c.requires.pass c.args.key) c.requires.name)

pub returns-clause-range : goal.returns-clause-range
returns-clause-range c =
    holds_of_Some (HoldsText (kind_of c.args.key)) (text_at (table_view c.args.table.now) c.args.key) c.in-Some.text.now c.in-Some.ensures
    (text_passes (table_view c.args.table.now) c.args.key (c.requires.pass c.args.key) c.requires.name)

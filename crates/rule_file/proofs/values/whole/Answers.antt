use Rattle.std.proofs.Common.{FitsSigned, w64, rules, sym, subst}
use Rattle.std.proofs.lemmas.Int.{to_z-of_z}
use Rattle.toml.specs.View.{table_view}
use Rattle.rule_file.specs.Keys.{HoldsNumber, kind_of}
use Rattle.rule_file.specs.RuleText.{whole_at}
use Rattle.rule_file.proofs.KeyLaws.{whole_passes, never_None, holds_of_Some}
use Rattle.rule_file.proofs.values.whole.Goals as goal

pub unreachable-requires : goal.unreachable-requires
unreachable-requires c =
    never_None (HoldsNumber (kind_of c.args.key)) (whole_at (table_view c.args.table.now) c.args.key) c.in-None.ensures
    (whole_passes (table_view c.args.table.now) c.args.key (c.requires.pass c.args.key) c.requires.whole)

pub returns-clause-range : goal.returns-clause-range
returns-clause-range c =
    let fits : FitsSigned w64 c.in-Some.n = search rules in
    subst (HoldsNumber (kind_of c.args.key)) (sym (to_z-of_z w64 c.in-Some.n fits))
    (holds_of_Some (HoldsNumber (kind_of c.args.key)) (whole_at (table_view c.args.table.now) c.args.key) c.in-Some.n c.in-Some.ensures
    (whole_passes (table_view c.args.table.now) c.args.key (c.requires.pass c.args.key) c.requires.whole))

use Rattle.std.proofs.Common.{sym, ◌∙◌}
use Rattle.rule_file.proofs.KeyLaws.{unknown_name}
use Rattle.rule_file.proofs.check.has_unknown.Goals as goal

pub returns : goal.returns
returns c = c.has_other.ensures ∙ sym (unknown_name c.args.table.now.entries)

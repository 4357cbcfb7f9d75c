use Rattle.std.proofs.Common.{ap, ◌∙◌}
use Rattle.rule_file.specs.Keys.{kind_of}
use Rattle.rule_file.specs.RuleText.{key_fault, value_fault}
use Rattle.rule_file.proofs.check.key_fault.Goals as goal

pub returns-in-Some : goal.returns-in-Some
unfolding key_fault
returns-in-Some c = c.kind_fault.ensures ∙ ap (value_fault c.args.key (kind_of c.args.key)) c.in-Some.ensures

pub returns-in-None : goal.returns-in-None
unfolding key_fault
returns-in-None c = ap (value_fault c.args.key (kind_of c.args.key)) c.in-None.ensures

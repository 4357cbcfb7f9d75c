use Rattle.rule_file.proofs.LineLaws.{line_before, line_alone}
use Rattle.rule_file.proofs.moves_text.split_line.Goals as goal

pub returns-then-end-text-clause-lines : goal.returns-then-end-text-clause-lines
returns-then-end-text-clause-lines c =
    line_before c.args.text.now c.line_end-end.result c.if-end-text.true c.line_end-end.ensures.before (c.line_end-end.ensures.found c.if-end-text.true)

pub returns-else-end-text-clause-lines : goal.returns-else-end-text-clause-lines
returns-else-end-text-clause-lines c =
    line_alone c.args.text.now c.line_end-end.result c.requires c.if-end-text.false c.line_end-end.ensures.before

use Rattle.std.proofs.Common.{ap, ◌∙◌}
use Rattle.std.specs.Option.{option_and_then}
use Rattle.rule_file.specs.MoveText.{move_at}
use Rattle.rule_file.proofs.moves_text.read_move.Goals as goal

pub returns-in-Some : goal.returns-in-Some
returns-in-Some c = c.move_at.ensures ∙ ap (option_and_then (move_at c.args.line.now)) c.in-Some.ensures.place

pub returns-in-None : goal.returns-in-None
returns-in-None c = ap (option_and_then (move_at c.args.line.now)) c.in-None.ensures.place

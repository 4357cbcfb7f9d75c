use Rattle.std.proofs.Common.{◌≡◌}
use Rattle.error_table.specs.Table.{move_line}
use Rattle.opc_session.specs.Moves.{answer_at, move_at}
use Rattle.opc_engine.specs.ErrorTable.{texts_of}
use Rattle.opc_engine.proofs.hand_moves.lines_of.Given as goal

abbrev pub invariant-loop-i : goal.invariant-loop-i
invariant-loop-i l = l.lines ≡ texts_of (λ k. move_line (move_at l.moves k) (answer_at l.answers k)) l.i

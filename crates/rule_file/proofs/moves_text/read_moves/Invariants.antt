use Rattle.std.proofs.Common.{◌≡◌, ◌+◌, ◌≤◌, ◌++◌, length}
use Rattle.std.specs.List.{filter_map, position_from}
use Rattle.rule_file.specs.MoveText.{bad_line, is_bad, lines_of, move_of, moves_of}
use Rattle.rule_file.proofs.moves_text.read_moves.Given as goal

abbrev pub invariant-loop-rest : goal.invariant-loop-rest
invariant-loop-rest l =
    (position_from is_bad l.line (lines_of l.rest) ≡ bad_line l.bytes)
    × (l.moves.items ++ filter_map move_of (lines_of l.rest) ≡ moves_of l.bytes)
    × (l.line + length l.rest ≤ 1048577)

abbrev pub decreases-loop-rest : goal.decreases-loop-rest
decreases-loop-rest l = length l.rest

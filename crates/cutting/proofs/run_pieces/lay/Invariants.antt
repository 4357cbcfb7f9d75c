use Rattle.std.proofs.Common.{◌≡◌, ◌++◌, replicate}
use Rattle.outline_model.specs.Pieces.{laid}
use Rattle.cutting.proofs.run_pieces.lay.Given as goal

abbrev pub invariant-loop-i : goal.invariant-loop-i
invariant-loop-i l = l.pieces.items ≡ l.fn.pieces.items ++ laid l.edge.side l.edge.line l.from (replicate l.i l.length)

-- The pieces of edges.
use Rattle.std.specs.Prelude.{ℕ, ℤ, pos, ◌+ℤ◌, List, [], ◌∷◌, ◌++◌}
use Rattle.opc_base.specs.declared.plane.Side.{Side}
use Rattle.outline_model.specs.declared.edge.Edge.{Edge}
use Rattle.opc_base.specs.declared.rules.CutRules.{CutRules}
use Rattle.outline_model.specs.declared.piece.EdgePiece.{EdgePiece}
use Rattle.outline_model.specs.Lengths.{lengths}

-- pieces of these lengths, one after another
unfoldable pub laid : Side → ℤ → ℤ → List ℕ → List EdgePiece
laid side line from [] = []
laid side line from (n ∷ ns) = record { side = side; line = line; lo = from; hi = from +ℤ pos n } ∷ laid side line (from +ℤ pos n) ns

abbrev pub pieces_of : CutRules → Edge → List EdgePiece
pieces_of rules e = laid e.side e.line e.lo (lengths rules e)

-- the pieces of all edges, edge by edge
unfoldable pub pieces_along : CutRules → List Edge → List EdgePiece
pieces_along rules [] = []
pieces_along rules (e ∷ es) = pieces_of rules e ++ pieces_along rules es

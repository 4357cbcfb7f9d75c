use Rattle.std.proofs.Common.{◌≡◌, take}
use Rattle.outline_model.specs.Pieces.{pieces_along}
use Rattle.cutting.proofs.run_pieces.cut_edges.Given as goal

abbrev pub invariant-loop-edge : goal.invariant-loop-edge
invariant-loop-edge l = l.pieces.items ≡ pieces_along l.rules (take l.edge-index l.edges)

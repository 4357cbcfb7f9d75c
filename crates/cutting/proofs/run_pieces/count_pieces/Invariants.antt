use Rattle.std.proofs.Common.{◌≡◌, ◌-◌, ◌<◌, ◌≤◌, length, take}
use Rattle.outline_model.specs.Edges.{edge_at}
use Rattle.cutting.specs.Limits.{reach}
use Rattle.outline_model.specs.Pieces.{pieces_along}
use Rattle.cutting.proofs.run_pieces.count_pieces.Given as goal

abbrev pub invariant-loop-edge : goal.invariant-loop-edge
invariant-loop-edge l = record {
  count : l.total ≡ length (pieces_along l.rules (take l.edge-index l.edges));
  none : l.edge-index ≡ 0 → l.total ≡ 0;
  bound : 0 < l.edge-index → l.total ≤ reach (edge_at l.edges (l.edge-index - 1));
}

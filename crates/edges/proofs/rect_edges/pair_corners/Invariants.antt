use Rattle.std.proofs.Common.{◌≡◌, ℕ, ◌+◌, ◌<◌, length}
use Rattle.signed_points.specs.Points.{point_at}
use Rattle.outline_model.specs.Edges.{edge_at}
use Rattle.edges.specs.Pairs.{IsBetween}
use Rattle.edges.proofs.rect_edges.pair_corners.Given as goal

abbrev pub invariant-loop-i : goal.invariant-loop-i
invariant-loop-i l = record {
  count : length l.edges.items ≡ l.i;
  between : (i : ℕ) → i < l.i → IsBetween l.upright l.others (point_at l.corners (i + i)) (point_at l.corners (i + i + 1)) (edge_at l.edges.items i);
}

use Rattle.std.proofs.Common.{◌≡◌, take, map}
use Rattle.gds_expand.specs.Points.{targets_of}
use Rattle.gds_expand.proofs.parts.graph_of.Given as goal

abbrev pub invariant-loop-row : goal.invariant-loop-row
invariant-loop-row l = map (λ row. row.items) l.graph.items ≡ map (λ row. targets_of row.items) (take l.row-index l.plan)

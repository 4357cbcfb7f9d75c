use Rattle.structure_graph.specs.Graph.{FallsBelow}
use Rattle.structure_graph.proofs.falls.lowest_not_falling.Given as goal

abbrev pub invariant-loop-structure : goal.invariant-loop-structure
invariant-loop-structure l = FallsBelow l.graph l.marks l.levels l.structure

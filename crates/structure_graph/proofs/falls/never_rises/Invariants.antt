use Rattle.std.proofs.Common.{ℕ, ◌<◌, ◌≤◌, slice_index, Contains}
use Rattle.structure_graph.specs.Graph.{IsMarked, references_of}
use Rattle.structure_graph.proofs.falls.never_rises.Given as goal

abbrev pub invariant-loop-structure : goal.invariant-loop-structure
invariant-loop-structure l =
    (s t : ℕ) → s < l.structure → IsMarked l.marks s → Contains (references_of l.graph s) t → slice_index l.levels t ≤ slice_index l.levels s

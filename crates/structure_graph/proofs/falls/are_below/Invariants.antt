use Rattle.std.proofs.Common.{ℕ, ◌<◌, take, slice_index, Contains}
use Rattle.structure_graph.proofs.falls.are_below.Given as goal

abbrev pub invariant-loop-structure : goal.invariant-loop-structure
invariant-loop-structure l = (t : ℕ) → Contains (take l.structure-index l.structures) t → slice_index l.levels t < l.limit

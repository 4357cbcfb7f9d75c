-- Orders in which structures are expanded, and the plans that are made so.
use Rattle.std.specs.Prelude.{◌≡◌, ℕ, ◌^◌, ◌<◌, ◌≤◌, Bool, List, length, take, slice_index, All, Contains}
use Rattle.gds_model.specs.declared.elements.Structure.{Structure}
use Rattle.gds_model.specs.declared.shape.Shape.{Shape}
use Rattle.gds_model.specs.PlacedList.{placed_list}
use Rattle.gds_model.specs.Reach.{References}
use Rattle.gds_expand.specs.Steps.{Plan, IsRanked, plan_places}
use Rattle.structure_graph.specs.Graph.{Graph, references_of, IsBottomUp, Reaches}

-- a graph has an edge for each structure that a reference names
pub record IsGraphOf (library : List Structure) (graph : Graph) : Type 0 where
  pub sized : length graph ≡ length library
  pub edge : (s t : ℕ) → References library s t → Contains (references_of graph s) t
  pub only : (s t : ℕ) → Contains (references_of graph s) t → References library s t

-- these are what the start reaches, each after those that it references
pub record IsOrderFrom (graph : Graph) (start : ℕ) (order : List ℕ) : Type 0 where
  pub up : IsBottomUp graph order
  pub reached : (s : ℕ) → Reaches graph start s → Contains order s
  pub only_reached : (s : ℕ) → Contains order s → Reaches graph start s
  pub few : length order ≤ length graph

-- structures of the library, each after those that it references
pub record IsOrder (library : List Structure) (order : List ℕ) : Type 0 where
  pub up : (k t : ℕ) → k < length order → References library (slice_index order k) t → Contains (take k order) t
  pub in_range : All (λ s. s < length library) order
  pub few : length order ≤ length library

-- the plan can be walked, and places what the listed structures place
pub record IsPlanOf (library : List Structure) (chosen : Shape → Bool) (order : List ℕ) (plan : Plan) : Type 0 where
  pub sized : length plan ≡ length library
  pub ranked : (rank : ℕ → ℕ) × IsRanked plan rank × ((s : ℕ) → rank s < 2 ^ 16)
  pub places : (s : ℕ) → Contains order s → plan_places plan (2 ^ 16) s ≡ placed_list library chosen s

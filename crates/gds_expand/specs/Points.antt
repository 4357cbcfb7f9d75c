-- How many points the structures place.
use Rattle.std.specs.Prelude.{ℕ, zero, suc, ◌+◌, ◌*◌, ◌<◌, List, [], ◌∷◌, length, take, slice_index, Contains, Vec}
use Rattle.std.specs.declared.alloc.Global.{Global}
use Rattle.gds_expand.specs.declared.points.Part.{Part}
use Rattle.gds_expand.specs.declared.points.Part.TheVariants.{Points, Copies}

-- by structure the parts that its elements place
abbrev pub Plan : Type 0
Plan = List (Vec Part Global)

abbrev pub parts_of : Plan → ℕ → List Part
parts_of [] s = []
parts_of (row ∷ rows) zero = row.items
parts_of (row ∷ rows) (suc s) = parts_of rows s

-- what a part places, where each structure places this many points
abbrev pub part_points : (ℕ → ℕ) → Part → ℕ
part_points inner (Points n) = n
part_points inner (Copies copies s) = copies * inner s

abbrev pub parts_points : (ℕ → ℕ) → List Part → ℕ
parts_points inner [] = 0
parts_points inner (part ∷ parts) = part_points inner part + parts_points inner parts

-- the points that a structure places through chains of fewer references than the depth
unfoldable pub points_in : Plan → ℕ → ℕ → ℕ
points_in plan zero s = 0
points_in plan (suc depth) s = parts_points (points_in plan depth) (parts_of plan s)

-- the structures that the parts copy
abbrev pub targets_of : List Part → List ℕ
targets_of [] = []
targets_of (Points n ∷ parts) = targets_of parts
targets_of (Copies copies s ∷ parts) = s ∷ targets_of parts

-- each structure of the list comes after those that its parts copy
abbrev pub IsOrderOf : Plan → List ℕ → Type 0
IsOrderOf plan order = (k t : ℕ) → k < length order →
    Contains (targets_of (parts_of plan (slice_index order k))) t → Contains (take k order) t

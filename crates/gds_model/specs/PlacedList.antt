-- The shapes that the structures of a library place (Stream Format Manual 6.0, SREF and AREF): those of a structure, and
-- those of the structures that it references, each copy moved.
use Rattle.std.specs.Prelude.{◌==◌, ◌&&◌, ℕ, zero, suc, ℤ, pos, ◌-ℤ◌, ◌*ℤ◌, unsigned_abs, Bool, Option, Some, None, unwrap_or, slice_index_or, List, [], ◌∷◌, map, length, if◌then◌else◌, ◌*◌, ◌+◌}
use Rattle.std.specs.List.{flat_map, range_with_len}
use Rattle.std.specs.Int.RustNames.{int_div}
use Rattle.gds_records.specs.Real.{quarter_turns}
use Rattle.gds_records.specs.declared.points.Point.{Point}
use Rattle.gds_model.specs.declared.elements.Element.{Element}
use Rattle.gds_model.specs.declared.elements.Element.TheVariants.{Shape as shape, Reference as reference}
use Rattle.gds_model.specs.declared.reference.Grid.{Grid}
use Rattle.gds_model.specs.declared.reference.Reference.{Reference}
use Rattle.gds_model.specs.declared.shape.Shape.{Shape}
use Rattle.gds_model.specs.declared.elements.Structure.{Structure}
use Rattle.gds_model.specs.declared.position.Position.{Position}
use Rattle.gds_model.specs.Reach.{elements_at, number_of}
use Rattle.gds_model.specs.Placement.{reflected, shifted, turned}

-- ---- references

-- the quarter turns of an angle, and none where there is no angle
abbrev pub turns_of : Option (List ℕ) → Option ℕ
turns_of None = Some 0
turns_of (Some angle) = quarter_turns angle

abbrev pub columns_of : Option Grid → ℤ
columns_of None = pos 1
columns_of (Some grid) = grid.columns

abbrev pub rows_of : Option Grid → ℤ
rows_of None = pos 1
rows_of (Some grid) = grid.rows

abbrev pub point_of : Reference → ℕ → Point
point_of r i = slice_index_or r.points i (record { x = pos 0; y = pos 0 })

-- from the first point to the i-th
abbrev pub displacement : Reference → ℕ → Position
displacement r i = record { x = (point_of r i).x -ℤ (point_of r 0).x; y = (point_of r i).y -ℤ (point_of r 0).y }

-- the part of a displacement that n equal steps of so many are
abbrev pub steps : ℕ → ℤ → Position → Position
steps n all d = record { x = pos n *ℤ int_div d.x all; y = pos n *ℤ int_div d.y all }

abbrev pub origin_of : Reference → Position
origin_of r = record { x = (point_of r 0).x; y = (point_of r 0).y }

-- where the copy in this row and column has the origin of its structure; a reference without array has one
abbrev pub shift_at : Reference → Option Grid → ℕ → ℕ → Position
shift_at r None row column = origin_of r
shift_at r (Some grid) row column =
    shifted (steps column grid.columns (displacement r 1)) (shifted (steps row grid.rows (displacement r 2)) (origin_of r))

-- where the copy in this row and column has a point: reflected, turned, then shifted
abbrev pub copy_map : Reference → ℕ → ℕ → Position → Position
copy_map r row column p = shifted (shift_at r r.array row column) (turned (unwrap_or (turns_of r.angle) 0) (reflected r.flip p))

-- the copies row by row, columns varying fastest
abbrev pub copy_maps : Reference → List (Position → Position)
copy_maps r =
    flat_map (λ row. map (λ column. copy_map r row column) (range_with_len 0 (unsigned_abs (columns_of r.array))))
    (range_with_len 0 (unsigned_abs (rows_of r.array)))

-- ---- chains

-- a shape, and where the references of its chain place a point
abbrev pub Mapped : Type 0
Mapped = Shape × (Position → Position)

abbrev pub moved : (Position → Position) → List Mapped → List Mapped
moved f shapes = map (λ x. (x.0, λ p. f (x.1 p))) shapes

-- the shape is on this layer and datatype
abbrev pub is_on : ℕ → ℕ → Shape → Bool
is_on layer datatype s = s.layer == layer && s.datatype == datatype

-- what the copies of a structure place, where each structure places these; a name without structure has none
abbrev pub copies_of : (ℕ → List Mapped) → List (Position → Position) → Option ℕ → List Mapped
copies_of inner maps None = []
copies_of inner maps (Some s) = flat_map (λ f. moved f (inner s)) maps

-- the chains through an element that end at a chosen shape
abbrev pub placed_by : List Structure → (Shape → Bool) → (ℕ → List Mapped) → Element → List Mapped
placed_by library chosen inner (shape s) = if chosen s then (s, λ p. p) ∷ [] else []
placed_by library chosen inner (reference r) = copies_of inner (copy_maps r) (number_of library r.name)

-- the chains from a structure of fewer references than the depth, ordered by element, then row, then column
unfoldable pub placed_in : List Structure → (Shape → Bool) → ℕ → ℕ → List Mapped
placed_in library chosen zero s = []
placed_in library chosen (suc depth) s = flat_map (placed_by library chosen (placed_in library chosen depth)) (elements_at library s)

-- the placed list: a chain without a cycle has fewer references than there are structures
abbrev pub placed_list : List Structure → (Shape → Bool) → ℕ → List Mapped
placed_list library chosen top = placed_in library chosen (length library) top

-- ---- points

-- the points of all these shapes
abbrev pub total_points : List Mapped → ℕ
total_points [] = 0
total_points (x ∷ shapes) = length x.0.points + total_points shapes

abbrev pub points_of_copies : (ℕ → ℕ) → ℕ → Option ℕ → ℕ
points_of_copies inner copies None = 0
points_of_copies inner copies (Some s) = copies * inner s

-- what an element places, where each structure places this many points
abbrev pub element_points : List Structure → (Shape → Bool) → (ℕ → ℕ) → Element → ℕ
element_points library chosen inner (shape s) = if chosen s then length s.points else 0
element_points library chosen inner (reference r) =
    points_of_copies inner (unsigned_abs (rows_of r.array) * unsigned_abs (columns_of r.array)) (number_of library r.name)

abbrev pub elements_points : List Structure → (Shape → Bool) → (ℕ → ℕ) → List Element → ℕ
elements_points library chosen inner [] = 0
elements_points library chosen inner (e ∷ elements) = element_points library chosen inner e + elements_points library chosen inner elements

-- the points of the chains from a structure, by products
unfoldable pub products_in : List Structure → (Shape → Bool) → ℕ → ℕ → ℕ
products_in library chosen zero s = 0
products_in library chosen (suc depth) s = elements_points library chosen (products_in library chosen depth) (elements_at library s)

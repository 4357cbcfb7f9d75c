-- What the elements of a structure place, as parts.
use Rattle.std.specs.Prelude.{ℕ, ◌*◌, unsigned_abs, Bool, Option, Some, None, List, [], ◌∷◌, length, if◌then◌else◌}
use Rattle.std.specs.List.{flat_map}
use Rattle.gds_model.specs.declared.elements.Element.{Element}
use Rattle.gds_model.specs.declared.elements.Element.TheVariants.{Shape as shape, Reference as reference}
use Rattle.gds_model.specs.declared.elements.Structure.{Structure}
use Rattle.gds_model.specs.declared.shape.Shape.{Shape}
use Rattle.gds_model.specs.PlacedList.{columns_of, rows_of}
use Rattle.gds_model.specs.Reach.{number_of}
use Rattle.gds_expand.specs.declared.points.Part.{Part}
use Rattle.gds_expand.specs.declared.points.Part.TheVariants.{Points, Copies}

-- so many copies of the structure, if there is one
abbrev pub copies_part : ℕ → Option ℕ → List Part
copies_part copies None = []
copies_part copies (Some s) = Copies copies s ∷ []

-- what an element places
abbrev pub parts_by : List Structure → (Shape → Bool) → Element → List Part
parts_by library chosen (shape s) = if chosen s then Points (length s.points) ∷ [] else []
parts_by library chosen (reference r) = copies_part (unsigned_abs (rows_of r.array) * unsigned_abs (columns_of r.array)) (number_of library r.name)

-- what elements place, in order
abbrev pub parts_in : List Structure → (Shape → Bool) → List Element → List Part
parts_in library chosen elements = flat_map (parts_by library chosen) elements

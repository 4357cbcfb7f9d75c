-- The layout that a mask file describes.
use Rattle.std.specs.Prelude.{ℕ, ℤ, ◌+◌, ◌*◌, ◌*ℤ◌, List, [], ◌∷◌, length, map}
use Rattle.opc_base.specs.declared.plane.Pix.{Pix}
use Rattle.opc_base.specs.declared.plane.Rect.{Rect}
use Rattle.opc_base.specs.declared.rules.OutPick.{OutPick}
use Rattle.gds_records.specs.declared.library_head.Head.{Head}
use Rattle.gds_records.specs.declared.points.Point.{Point}
use Rattle.gds_model.specs.declared.elements.Element.{Element}
use Rattle.gds_model.specs.declared.elements.Element.TheVariants as element
use Rattle.gds_model.specs.declared.shape.ShapeKind.TheVariants as shape_kind
use Rattle.gds_model.specs.Library.{StreamLibrary}
use Rattle.gds_writer.specs.MaskFile.{around, padded}

-- a point of the plane in database units
abbrev pub point_of : ℤ → Pix → Point
point_of grid p = record { x = p.x *ℤ grid; y = p.y *ℤ grid }

-- the BOUNDARYs of outlines, each of which takes 24 bytes of the file, and 8 for each point
abbrev pub shapes : OutPick → ℤ → ℕ → List (List Pix) → List Element
shapes out grid at [] = []
shapes out grid at (points ∷ outlines) =
    element.Shape
    (record { offset = at; kind = shape_kind.Boundary; layer = out.layer; datatype = out.datatype; points = map (point_of grid) points })
    ∷ shapes out grid (at + (24 + 8 * length points)) outlines

-- where the first of them stands
abbrev pub first_shape : Head → OutPick → ℕ
first_shape head out = 90 + length head.name + length (padded out.name)

-- one structure, with a BOUNDARY for each outline
abbrev pub outline_library : Head → OutPick → ℤ → List (List Pix) → StreamLibrary
outline_library head out grid outlines = record {
  head = head;
  structures = record { name = out.name; elements = shapes out grid (first_shape head out) outlines } ∷ [];
}

-- one structure, with a BOUNDARY for each rectangle
abbrev pub mask_library : Head → OutPick → ℤ → List Rect → StreamLibrary
mask_library head out grid rects = outline_library head out grid (map around rects)

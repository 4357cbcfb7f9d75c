-- The elements of a structure: the first record says what an element is, and each number or text is looked up by the kind of its record.
use Rattle.std.specs.Prelude.{ℕ, ℤ, ◌/◌, ◌==◌, nat_le, Option, Some, None, List, [], ◌∷◌, length, map, fold, slice_index, if◌then◌else◌}
use Rattle.std.specs.List.{range_with_len}
use Rattle.std.specs.Option.{option_map, unwrap_or}
use Rattle.gds_records.specs.declared.points.Point.{Point}
use Rattle.gds_records.specs.Numbers.{two_bytes, signed_two, signed_four}
use Rattle.gds_records.specs.Points.{point_in}
use Rattle.gds_records.specs.Records.{StreamRecord}
use Rattle.gds_model.specs.declared.record_kind.RecordKind.{RecordKind}
use Rattle.gds_model.specs.declared.record_kind.RecordKind.TheVariants as kind
use Rattle.gds_model.specs.declared.shape.Shape.{Shape}
use Rattle.gds_model.specs.declared.shape.ShapeKind.{ShapeKind}
use Rattle.gds_model.specs.declared.shape.ShapeKind.TheVariants as shape_kind
use Rattle.gds_model.specs.declared.reference.Reference.{Reference}
use Rattle.gds_model.specs.declared.reference.Grid.{Grid}
use Rattle.gds_model.specs.declared.elements.Element.{Element}
use Rattle.gds_model.specs.declared.elements.Element.TheVariants as element
use Rattle.gds_model.specs.RecordKind.{code_of}
use Rattle.gds_model.specs.Names.{name_of}

-- the body of the record of this kind, of which an element has at most one
abbrev pub body_of : RecordKind → List StreamRecord → Option (List ℕ)
body_of k rs = fold (λ found r. if r.code == code_of k then Some r.body else found) None rs

abbrev pub bytes_of : RecordKind → List StreamRecord → List ℕ
bytes_of k rs = unwrap_or (body_of k rs) []

-- the numbers that the records of a kind hold; an absent one is 0
abbrev pub unsigned_of : RecordKind → List StreamRecord → ℕ
unsigned_of k rs = two_bytes (bytes_of k rs) 0

abbrev pub signed_two_of : RecordKind → List StreamRecord → ℤ
signed_two_of k rs = signed_two (bytes_of k rs) 0

abbrev pub signed_four_of : RecordKind → List StreamRecord → ℤ
signed_four_of k rs = signed_four (bytes_of k rs) 0

-- the points in the body of an XY record
abbrev pub points_in : List ℕ → List Point
points_in body = map (λ i. point_in body i) (range_with_len 0 (length body / 8))

-- the columns and rows in the body of a COLROW record
abbrev pub grid_in : List ℕ → Grid
grid_in body = record { columns = signed_two body 0; rows = signed_two body 2 }

-- the numbers of a path
abbrev pub path_kind : List StreamRecord → ShapeKind
path_kind rs = shape_kind.Path (signed_two_of kind.PathType rs) (signed_four_of kind.Width rs) (signed_four_of kind.BgnExtn rs) (signed_four_of kind.EndExtn rs)

-- a shape of this kind; its datatype stands in the record of the second kind
abbrev pub shape_of : ℕ → ShapeKind → RecordKind → List StreamRecord → Shape
shape_of offset form type_kind rs = record {
  offset = offset;
  kind = form;
  layer = unsigned_of kind.Layer rs;
  datatype = unsigned_of type_kind rs;
  points = points_in (bytes_of kind.Xy rs);
}

abbrev pub reference_of : ℕ → List StreamRecord → Reference
reference_of offset rs = record {
  offset = offset;
  name = name_of (bytes_of kind.Sname rs);
  flip = nat_le 128 (slice_index (bytes_of kind.Strans rs) 0);
  mag = body_of kind.Mag rs;
  angle = body_of kind.Angle rs;
  array = option_map grid_in (body_of kind.ColRow rs);
  points = points_in (bytes_of kind.Xy rs);
}

-- the element that these records spell; TEXT and NODE are left out
abbrev pub elements_in : List StreamRecord → List Element
elements_in [] = []
elements_in (r ∷ rs) =
    if r.code == code_of kind.Boundary then element.Shape (shape_of r.offset shape_kind.Boundary kind.Datatype (r ∷ rs)) ∷ []
    else if r.code == code_of kind.Path then element.Shape (shape_of r.offset (path_kind (r ∷ rs)) kind.Datatype (r ∷ rs)) ∷ []
    else if r.code == code_of kind.Box then element.Shape (shape_of r.offset shape_kind.Box kind.BoxType (r ∷ rs)) ∷ []
    else if r.code == code_of kind.Sref then element.Reference (reference_of r.offset (r ∷ rs)) ∷ []
    else if r.code == code_of kind.Aref then element.Reference (reference_of r.offset (r ∷ rs)) ∷ []
    else []

-- Which shapes are paths.
use Rattle.std.specs.Prelude.{Option, Some, None}
use Rattle.gds_model.specs.declared.position.PathForm.{PathForm}
use Rattle.gds_model.specs.declared.shape.ShapeKind.{ShapeKind}
use Rattle.gds_model.specs.declared.shape.ShapeKind.TheVariants.{Boundary, Path, Box}
use Rattle.gds_model.specs.Outlines.{form_of}

-- the form of a path, and none of a polygon
abbrev pub form_in : ShapeKind → Option PathForm
form_in Boundary = None
form_in Box = None
form_in (Path ends width begin end) = Some (form_of ends width begin end)

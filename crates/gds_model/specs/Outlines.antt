-- What a placed shape is in pixels.
use Rattle.std.specs.Prelude.{ℤ, pos, ◌*ℤ◌, List, [], map, if◌then◌else◌}
use Rattle.std.specs.Ordering.{int_eq}
use Rattle.std.specs.Int.RustNames.{int_div}
use Rattle.opc_base.specs.declared.plane.Pix.{Pix}
use Rattle.opc_base.specs.declared.plane.Rect.{Rect}
use Rattle.opc_base.specs.declared.outline.Outline.{Outline}
use Rattle.opc_base.specs.declared.outline.Outline.TheVariants.{Polygon, Path as Rectangles}
use Rattle.gds_records.specs.declared.points.Point.{Point}
use Rattle.gds_model.specs.declared.shape.ShapeKind.{ShapeKind}
use Rattle.gds_model.specs.declared.shape.ShapeKind.TheVariants.{Boundary, Path, Box}
use Rattle.gds_model.specs.declared.position.DoubledRect.{DoubledRect}
use Rattle.gds_model.specs.declared.position.PathForm.{PathForm}
use Rattle.gds_model.specs.declared.position.Position.{Position}
use Rattle.gds_model.specs.PathRects.{path_rects}
use Rattle.gds_model.specs.PlacedList.{Mapped}

-- the point of a structure before its references place it
abbrev pub position_of : Point → Position
position_of p = record { x = p.x; y = p.y }

-- where these points are placed
abbrev pub placed_points : (Position → Position) → List Point → List Position
placed_points f points = map (λ p. f (position_of p)) points

-- the pixel at a point on the grid
abbrev pub pixel_at : ℤ → Position → Pix
pixel_at grid p = record { x = int_div p.x grid; y = int_div p.y grid }

-- the pixels of a rectangle whose corners are multiples of a pixel's side
abbrev pub pixels_in : ℤ → DoubledRect → Rect
pixels_in side r = record {
  x0 = int_div r.x0 side;
  y0 = int_div r.y0 side;
  x1 = int_div r.x1 side;
  y1 = int_div r.y1 side;
}

abbrev pub form_of : ℤ → ℤ → ℤ → ℤ → PathForm
form_of ends width begin end = record { ends = ends; width = width; begin = begin; end = end }

-- a path by its rectangles, of which a path of no width has none
abbrev pub path_outline : ℤ → PathForm → List Position → Outline
path_outline grid form points =
    if int_eq form.width (pos 0) then Rectangles [] else Rectangles (map (pixels_in (pos 2 *ℤ grid)) (path_rects form points))

-- a polygon by its points
abbrev pub outline_through : ℤ → ShapeKind → List Position → Outline
outline_through grid Boundary points = Polygon (map (pixel_at grid) points)
outline_through grid Box points = Polygon (map (pixel_at grid) points)
outline_through grid (Path ends width begin end) points = path_outline grid (form_of ends width begin end) points

-- a shape as its chain places it
abbrev pub outline_of : ℤ → Mapped → Outline
outline_of grid (s, f) = outline_through grid s.kind (placed_points f s.points)

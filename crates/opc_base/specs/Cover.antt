-- What the shapes of a layout cover: polygons, by how often they wind round a pixel, and paths, by their rectangles.
use Rattle.std.specs.Prelude.{◌≡◌, ◌⊎◌, ℕ, ◌+◌, ◌<◌, ℤ, pos, ◌+ℤ◌, ◌-ℤ◌, int_le, not, if◌then◌else◌, List, [], ◌∷◌, length, get_or, All}
use Rattle.std.specs.Ordering.{int_eq}
use Rattle.opc_base.specs.declared.plane.Pix.{Pix}
use Rattle.opc_base.specs.declared.plane.Rect.{Rect}
use Rattle.opc_base.specs.declared.outline.Outline.{Outline}
use Rattle.opc_base.specs.declared.outline.Outline.TheVariants.{Polygon, Path}
use Rattle.opc_base.specs.Plane.{PixelSet, cover, IsPixWithin, IsRectWithin}
use Rattle.opc_base.specs.Canonical.{IsSolid}

-- 1 where the row y is at or above the height
abbrev pub step : ℤ → ℤ → ℤ
step height y = if int_le height y then pos 1 else pos 0

-- What an edge counts at a pixel: 0 unless it is vertical, in the pixel's row, at or left of the pixel; else 1 where it
-- is walked downward, and -1 where it is walked upward.
abbrev pub crossing : Pix → Pix → ℤ → ℤ → ℤ
crossing from to x y = if int_le from.x x then step to.y y -ℤ step from.y y else pos 0

-- the signed count of the edges of a walk from p through these points
abbrev pub crossings_from : Pix → List Pix → ℤ → ℤ → ℤ
crossings_from p [] x y = pos 0
crossings_from p (q ∷ points) x y = crossing p q x y +ℤ crossings_from q points x y

-- the signed count of a polygon's edges at a pixel
abbrev pub crossings : List Pix → ℤ → ℤ → ℤ
crossings [] x y = pos 0
crossings (p ∷ points) x y = crossings_from p points x y

-- a polygon covers the pixels round which it winds, and a path those of its rectangles
abbrev pub outline_cover : Outline → PixelSet
outline_cover (Polygon points) x y = not (int_eq (crossings points x y) (pos 0))
outline_cover (Path rects) x y = cover rects x y

-- ---- the shapes that are placed

abbrev pub last_from : Pix → List Pix → Pix
last_from p [] = p
last_from p (q ∷ points) = last_from q points

-- the walk has a point and ends at its first one
abbrev pub IsClosed : List Pix → Type 0
IsClosed [] = ⊥
IsClosed (p ∷ points) = last_from p points ≡ p

abbrev pub IsStraight : Pix → Pix → Type 0
IsStraight p q = (p.x ≡ q.x) ⊎ (p.y ≡ q.y)

-- each edge of the walk is horizontal or vertical
abbrev pub IsRectilinear : List Pix → Type 0
IsRectilinear points = (k : ℕ) (d : Pix) → k + 1 < length points → IsStraight (get_or points k d) (get_or points (k + 1) d)

-- a closed walk along the grid, within 1,048,000 of the origin
pub record IsPolygon (points : List Pix) : Type 0 where
  pub closed : IsClosed points
  pub straight : IsRectilinear points
  pub within : All (IsPixWithin 1048000) points

-- rectangles with area, within 1,048,000 of the origin
pub record AreRectangles (rects : List Rect) : Type 0 where
  pub solid : All IsSolid rects
  pub within : All (IsRectWithin 1048000) rects

abbrev pub IsPlaced : Outline → Type 0
IsPlaced (Polygon points) = IsPolygon points
IsPlaced (Path rects) = AreRectangles rects

-- The pixels round which an outline winds.
use Rattle.std.specs.Prelude.{◌≡◌, ℕ, ◌<◌, ◌≤◌, ℤ, pos, ◌+ℤ◌, ◌-ℤ◌, ◌==◌, if◌then◌else◌, List, [], ◌∷◌, length}
use Rattle.opc_base.specs.declared.plane.Pix.{Pix}
use Rattle.opc_base.specs.declared.plane.Rect.{Rect}
use Rattle.opc_base.specs.Plane.{rect_cover}
use Rattle.opc_base.specs.Sums.{sum_each}
use Rattle.opc_base.specs.Cover.{crossings, last_from, step}
use Rattle.rect_union.specs.declared.quadrants.Quadrant.{Quadrant}
use Rattle.rect_union.specs.Quadrants.{HaveQuadrantOwnersBelow, column_total, quadrant_weight, row_total, winding}

-- the new quadrants count this much more for the owner: at a pixel, and far right in a row
pub record AddsCount (old new : List Quadrant) (owner : ℕ) (count : ℤ → ℤ → ℤ) (far : ℤ → ℤ) : Type 0 where
  pub windings : (other : ℕ) (x y : ℤ) → winding new other x y ≡ winding old other x y +ℤ (if owner == other then count x y else pos 0)
  pub rows : (other : ℕ) (y : ℤ) → row_total new other y ≡ row_total old other y +ℤ (if owner == other then far y else pos 0)
  pub columns : (other : ℕ) (x : ℤ) → column_total new other x ≡ column_total old other x
  pub owners : (n : ℕ) → owner < n → HaveQuadrantOwnersBelow n old → HaveQuadrantOwnersBelow n new
  pub small : quadrant_weight old ≤ length old → quadrant_weight new ≤ length new

-- the quadrant of a corner
abbrev pub quadrant_of : ℕ → Pix → ℤ → Quadrant
quadrant_of owner corner sign = record { y = corner.y; column = record { x = corner.x; owner = owner; sign = sign } }

-- far right a walk counts its last step less its first
abbrev pub far_count : List Pix → ℤ → ℤ
far_count [] y = pos 0
far_count (p ∷ points) y = step (last_from p points).y y -ℤ step p.y y

abbrev pub AddsPolygon : List Quadrant → List Quadrant → ℕ → List Pix → Type 0
AddsPolygon old new owner points = AddsCount old new owner (crossings points) (far_count points)

-- 1 at the pixels of a rectangle
abbrev pub rect_count : Rect → ℤ → ℤ → ℤ
rect_count r x y = if rect_cover r x y then pos 1 else pos 0

-- how many rectangles of a path cover a pixel
abbrev pub path_count : List Rect → ℤ → ℤ → ℤ
path_count rects x y = sum_each (λ r. rect_count r x y) rects

abbrev pub AddsPath : List Quadrant → List Quadrant → ℕ → List Rect → Type 0
AddsPath old new owner rects = AddsCount old new owner (path_count rects) (λ y. pos 0)

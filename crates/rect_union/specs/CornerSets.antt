-- Sets of pixels that are given by signed corners.
use Rattle.std.specs.Prelude.{◌≡◌, ◌⊎◌, ℕ, ◌≤◌, ℤ, pos, ◌≤ℤ◌, ◌-ℤ◌, unsigned_abs, if◌then◌else◌, List, [], ◌∷◌, All}
use Rattle.std.specs.Ordering.{int_eq}
use Rattle.opc_base.specs.declared.plane.Corner.{Corner}
use Rattle.opc_base.specs.declared.plane.Rect.{Rect}
use Rattle.opc_base.specs.Plane.{PixelSet, rect_cover}
use Rattle.opc_base.specs.Corners.{quadrant_sum}

-- the pixels at which the signs of the corners at or left of it and at or below it add up to 1
abbrev pub corner_set : List Corner → PixelSet
corner_set corners x y = int_eq (quadrant_sum corners x y) (pos 1)

-- no coordinate of the corner is further than this from 0
abbrev pub IsCornerWithin : ℕ → Corner → Type 0
IsCornerWithin most c = (unsigned_abs c.x ≤ most) × (unsigned_abs c.y ≤ most)

-- corners within 1,048,576 of 0, whose signs add up to 0 or 1 at each pixel, and to 0 at that limit and beyond
pub record AreCornersOfSet (corners : List Corner) : Type 0 where
  pub bits : (x y : ℤ) → (quadrant_sum corners x y ≡ pos 0) ⊎ (quadrant_sum corners x y ≡ pos 1)
  pub within : All (IsCornerWithin 1048576) corners
  pub none_right : (x y : ℤ) → pos 1048576 ≤ℤ x → quadrant_sum corners x y ≡ pos 0
  pub none_above : (x y : ℤ) → pos 1048576 ≤ℤ y → quadrant_sum corners x y ≡ pos 0

-- the sign at each pixel of a rectangle, and 0 elsewhere
abbrev pub rect_sign : ℤ → Rect → ℤ → ℤ → ℤ
rect_sign sign r x y = if rect_cover r x y then sign else pos 0

abbrev pub corner : ℤ → ℤ → ℤ → Corner
corner x y sign = record { x = x; y = y; sign = sign }

-- from the lower left by rows
abbrev pub four_corners : ℤ → Rect → List Corner
four_corners sign r =
    corner r.x0 r.y0 sign ∷ corner r.x1 r.y0 (pos 0 -ℤ sign) ∷ corner r.x0 r.y1 (pos 0 -ℤ sign) ∷ corner r.x1 r.y1 sign ∷ []

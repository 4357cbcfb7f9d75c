-- Stretches inside a rectangle.
use Rattle.std.specs.Prelude.{◌≡◌, ℕ, ◌<◌, ℤ, pos, ◌+ℤ◌, Bool, true, false, not, ◌&&◌, if◌then◌else◌, Option, Some, None, List, length, int_lt}
use Rattle.std.specs.Int.{int_min, int_max}
use Rattle.outline_model.specs.declared.fragment.Fragment.{Fragment}
use Rattle.opc_base.specs.declared.plane.Rect.{Rect}
use Rattle.opc_base.specs.declared.plane.Pix.{Pix}
use Rattle.mask_rules.specs.declared.spots.FirstSpots.{FirstSpots}
use Rattle.mask_rules.specs.declared.stretch.Stretch.{Stretch}
use Rattle.mask_rules.specs.Clashes.{of_colour}
use Rattle.mask_rules.specs.First.{IsFirst, comes_before}
use Rattle.mask_rules.specs.Stretches.{pixel_at, stretch_at}

-- a stretch that lies inside a band, which has x across and y along: not on its border across, and beside some of it
unfoldable pub is_inside : Rect → Bool → Stretch → Bool
is_inside band opens s =
    ((of_colour opens s.opens && int_lt band.x0 s.at) && int_lt s.at band.x1) && int_lt (int_max s.low band.y0) (int_min s.high band.y1)

-- the first pixel of the band after the stretch
abbrev pub spot_pixel : Bool → Rect → Bool → Stretch → Option Pix
spot_pixel v band opens s = if is_inside band opens s then Some (pixel_at v s.at (int_max s.low band.y0)) else None

-- the same, of a stretch, if there is one
abbrev pub spot_of : Bool → Rect → Bool → Option Stretch → Option Pix
spot_of v band opens None = None
spot_of v band opens (Some s) = spot_pixel v band opens s

-- a pixel of the band after a stretch that has the inside there, or the outside
abbrev pub SpotsAt : List Fragment → (ℕ → ℤ) → Bool → Rect → Bool → Pix → Type 0
SpotsAt fs line v band opens p = (k : ℕ) × (k < length fs) × (spot_pixel v band opens (stretch_at fs line v k) ≡ Some p)

-- there is a first pixel, and it comes before the other
abbrev pub is_ahead : Option Pix → Option Pix → Bool
is_ahead None other = false
is_ahead (Some p) None = true
is_ahead (Some p) (Some q) = comes_before p q

-- the rectangle's pixels of lowest place along
abbrev pub lowest : Bool → Rect → Rect
lowest true r = record { x0 = r.x0; y0 = r.y0; x1 = r.x1; y1 = r.y0 +ℤ pos 1 }
lowest false r = record { x0 = r.y0; y0 = r.x0; x1 = r.y1; y1 = r.x0 +ℤ pos 1 }

-- the first pixels of the rectangle after upright stretches, of its leftmost pixels after level ones, and of its lowest ones
-- along one direction after stretches of either sign
pub record AreFirstSpots (fs : List Fragment) (line : ℕ → ℤ) (v : Bool) (r : Rect) (opens : Bool) (spots : FirstSpots) : Type 0 where
  pub across : IsFirst (SpotsAt fs line true r opens) spots.across
  pub along : IsFirst (SpotsAt fs line false (lowest false r) opens) spots.along
  pub begins : IsFirst (SpotsAt fs line v (lowest v r) opens) spots.begins
  pub ends : IsFirst (SpotsAt fs line v (lowest v r) (not opens)) spots.ends

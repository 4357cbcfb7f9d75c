-- The outline as stretches, each of which gives the mask on both of its sides.
use Rattle.std.specs.Prelude.{◌≡◌, ◌≢◌, ℕ, ◌<◌, ℤ, pos, ◌-ℤ◌, ◌≤ℤ◌, ◌<ℤ◌, Bool, true, false, not, if◌then◌else◌, List, int_lt}
use Rattle.std.specs.Int.{int_min, int_max}
use Rattle.outline_model.specs.declared.fragment.Fragment.{Fragment}
use Rattle.opc_base.specs.declared.plane.Rect.{Rect}
use Rattle.opc_base.specs.declared.plane.Pix.{Pix}
use Rattle.opc_base.specs.Plane.{rect_cover}
use Rattle.outline_model.specs.Edges.{seen}
use Rattle.outline_model.specs.Outline.{Piece, vertical_piece, horizontal_piece}
use Rattle.mask_rules.specs.declared.stretch.Stretch.{Stretch}

-- a stretch that is walked from one place to another, with the inside on the left hand
abbrev pub walked : Bool → ℤ → ℤ → ℤ → Stretch
walked vertical at from to = record { at = at; low = int_min from to; high = int_max from to; opens = if vertical then int_lt to from else int_lt from to }

abbrev pub directed_piece : Bool → List Fragment → (ℕ → ℤ) → ℕ → Piece
directed_piece true fs line k = vertical_piece fs line k
directed_piece false fs line k = horizontal_piece fs line k

abbrev pub stretch_of : Bool → Piece → Stretch
stretch_of true p = walked true p.from.x p.from.y p.to.y
stretch_of false p = walked false p.from.y p.from.x p.to.x

-- what a fragment gives to the outline in one direction
unfoldable pub stretch_at : List Fragment → (ℕ → ℤ) → Bool → ℕ → Stretch
stretch_at fs line v k = stretch_of v (directed_piece v fs line k)

-- the stretch is beside t
abbrev pub Spans : Stretch → ℤ → Type 0
Spans s t = (s.low ≤ℤ t) × (t <ℤ s.high)

-- a place across and a place along the stretches of one direction, as a pixel
abbrev pub pixel_at : Bool → ℤ → ℤ → Pix
pixel_at true a t = record { x = a; y = t }
pixel_at false a t = record { x = t; y = a }

abbrev pub rect_at : Bool → ℤ → ℤ → ℤ → ℤ → Rect
rect_at true first past low high = record { x0 = first; y0 = low; x1 = past; y1 = high }
rect_at false first past low high = record { x0 = low; y0 = first; x1 = high; y1 = past }

-- the rectangle has pixels at this place across
abbrev pub IsAcross : Bool → Rect → ℤ → Type 0
IsAcross true r a = (r.x0 ≤ℤ a) × (a <ℤ r.x1)
IsAcross false r a = (r.y0 ≤ℤ a) × (a <ℤ r.y1)

-- the rectangle has a pixel that is after the stretch
abbrev pub StandsIn : Rect → Bool → Stretch → Type 0
StandsIn r v s = (t : ℤ) × Spans s t × (rect_cover r (pixel_at v s.at t).x (pixel_at v s.at t).y ≡ true)

-- n stretches of each direction are where the set changes
pub record IsDrawn (inside : ℤ → ℤ → Bool) (n : ℕ) (stretch : Bool → ℕ → Stretch) : Type 0 where
  pub faces : (v : Bool) (k : ℕ) (t : ℤ) → k < n → Spans (stretch v k) t
      → (seen v inside (stretch v k).at t ≡ (stretch v k).opens) × (seen v inside ((stretch v k).at -ℤ pos 1) t ≡ not (stretch v k).opens)
  pub all : (v : Bool) (a t : ℤ) → seen v inside a t ≢ seen v inside (a -ℤ pos 1) t
      → (k : ℕ) × (k < n) × ((stretch v k).at ≡ a) × Spans (stretch v k) t

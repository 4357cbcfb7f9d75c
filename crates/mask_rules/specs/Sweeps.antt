-- What a move sweeps.
use Rattle.std.specs.Prelude.{◌≡◌, ℤ, ◌≤ℤ◌, ◌<ℤ◌, Bool, true, not}
use Rattle.opc_base.specs.declared.plane.Rect.{Rect}
use Rattle.opc_base.specs.declared.plane.Pix.{Pix}
use Rattle.opc_base.specs.Plane.{rect_cover}
use Rattle.outline_model.specs.Edges.{seen}

-- a place across the band where the set is not as a move outward, or inward, makes it
pub record IsBeside (inside : ℤ → ℤ → Bool) (v : Bool) (band : Rect) (outward : Bool) : Type 0 where
  pub place : ℤ
  pub from : band.x0 ≤ℤ place
  pub below : place <ℤ band.x1
  pub free : seen v inside place band.y0 ≡ not outward

-- the set has a pixel of the rectangle as a move outward, or inward, is to make it
abbrev pub MiscountAt : (ℤ → ℤ → Bool) → Rect → Bool → Pix → Type 0
MiscountAt inside r outward p = (rect_cover r p.x p.y ≡ true) × (inside p.x p.y ≡ outward)

abbrev pub corner_of : Rect → Pix
corner_of r = record { x = r.x0; y = r.y0 }

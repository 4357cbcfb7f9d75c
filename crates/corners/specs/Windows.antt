-- What a window shows of a set of pixels, and its corners.
use Rattle.std.specs.Prelude.{◌≡◌, ◌≢◌, ◌⊎◌, ℕ, ◌≤◌, ℤ, pos, ◌+ℤ◌, ◌-ℤ◌, ◌≤ℤ◌, ◌<ℤ◌, unsigned_abs, ◌&&◌, List, All, AllPairs}
use Rattle.std.specs.Int.{int_max, int_min}
use Rattle.opc_base.specs.Plane.{PixelSet, rect_cover}
use Rattle.opc_base.specs.declared.plane.Corner.{Corner}
use Rattle.opc_base.specs.declared.plane.Rect.{Rect}

-- the pixels of a set that lie in the window
abbrev pub in_window : Rect → PixelSet → PixelSet
in_window window pixels x y = rect_cover window x y && pixels x y

-- the part of a rectangle that lies in the window
abbrev pub clip : Rect → Rect → Rect
clip window r = record { x0 = int_max r.x0 window.x0; y0 = int_max r.y0 window.y0; x1 = int_min r.x1 window.x1; y1 = int_min r.y1 window.y1 }

-- a sign from -2 to 2 that is not 0, at a lattice point of the window
pub record IsCornerIn (window : Rect) (c : Corner) : Type 0 where
  pub signed : c.sign ≢ pos 0
  pub small : unsigned_abs c.sign ≤ 2
  pub left : window.x0 ≤ℤ c.x
  pub right : c.x ≤ℤ window.x1
  pub bottom : window.y0 ≤ℤ c.y
  pub top : c.y ≤ℤ window.y1

-- no coordinate of a corner is further than this from 0, and no sign further than 2
abbrev pub LieWithin : ℕ → List Corner → Type 0
LieWithin most corners = All (λ c. (unsigned_abs c.x ≤ most) × (unsigned_abs c.y ≤ most) × (unsigned_abs c.sign ≤ 2)) corners

-- by rows from the lowest, each from the left, no two at one point
abbrev pub AreInRows : List Corner → Type 0
AreInRows corners = AllPairs (λ c d. (c.y <ℤ d.y) ⊎ ((c.y ≡ d.y) × (c.x <ℤ d.x))) corners

-- the window has each pixel within the reach of (x, y)
pub record Shows (window : Rect) (reach : ℕ) (x y : ℤ) : Type 0 where
  pub left : window.x0 ≤ℤ (x -ℤ pos reach)
  pub right : (x +ℤ pos reach) <ℤ window.x1
  pub bottom : window.y0 ≤ℤ (y -ℤ pos reach)
  pub top : (y +ℤ pos reach) <ℤ window.y1

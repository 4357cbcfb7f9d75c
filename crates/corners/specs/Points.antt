-- The signed points of rectangles, by rows: a point's line is its row.
use Rattle.std.specs.Prelude.{◌≡◌, ℤ, pos, ◌+ℤ◌, ◌<ℤ◌, int_le, Bool, ◌&&◌, if◌then◌else◌, List, [], ◌∷◌, map}
use Rattle.opc_base.specs.declared.plane.Corner.{Corner}
use Rattle.opc_base.specs.declared.plane.Rect.{Rect}
use Rattle.signed_points.specs.declared.points.Point.{Point}

pub record HasArea (r : Rect) : Type 0 where
  pub wide : r.x0 <ℤ r.x1
  pub high : r.y0 <ℤ r.y1

abbrev pub is_under : Point → ℤ → ℤ → Bool
is_under p y x = int_le p.line y && int_le p.place x

-- the sum of the signs at or below y and at or left of x
unfoldable pub quadrants : List Point → ℤ → ℤ → ℤ
quadrants [] y x = pos 0
quadrants (p ∷ ps) y x = (if is_under p y x then p.sign else pos 0) +ℤ quadrants ps y x

abbrev pub share : Point → ℤ → ℤ → ℤ
share p y x = if is_under p y x then p.sign else pos 0

-- the points as corners
abbrev pub corner_from : Point → Corner
corner_from p = record { x = p.place; y = p.line; sign = p.sign }

abbrev pub AreCornersFrom : List Point → List Corner → Type 0
AreCornersFrom points corners = corners ≡ map corner_from points

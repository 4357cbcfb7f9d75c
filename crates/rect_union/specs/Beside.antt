-- Rectangles that lie beside one another.
use Rattle.std.specs.Prelude.{◌≡◌, ℕ, ◌≤ℤ◌, List, get_or}
use Rattle.opc_base.specs.declared.plane.Rect.{Rect}

-- they have the same rows, and no column lies between them
pub record IsBeside (r s : Rect) : Type 0 where
  pub low : r.y0 ≡ s.y0
  pub high : r.y1 ≡ s.y1
  pub left : r.x0 ≤ℤ s.x1
  pub right : s.x0 ≤ℤ r.x1

-- the one at a place of a list lies so
abbrev pub IsBesideAt : List Rect → ℕ → Rect → Type 0
IsBesideAt rects place s = (d : Rect) → IsBeside (get_or rects place d) s

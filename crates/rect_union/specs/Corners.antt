-- The quadrants of signed corners.
use Rattle.std.specs.Prelude.{◌≡◌, ℕ, ◌*◌, ◌≤◌, ℤ, pos, unsigned_abs, List, length, All}
use Rattle.opc_base.specs.declared.plane.Corner.{Corner}
use Rattle.rect_union.specs.CornerSets.{corner_set}
use Rattle.rect_union.specs.declared.quadrants.Quadrant.{Quadrant}
use Rattle.rect_union.specs.Quadrants.{HaveQuadrantOwnersBelow, column_total, is_wound, quadrant_weight, row_total}

-- the quadrant of a corner
abbrev pub corner_quadrant : Corner → Quadrant
corner_quadrant c = record { y = c.y; column = record { x = c.x; owner = 0; sign = c.sign } }

abbrev pub HaveSmallSigns : List Corner → Type 0
HaveSmallSigns corners = All (λ c. unsigned_abs c.sign ≤ 128) corners

-- the quadrants of one owner count what the corners do
pub record AreQuadrantsOfCorners (corners : List Corner) (quadrants : List Quadrant) : Type 0 where
  pub covers : (x y : ℤ) → is_wound 1 quadrants x y ≡ corner_set corners x y
  pub rows : (owner : ℕ) (y : ℤ) → row_total quadrants owner y ≡ pos 0
  pub columns : (owner : ℕ) (x : ℤ) → column_total quadrants owner x ≡ pos 0
  pub owners : HaveQuadrantOwnersBelow 1 quadrants
  pub small : quadrant_weight quadrants ≤ 128 * length quadrants

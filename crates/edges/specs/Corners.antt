-- The corners of a set of pixels, in the order in which they are met along its lines.
use Rattle.std.specs.Prelude.{◌≡◌, ℤ, pos, ◌+ℤ◌, ◌-ℤ◌, int_le, int_lt, Bool, ◌&&◌, ◌||◌, if◌then◌else◌, List, [], ◌∷◌}
use Rattle.std.specs.Ordering.{int_eq}
use Rattle.opc_base.specs.declared.plane.Rect.{Rect}
use Rattle.signed_points.specs.declared.points.Point.{Point}
use Rattle.opc_base.specs.Plane.{PixelSet, rect_cover}
use Rattle.outline_model.specs.Edges.{seen}
use Rattle.signed_points.specs.Points.{IsAscending, IsSigned}

abbrev pub is_reached : Point → ℤ → ℤ → Bool
is_reached c line place = int_lt c.line line || (int_eq c.line line && int_le c.place place)

-- the sum of the signs up to a place of a line
unfoldable pub level : List Point → ℤ → ℤ → ℤ
level [] line place = pos 0
level (c ∷ cs) line place = (if is_reached c line place then c.sign else pos 0) +ℤ level cs line place

abbrev pub bit : Bool → ℤ
bit b = if b then pos 1 else pos 0

-- Each lattice point whose sign is not 0, in order: up to each place of a line the signs sum to the change of the set
-- across the line there.
pub record AreCorners (inside : PixelSet) (cs : List Point) : Type 0 where
  pub ascending : IsAscending cs
  pub signed : IsSigned cs
  pub change : (line place : ℤ) → level cs line place ≡ bit (inside line place) -ℤ bit (inside (line -ℤ pos 1) place)

-- ---- how the corners are found

-- what a rectangle changes across a line
abbrev pub edge_change : Bool → Rect → ℤ → ℤ → ℤ
edge_change upright r line place = bit (seen upright (rect_cover r) line place) -ℤ bit (seen upright (rect_cover r) (line -ℤ pos 1) place)

unfoldable pub edge_changes : Bool → List Rect → ℤ → ℤ → ℤ
edge_changes upright [] line place = pos 0
edge_changes upright (r ∷ rs) line place = edge_change upright r line place +ℤ edge_changes upright rs line place

abbrev pub sign_reached : Point → ℤ → ℤ → ℤ
sign_reached c line place = if is_reached c line place then c.sign else pos 0

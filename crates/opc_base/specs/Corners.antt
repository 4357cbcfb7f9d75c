-- The corners of a set of pixels (Cobb 1998): lattice points with a sign, whose quadrants add up to the set.
use Rattle.std.specs.Prelude.{ℤ, pos, ◌+ℤ◌, ◌-ℤ◌, int_le, ◌&&◌, List, if◌then◌else◌}
use Rattle.std.specs.Ordering.{int_eq}
use Rattle.opc_base.specs.declared.plane.Corner.{Corner}
use Rattle.opc_base.specs.Sums.{sum_each}
use Rattle.opc_base.specs.Plane.{PixelSet, indicator}

-- the sign of the lattice point (x, y): not 0 exactly at a corner of the set
abbrev pub sign_at : PixelSet → ℤ → ℤ → ℤ
sign_at pixels x y =
    indicator pixels x y -ℤ indicator pixels (x -ℤ pos 1) y -ℤ indicator pixels x (y -ℤ pos 1)
    +ℤ indicator pixels (x -ℤ pos 1) (y -ℤ pos 1)

-- the sum of the signs of the corners that are at or left of x and at or below y
abbrev pub quadrant_sum : List Corner → ℤ → ℤ → ℤ
quadrant_sum corners x y = sum_each (λ c. if int_le c.x x && int_le c.y y then c.sign else pos 0) corners

-- the sum of the signs of the corners at the point (x, y)
abbrev pub point_sum : List Corner → ℤ → ℤ → ℤ
point_sum corners x y = sum_each (λ c. if int_eq c.x x && int_eq c.y y then c.sign else pos 0) corners

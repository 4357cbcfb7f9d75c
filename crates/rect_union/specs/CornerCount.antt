-- All corners of a set, each once.
use Rattle.std.specs.Prelude.{◌≡◌, ◌≢◌, ℕ, ℤ, pos, List, length, Contains}
use Rattle.opc_base.specs.declared.plane.Pix.{Pix}
use Rattle.opc_base.specs.Plane.{PixelSet}
use Rattle.opc_base.specs.Corners.{sign_at}
use Rattle.opc_base.specs.Target.{AreDistinctCorners}

-- each lattice point whose sign is not 0 is one of these
abbrev pub HasAllCorners : PixelSet → List Pix → Type 0
HasAllCorners pixels points = (x y : ℤ) → sign_at pixels x y ≢ pos 0 → Contains points (record { x = x; y = y })

-- the set has so many corners
pub record HasCornerCount (pixels : PixelSet) (count : ℕ) : Type 0 where
  pub points : List Pix
  pub distinct : AreDistinctCorners pixels points
  pub complete : HasAllCorners pixels points
  pub counted : length points ≡ count

-- The target of a layout, and how many corners a set has.
use Rattle.std.specs.Prelude.{◌≢◌, ℕ, ◌<◌, pos, List, length, All, AllPairs}
use Rattle.std.specs.List.{list_any}
use Rattle.opc_base.specs.declared.plane.Pix.{Pix}
use Rattle.opc_base.specs.declared.outline.Outline.{Outline}
use Rattle.opc_base.specs.Plane.{PixelSet}
use Rattle.opc_base.specs.Corners.{sign_at}
use Rattle.opc_base.specs.Cover.{outline_cover}

-- the pixels that some outline covers
abbrev pub target : List Outline → PixelSet
target outlines x y = list_any (λ o. outline_cover o x y) outlines

-- a lattice point whose sign is not 0
abbrev pub IsCornerOf : PixelSet → Pix → Type 0
IsCornerOf pixels p = sign_at pixels p.x p.y ≢ pos 0

-- corners of the set, no two of them one point
pub record AreDistinctCorners (pixels : PixelSet) (points : List Pix) : Type 0 where
  pub distinct : AllPairs (λ p q. p ≢ q) points
  pub corners : All (IsCornerOf pixels) points

-- the set has more corners than this; a point with two covered pixels across it counts once
abbrev pub HasMoreCornersThan : ℕ → PixelSet → Type 0
HasMoreCornersThan most pixels = (points : List Pix) × (most < length points) × AreDistinctCorners pixels points

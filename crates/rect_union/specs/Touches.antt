-- Blocks of two by two pixels of which two are covered that meet at a corner only.
use Rattle.std.specs.Prelude.{◌≡◌, ◌⊎◌, ℕ, ◌<◌, ℤ, pos, negsuc, neg_ℤ, ◌+ℤ◌, ◌≤ℤ◌, ◌<ℤ◌, Option, Some, None, List, length, get_or}
use Rattle.opc_base.specs.declared.plane.Pix.{Pix}
use Rattle.opc_base.specs.Plane.{PixelSet}
use Rattle.opc_base.specs.Runs.{IsCornerTouch}
use Rattle.rect_union.specs.declared.quadrants.Quadrant.{Quadrant}

-- lower than the pixel, or in its row and further left
abbrev pub ComesBefore : ℤ → ℤ → Pix → Type 0
ComesBefore x y p = (y <ℤ p.y) ⊎ ((y ≡ p.y) × (x <ℤ p.x))

-- the first block that touches, or none
abbrev pub IsFirstTouch : PixelSet → Option Pix → Type 0
IsFirstTouch pixels None = (x y : ℤ) → ¬ IsCornerTouch pixels x y
IsFirstTouch pixels (Some p) = IsCornerTouch pixels p.x p.y × ((x y : ℤ) → ComesBefore x y p → ¬ IsCornerTouch pixels x y)

abbrev pub IsDouble : ℤ → Type 0
IsDouble z = (z ≡ pos 2) ⊎ (z ≡ negsuc 1)

-- the pixel left of it and below it has coordinates of 32 bits
abbrev pub IsNearPoint : Quadrant → Type 0
IsNearPoint q = (neg_ℤ (pos 1048576) ≤ℤ q.column.x) × (neg_ℤ (pos 1048576) ≤ℤ q.y)

-- the pixel left of the first point whose sign is 2 or -2, and below it
pub record IsFirstDouble (merged : List Quadrant) (p : Pix) : Type 0 where
  pub k : ℕ
  pub below : k < length merged
  pub double : (d : Quadrant) → IsDouble (get_or merged k d).column.sign
  pub across : (d : Quadrant) → (get_or merged k d).column.x ≡ p.x +ℤ pos 1
  pub up : (d : Quadrant) → (get_or merged k d).y ≡ p.y +ℤ pos 1
  pub others : (j : ℕ) (d : Quadrant) → j < k → ¬ IsDouble (get_or merged j d).column.sign

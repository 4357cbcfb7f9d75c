-- Sums of a function over the places of a window that a set of pixels or a block takes (Cobb 1998).
use Rattle.std.specs.Prelude.{ℕ, ℤ, pos, ◌+ℤ◌, ◌-ℤ◌, neg_ℤ, int_le, ◌&&◌, if◌then◌else◌}
use Rattle.opc_base.specs.Sums.{sum_window}
use Rattle.opc_base.specs.Plane.{PixelSet}
use Rattle.opc_base.specs.declared.plane.Rect.{Rect}

-- the place of a row or a column that is counted from 0
abbrev pub place_at : ℕ → ℕ → ℤ
place_at r n = neg_ℤ (pos r) +ℤ pos n

-- the place of a row or a column that is counted from the one before the first
abbrev pub place_before : ℕ → ℕ → ℤ
place_before r n = neg_ℤ (pos r) -ℤ pos 1 +ℤ pos n

-- the sum of k(u, v) over all u and v from -r to r whose pixel (x - u, y - v) is in the set
abbrev pub seen_sum : ℕ → (ℤ → ℤ → ℤ) → PixelSet → ℤ → ℤ → ℤ
seen_sum r k pixels x y = sum_window r (λ u v. if pixels (x -ℤ u) (y -ℤ v) then k u v else pos 0)

-- the sum of k(u, v) over all u at most dx and v at most dy
abbrev pub block : ℕ → (ℤ → ℤ → ℤ) → ℤ → ℤ → ℤ
block r k dx dy = sum_window r (λ u v. if int_le u dx && int_le v dy then k u v else pos 0)

-- the difference of the blocks at the four corners of a rectangle, as the pixel (x, y) sees them
abbrev pub four_blocks : ℕ → (ℤ → ℤ → ℤ) → Rect → ℤ → ℤ → ℤ
four_blocks r k rect x y =
    block r k (x -ℤ rect.x0) (y -ℤ rect.y0) -ℤ block r k (x -ℤ rect.x1) (y -ℤ rect.y0)
    -ℤ block r k (x -ℤ rect.x0) (y -ℤ rect.y1) +ℤ block r k (x -ℤ rect.x1) (y -ℤ rect.y1)

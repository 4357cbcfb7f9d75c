-- Two rectangles that lie beside one another make one.
use Rattle.std.proofs.Common.{◌≡◌, ℕ, ◌≤◌, ℤ, ◌≤ℤ◌, ◌<ℤ◌, int_le, int_lt, unsigned_abs, Bool, ◌&&◌, ◌||◌, arith}
use Rattle.std.specs.Int.{int_max, int_min}
use Rattle.std.proofs.lemmas.Int.{ints}
use Rattle.opc_base.specs.declared.plane.Rect.{Rect}
use Rattle.opc_base.specs.Canonical.{IsSolid}
use Rattle.opc_base.specs.Plane.{IsRectWithin, rect_cover}
use Rattle.rect_union.specs.Beside.{IsBeside}

columns_of_both : (a b c d x : ℤ) → a <ℤ b → c <ℤ d → a ≤ℤ d → c ≤ℤ b
    → (int_le (int_min a c) x && int_lt x (int_max b d)) ≡ ((int_le a x && int_lt x b) || (int_le c x && int_lt x d))
columns_of_both a b c d x first second left right = grind (arith, ints)

in_rows : (from upto low high a b c d : Bool) → (from && upto) ≡ ((a && b) || (c && d))
    → (from && upto && low && high) ≡ ((a && b && low && high) || (c && d && low && high))
in_rows from upto low high a b c d is = grind arith

min_within : (a b : ℤ) (most : ℕ) → unsigned_abs a ≤ most → unsigned_abs b ≤ most → unsigned_abs (int_min a b) ≤ most
min_within a b most first second = grind (arith, ints)

max_within : (a b : ℤ) (most : ℕ) → unsigned_abs a ≤ most → unsigned_abs b ≤ most → unsigned_abs (int_max a b) ≤ most
max_within a b most first second = grind (arith, ints)

module _ (r s wider : Rect) (left : wider.x0 ≡ int_min r.x0 s.x0) (right : wider.x1 ≡ int_max r.x1 s.x1) (low : wider.y0 ≡ r.y0) (high : wider.y1 ≡ r.y1) where
  pub cover-wider : (x y : ℤ) → IsBeside r s → IsSolid r → IsSolid s → rect_cover wider x y ≡ (rect_cover r x y || rect_cover s x y)
  cover-wider x y beside first second =
      rw (left, right, low, high, ← beside.low, ← beside.high)
      (in_rows (int_le (int_min r.x0 s.x0) x) (int_lt x (int_max r.x1 s.x1)) (int_le r.y0 y) (int_lt y r.y1) (int_le r.x0 x) (int_lt x r.x1) (int_le s.x0 x) (int_lt x s.x1)
      (columns_of_both r.x0 r.x1 s.x0 s.x1 x first.wide second.wide beside.left beside.right))

  pub wider_within : (most : ℕ) → IsRectWithin most r → IsRectWithin most s → IsRectWithin most wider
  wider_within most first second =
      rw (left, right, low, high) (min_within r.x0 s.x0 most first.0 second.0, first.1, max_within r.x1 s.x1 most first.2 second.2, first.3)

  pub wider_solid : IsSolid r → IsSolid s → IsSolid wider
  wider_solid first second = record {
    wide = (let a = first.wide in let b = second.wide in grind (arith, ints, left, right));
    high = rw (low, high) first.high;
  }

-- Rectangles within a limit cover nothing beyond it.
use Rattle.std.proofs.Common.{◌≡◌, ℕ, suc, ◌≤◌, ℤ, pos, neg_ℤ, int_le, int_lt, unsigned_abs, Bool, true, false, ◌&&◌, ◌||◌, if◌then◌else◌, List, [], ◌∷◌, All, refl, arith}
use Rattle.std.proofs.lemmas.Int.{ints}
use Rattle.opc_base.specs.Plane.{IsRectWithin, cover, indicator, rect_cover}
use Rattle.opc_base.specs.declared.plane.Rect.{Rect}
use Rattle.corners.specs.Windows.{in_window}

-- the square of this limit round 0
abbrev pub limit_square : ℕ → Rect
limit_square most = record { x0 = neg_ℤ (pos most); y0 = neg_ℤ (pos most); x1 = pos most; y1 = pos most }

pub limit_square_within : (most : ℕ) → IsRectWithin most (limit_square most)
limit_square_within most = (omega (arith, ints), omega (arith, ints), omega (arith, ints), omega (arith, ints))

-- one coordinate of a rectangle within the limit
above : (most : ℕ) (a x : ℤ) → unsigned_abs a ≤ most → int_le a x ≡ true → int_le (neg_ℤ (pos most)) x ≡ true
above most a x within test = grind (arith, ints)

under : (most : ℕ) (b x : ℤ) → unsigned_abs b ≤ most → int_lt x b ≡ true → int_lt x (pos most) ≡ true
under most b x within test = grind (arith, ints)

four : (a b c d p q r s : Bool) → (a ≡ true → p ≡ true) → (b ≡ true → q ≡ true) → (c ≡ true → r ≡ true) → (d ≡ true → s ≡ true) →
    (a && b && c && d) ≡ true → (p && q && r && s) ≡ true
four a b c d p q r s f g h k all = grind arith

rect_in_square : (most : ℕ) (r : Rect) (x y : ℤ) → IsRectWithin most r → rect_cover r x y ≡ true → rect_cover (limit_square most) x y ≡ true
rect_in_square most r x y within has =
    four (int_le r.x0 x) (int_lt x r.x1) (int_le r.y0 y) (int_lt y r.y1)
    (int_le (neg_ℤ (pos most)) x) (int_lt x (pos most)) (int_le (neg_ℤ (pos most)) y) (int_lt y (pos most))
    (above most r.x0 x within.0) (under most r.x1 x within.2) (above most r.y0 y within.1) (under most r.y1 y within.3) has

cover_in_square : (most : ℕ) (rects : List Rect) (x y : ℤ) → All (IsRectWithin most) rects → cover rects x y ≡ true → rect_cover (limit_square most) x y ≡ true
cover_in_square most [] x y within has = absurd (cc has)
cover_in_square most (r ∷ rects) x y within has =
    by (rect_cover r x y) (cover rects x y) has (rect_in_square most r x y (within 0 r (omega arith))) (cover_in_square most rects x y (λ k d below. within (suc k) d (omega arith)))
  where
    by : (a b : Bool) → (a || b) ≡ true → (a ≡ true → rect_cover (limit_square most) x y ≡ true) → (b ≡ true → rect_cover (limit_square most) x y ≡ true) →
        rect_cover (limit_square most) x y ≡ true
    by true b either first rest = first refl
    by false b either first rest = rest either

-- so what a window shows of them is what the square shows of that
pub in_square : (most : ℕ) (window : Rect) (rects : List Rect) (x y : ℤ) → All (IsRectWithin most) rects →
    indicator (in_window window (cover rects)) x y ≡ indicator (in_window (limit_square most) (in_window window (cover rects))) x y
in_square most window rects x y within =
    by (rect_cover window x y) (cover rects x y) (rect_cover (limit_square most) x y) (cover_in_square most rects x y within)
  where
    by : (w a b : Bool) → (a ≡ true → b ≡ true) → (if w && a then pos 1 else pos 0) ≡ (if b && (w && a) then pos 1 else pos 0)
    by w a b inside = grind (arith, ints)

-- Sets of pixels, and what a move does to one.
use Rattle.std.specs.Prelude.{◌≡◌, ℕ, ◌≤◌, ◌≤ℤ◌, ℤ, pos, negsuc, int_le, int_lt, unsigned_abs, Bool, true, false, ◌&&◌, ◌||◌, not, List, if◌then◌else◌, IsTrue, IsFalse, AllPairs}
use Rattle.std.specs.List.{list_any}
use Rattle.opc_base.specs.declared.plane.Rect.{Rect}
use Rattle.opc_base.specs.declared.plane.Pix.{Pix}
use Rattle.opc_base.specs.declared.moves.Swept.{Swept}

-- a set of pixels, as the test whether it has the pixel (x, y)
abbrev pub PixelSet : Type 0
PixelSet = ℤ → ℤ → Bool

-- the pixels of a rectangle
abbrev pub rect_cover : Rect → PixelSet
rect_cover r x y = int_le r.x0 x && int_lt x r.x1 && int_le r.y0 y && int_lt y r.y1

-- the pixels that some rectangle of the list covers
abbrev pub cover : List Rect → PixelSet
cover rects x y = list_any (λ r. rect_cover r x y) rects

-- the pixels that are not in the set
abbrev pub outside : PixelSet → PixelSet
outside inside x y = not (inside x y)

-- 1 at a pixel of the set, and else 0
abbrev pub indicator : PixelSet → ℤ → ℤ → ℤ
indicator pixels x y = if pixels x y then pos 1 else pos 0

-- the sides of a rectangle are in order
abbrev pub IsOrdered : Rect → Type 0
IsOrdered r = (r.x0 ≤ℤ r.x1) × (r.y0 ≤ℤ r.y1)

-- no coordinate is further than this from 0
abbrev pub IsPixWithin : ℕ → Pix → Type 0
IsPixWithin most p = (unsigned_abs p.x ≤ most) × (unsigned_abs p.y ≤ most)

abbrev pub IsRectWithin : ℕ → Rect → Type 0
IsRectWithin most r =
    (unsigned_abs r.x0 ≤ most) × (unsigned_abs r.y0 ≤ most) × (unsigned_abs r.x1 ≤ most) × (unsigned_abs r.y1 ≤ most)

-- no pixel lies in both sets
abbrev pub AreDisjoint : PixelSet → PixelSet → Type 0
AreDisjoint a b = (x y : ℤ) → IsTrue (a x y) → IsFalse (b x y)

-- no two rectangles of the list share a pixel
abbrev pub HaveNoOverlap : List Rect → Type 0
HaveNoOverlap rects = AllPairs (λ r s. AreDisjoint (rect_cover r) (rect_cover s)) rects

-- What a move does to a set of pixels: with sign 1 it adds the rectangle, of which the set had no pixel, and with sign -1
-- it takes the rectangle away, of which the set had each.
pub record IsSweep (s : Swept) (old new : PixelSet) : Type 0 where
  pub free : s.sign ≡ pos 1 → (x y : ℤ) → rect_cover s.rect x y ≡ true → old x y ≡ false
  pub adds : s.sign ≡ pos 1 → (x y : ℤ) → new x y ≡ (old x y || rect_cover s.rect x y)
  pub covered : s.sign ≡ negsuc 0 → (x y : ℤ) → rect_cover s.rect x y ≡ true → old x y ≡ true
  pub takes : s.sign ≡ negsuc 0 → (x y : ℤ) → new x y ≡ (old x y && not (rect_cover s.rect x y))

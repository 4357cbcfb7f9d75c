-- Rectangles that are found from the left, strip by strip.
use Rattle.std.specs.Prelude.{◌≡◌, ◌≢◌, ◌⊎◌, ℕ, ◌<◌, ◌≤◌, ℤ, pos, neg_ℤ, ◌≤ℤ◌, ◌<ℤ◌, int_le, int_lt, ◌&&◌, ◌||◌, List, length, get_or, take, All, AllPairs}
use Rattle.opc_base.specs.declared.plane.Rect.{Rect}
use Rattle.opc_base.specs.Canonical.{IsSolid}
use Rattle.opc_base.specs.Plane.{IsRectWithin, PixelSet, cover}
use Rattle.rect_union.specs.declared.strips.Strips.{Strips}

-- the pixel lies within the limit
pub record IsInLimit (limit : ℕ) (x y : ℤ) : Type 0 where
  pub left : neg_ℤ (pos limit) ≤ℤ x
  pub right : x <ℤ pos limit
  pub low : neg_ℤ (pos limit) ≤ℤ y
  pub high : y <ℤ pos limit

-- rectangles with area, within 1,048,576 of the origin
pub record AreInPlane (rects : List Rect) : Type 0 where
  pub solid : All IsSolid rects
  pub within : All (IsRectWithin 1048576) rects

-- where the two share a row, there is a gap between them
abbrev pub HaveGap : Rect → Rect → Type 0
HaveGap r s = r.y0 <ℤ s.y1 → s.y0 <ℤ r.y1 → (r.x1 <ℤ s.x0) ⊎ (s.x1 <ℤ r.x0)

-- and neither stands on the other with the same columns
pub record AreApart (r s : Rect) : Type 0 where
  pub gap : HaveGap r s
  pub below : r.y1 ≡ s.y0 → r.x0 ≡ s.x0 → r.x1 ≢ s.x1
  pub above : s.y1 ≡ r.y0 → r.x0 ≡ s.x0 → r.x1 ≢ s.x1

-- rectangles of a canonical list, in any order
pub record IsApartList (rects : List Rect) : Type 0 where
  pub solid : All IsSolid rects
  pub pairs : AllPairs AreApart rects

-- rectangles that end left of the border, and those that end at it
pub record AreParted (done reaching : List Rect) (border : ℤ) : Type 0 where
  pub apart : IsApartList done
  pub left : All (λ r. r.x1 <ℤ border) done
  pub placed : AreInPlane reaching
  pub reach : All (λ r. r.x1 ≡ border) reaching
  pub gaps : All (λ r. All (HaveGap r) reaching) done

-- they cover what the set has left of the border
pub record AreStrips (whole : PixelSet) (s : Strips) : Type 0 where
  pub parted : AreParted s.done.items s.reaching.items s.border
  pub pixels : (x y : ℤ) → (cover s.done.items x y || cover s.reaching.items x y) ≡ (int_lt x s.border && whole x y)

-- to what the old strips cover, the new ones add what the rectangles have from the old border to the new one
pub record Widens (rects : List Rect) (old new : Strips) : Type 0 where
  pub parted : AreParted new.done.items new.reaching.items new.border
  pub further : old.border ≤ℤ new.border
  pub pixels : (x y : ℤ) → (cover new.done.items x y || cover new.reaching.items x y)
      ≡ ((cover old.done.items x y || cover old.reaching.items x y) || (int_le old.border x && int_lt x new.border && cover rects x y))

-- the first i rectangles that were swept are added to those that were done before
pub record IsSharing (before swept : List Rect) (border : ℤ) (i : ℕ) (done reaching : List Rect) : Type 0 where
  pub parted : AreParted done reaching border
  pub ahead : (k : ℕ) (d : Rect) → i ≤ k → k < length swept → All (λ r. AreApart r (get_or swept k d)) done
  pub ahead_open : (k : ℕ) (d : Rect) → i ≤ k → k < length swept → All (HaveGap (get_or swept k d)) reaching
  pub pixels : (x y : ℤ) → (cover done x y || cover reaching x y) ≡ (cover before x y || cover (take i swept) x y)

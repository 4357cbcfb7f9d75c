-- Rectangles of which no two overlap.
use Rattle.std.specs.Prelude.{◌⊎◌, ◌≤ℤ◌, ◌<ℤ◌, List, All, AllPairs}
use Rattle.opc_base.specs.declared.plane.Rect.{Rect}
use Rattle.outline_model.specs.MaskRange.{IsInMask}

-- a rectangle that covers a pixel, within the limit of a mask
pub record IsSolidInLimit (r : Rect) : Type 0 where
  pub wide : r.x0 <ℤ r.x1
  pub high : r.y0 <ℤ r.y1
  pub left : IsInMask r.x0
  pub right : IsInMask r.x1
  pub bottom : IsInMask r.y0
  pub top : IsInMask r.y1

-- no pixel is in both
abbrev pub AreApart : Rect → Rect → Type 0
AreApart r s = ((r.x1 ≤ℤ s.x0) ⊎ (s.x1 ≤ℤ r.x0)) ⊎ ((r.y1 ≤ℤ s.y0) ⊎ (s.y1 ≤ℤ r.y0))

-- rectangles of which no two overlap
pub record AreSolidAndApart (rects : List Rect) : Type 0 where
  pub solid : All IsSolidInLimit rects
  pub apart : AllPairs AreApart rects

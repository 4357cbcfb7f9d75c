-- Short rows of canonical rectangles.
use Rattle.std.specs.Prelude.{◌≡◌, ℕ, ◌<◌, ℤ, pos, neg_ℤ, ◌+ℤ◌, ◌≤ℤ◌, ◌<ℤ◌, Bool, true, false, Option, Some, None, List, length, get_or}
use Rattle.opc_base.specs.declared.plane.Pix.{Pix}
use Rattle.opc_base.specs.declared.plane.Rect.{Rect}
use Rattle.opc_base.specs.Plane.{cover}
use Rattle.opc_base.specs.Runs.{IsRun}
use Rattle.mask_rules.specs.LineSets.{across, along}

-- a run of what is not in a set ends inside the field
abbrev pub EndsInside : Bool → ℤ → ℤ → Type 0
EndsInside false first past = Unit {0}
EndsInside true first past = (neg_ℤ (pos 1048576) <ℤ first) × (past <ℤ pos 1048576)

-- rows of fewer than `least` pixels that end inside
pub record IsShort (out : Bool) (least : ℤ) (r : Rect) : Type 0 where
  pub short : r.x1 <ℤ (r.x0 +ℤ least)
  pub ends : EndsInside out r.x0 r.x1

-- the lowest pixel of the rectangle, the leftmost in its row
abbrev pub lowest : Bool → Rect → Pix
lowest false r = record { x = r.x0; y = r.y0 }
lowest true r = record { x = r.y0; y = r.x0 }

-- the lowest pixel of a rectangle that is short, or none
abbrev pub IsShortPlace : Bool → Bool → ℤ → Rect → Option Pix → Type 0
IsShortPlace turn out least r None = ¬ IsShort out least r
IsShortPlace turn out least r (Some p) = IsShort out least r × (p ≡ lowest turn r)

-- the lowest pixel of a short one of the first i rectangles
pub record IsShortAmong (turn out : Bool) (least : ℤ) (rects : List Rect) (i : ℕ) (p : Pix) : Type 0 where
  pub k : ℕ
  pub before : k < i
  pub below : k < length rects
  pub short : (d : Rect) → IsShort out least (get_or rects k d)
  pub is : (d : Rect) → p ≡ lowest turn (get_or rects k d)

-- the pixel lies in a short run that ends inside
pub record LiesInside (turn out : Bool) (least : ℤ) (rects : List Rect) (p : Pix) : Type 0 where
  pub first : ℤ
  pub past : ℤ
  pub run : IsRun (λ s. cover rects s (across turn p)) first past
  pub from : first ≤ℤ along turn p
  pub to : along turn p <ℤ past
  pub short : past <ℤ (first +ℤ least)
  pub ends : EndsInside out first past

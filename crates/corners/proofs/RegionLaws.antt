-- The rectangles of a region are apart, and how far corners in a window are from 0.
use Rattle.std.proofs.Common.{◌≡◌, inl, inr, ℕ, ◌≤◌, ℤ, ◌≤ℤ◌, ◌<ℤ◌, unsigned_abs, Bool, true, false, IsFalse, List, All, refl, arith}
use Rattle.std.proofs.lemmas.Int.{ints}
use Rattle.opc_base.specs.Canonical.{AreCanonical, Precedes}
use Rattle.opc_base.specs.Plane.{HaveNoOverlap, IsRectWithin, rect_cover}
use Rattle.opc_base.specs.declared.plane.Corner.{Corner}
use Rattle.opc_base.specs.declared.plane.Rect.{Rect}
use Rattle.corners.specs.Windows.{IsCornerIn, LieWithin}

-- ---- rectangles

false_unless : (b : Bool) → (b ≡ true → ⊥) → IsFalse b
false_unless true never = absurd (never refl)
false_unless false never = refl

-- the pixel lies in the rectangle
record IsIn (r : Rect) (x y : ℤ) : Type 0 where
  pub left : r.x0 ≤ℤ x
  pub right : x <ℤ r.x1
  pub low : r.y0 ≤ℤ y
  pub high : y <ℤ r.y1

IsIn-rect_cover : (r : Rect) (x y : ℤ) → rect_cover r x y ≡ true → IsIn r x y
IsIn-rect_cover r x y is = record { left = grind (arith, ints); right = grind (arith, ints); low = grind (arith, ints); high = grind (arith, ints) }

no_pixel_in_both : (r s : Rect) (x y : ℤ) → Precedes r s → IsIn r x y → IsIn s x y → ⊥
no_pixel_in_both r s x y order in_r in_s =
    let high = in_r.high in let low = in_s.low in
    let left_r = in_r.left in let right_r = in_r.right in let left_s = in_s.left in let right_s = in_s.right in
    elim (order.apart (omega (arith, ints))) [ inl gap ↦ omega (arith, ints) | inr gap ↦ omega (arith, ints) ]

-- canonical rectangles share no pixel
pub no_overlap : (rects : List Rect) → AreCanonical rects → HaveNoOverlap rects
no_overlap rects canonical i j d before below x y in_first = false_unless _ (λ in_second.
    no_pixel_in_both _ _ x y (canonical.pairs i j d before below) (IsIn-rect_cover _ x y in_first) (IsIn-rect_cover _ x y in_second))

-- rectangles within a limit are within a greater one
pub wider : (most more : ℕ) (rects : List Rect) → most ≤ more → All (IsRectWithin most) rects → All (IsRectWithin more) rects
wider most more rects room within k d below =
    let is = within k d below in
    let x0 = is.0 in let y0 = is.1 in let x1 = is.2 in let y1 = is.3 in
    (omega arith, omega arith, omega arith, omega arith)

-- ---- corners

corner_within : (most : ℕ) (window : Rect) (c : Corner) → IsRectWithin most window → IsCornerIn window c →
    (unsigned_abs c.x ≤ most) × (unsigned_abs c.y ≤ most) × (unsigned_abs c.sign ≤ 2)
corner_within most window c within is =
    let x0 = within.0 in let y0 = within.1 in let x1 = within.2 in let y1 = within.3 in
    let left = is.left in let right = is.right in let bottom = is.bottom in let top = is.top in
    (omega (arith, ints), omega (arith, ints), is.small)

-- corners in a window lie no further from 0 than the window
pub corners_within : (most : ℕ) (window : Rect) (corners : List Corner) → IsRectWithin most window → All (IsCornerIn window) corners → LieWithin most corners
corners_within most window corners within each k d below = corner_within most window _ within (each k d below)

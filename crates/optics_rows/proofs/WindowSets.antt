-- The corners of what a window shows are the corners of a set.
use Rattle.std.proofs.Common.{◌≡◌, ◌⊎◌, inl, inr, ℤ, pos, ◌≤ℤ◌, Bool, true, false, ◌&&◌, if◌then◌else◌, List, All, refl, ap, ◌∙◌, arith}
use Rattle.std.proofs.lemmas.Int.{ints}
use Rattle.std.specs.Ordering.{int_eq}
use Rattle.opc_base.specs.Corners.{quadrant_sum}
use Rattle.opc_base.specs.Plane.{IsRectWithin, PixelSet, indicator, rect_cover}
use Rattle.opc_base.specs.declared.plane.Corner.{Corner}
use Rattle.opc_base.specs.declared.plane.Rect.{Rect}
use Rattle.corners.specs.Windows.{IsCornerIn, in_window}
use Rattle.corners.proofs.RegionLaws.{corners_within}
use Rattle.rect_union.specs.CornerSets.{AreCornersOfSet, corner_set}

bit : (b : Bool) → ((if b then pos 1 else pos 0) ≡ pos 0) ⊎ ((if b then pos 1 else pos 0) ≡ pos 1)
bit true = inr refl
bit false = inl refl

bit_is : (b : Bool) → int_eq (if b then pos 1 else pos 0) (pos 1) ≡ b
bit_is true = refl
bit_is false = refl

hidden : (b c : Bool) → b ≡ false → (if b && c then pos 1 else pos 0) ≡ pos 0
hidden b c is = rw is

right_of_window : (window : Rect) (x y : ℤ) → IsRectWithin 1048000 window → pos 1048576 ≤ℤ x → rect_cover window x y ≡ false
right_of_window window x y within right = let most = within.2 in grind (arith, ints)

above_window : (window : Rect) (x y : ℤ) → IsRectWithin 1048000 window → pos 1048576 ≤ℤ y → rect_cover window x y ≡ false
above_window window x y within above = let most = within.3 in grind (arith, ints)

abbrev pub AddUpTo : List Corner → PixelSet → Type 0
AddUpTo corners pixels = (x y : ℤ) → quadrant_sum corners x y ≡ indicator pixels x y

pub corners_of_set : (window : Rect) (pixels : PixelSet) (corners : List Corner) → IsRectWithin 1048000 window → All (IsCornerIn window) corners →
    AddUpTo corners (in_window window pixels) → AreCornersOfSet corners
corners_of_set window pixels corners within each sums = record {
  bits = λ x y. rw (sums x y) (bit (in_window window pixels x y));
  within = λ k d below. let is = corners_within 1048000 window corners within each k d below in let a = is.0 in let b = is.1 in (omega arith, omega arith);
  none_right = λ x y right. sums x y ∙ hidden (rect_cover window x y) (pixels x y) (right_of_window window x y within right);
  none_above = λ x y above. sums x y ∙ hidden (rect_cover window x y) (pixels x y) (above_window window x y within above);
}

pub set_is : (window : Rect) (pixels : PixelSet) (corners : List Corner) → AddUpTo corners (in_window window pixels) →
    (x y : ℤ) → corner_set corners x y ≡ in_window window pixels x y
set_is window pixels corners sums x y = ap (λ s. int_eq s (pos 1)) (sums x y) ∙ bit_is (in_window window pixels x y)

-- The signs at single points, from sums over quadrants.
use Rattle.std.proofs.Common.{◌≡◌, ◌≢◌, ◌⊎◌, inl, inr, suc, ◌≤◌, ℤ, pos, ◌+ℤ◌, ◌-ℤ◌, int_eq, int_le, Bool, true, false, ◌&&◌, if◌then◌else◌, List, [], ◌∷◌, length, map, refl, sym, ◌∙◌, ap, ap₂, arith}
use Rattle.std.specs.Prelude.{Contains}
use Rattle.std.proofs.lemmas.Int.{ints}
use Rattle.std.proofs.lemmas.List.{length-map}
use Rattle.opc_base.specs.declared.plane.Corner.{Corner}
use Rattle.opc_base.specs.declared.plane.Pix.{Pix}
use Rattle.opc_base.specs.declared.plane.Rect.{Rect}
use Rattle.opc_base.specs.Sums.{sum_each}
use Rattle.opc_base.specs.Plane.{PixelSet, cover, indicator}
use Rattle.opc_base.specs.Corners.{point_sum, quadrant_sum, sign_at}
use Rattle.opc_base.specs.Canonical.{AreCanonical}
use Rattle.rect_union.specs.CornerCount.{HasAllCorners}
use Rattle.rect_union.specs.CornerSets.{AreCornersOfSet, corner_set}
use Rattle.rect_union.proofs.LowerSides.{at_most_corners, known}

-- a test and the one a step before it, and whether they differ
abbrev IsStep : Bool → Bool → Bool → Type 0
IsStep at before here = ((at ≡ true) × (before ≡ true) × (here ≡ false)) ⊎ (((at ≡ true) × (before ≡ false) × (here ≡ true)) ⊎ ((at ≡ false) × (before ≡ false) × (here ≡ false)))

step_at : (c x : ℤ) → IsStep (int_le c x) (int_le c (x -ℤ pos 1)) (int_eq c x)
step_at c x = elim (known (int_le c x)) [
  | inl at ↦ elim (known (int_le c (x -ℤ pos 1))) [
    | inl before ↦ inl (at, before, grind (arith, ints))
    | inr not ↦ inr (inl (at, not, grind (arith, ints)))
  ]
  | inr off ↦ inr (inr (off, grind (arith, ints), grind (arith, ints)))
]

four_tests : (a b c d e f : Bool) (sign : ℤ) → IsStep a b e → IsStep c d f
    → ((if a && c then sign else pos 0) -ℤ (if b && c then sign else pos 0) -ℤ (if a && d then sign else pos 0) +ℤ (if b && d then sign else pos 0))
    ≡ (if e && f then sign else pos 0)
four_tests a b c d e f sign (inl (p, q, r)) (inl (s, t, u)) = simp (p, q, r, s, t, u) (omega (arith, ints))
four_tests a b c d e f sign (inl (p, q, r)) (inr (inl (s, t, u))) = simp (p, q, r, s, t, u) (omega (arith, ints))
four_tests a b c d e f sign (inl (p, q, r)) (inr (inr (s, t, u))) = simp (p, q, r, s, t, u) (omega (arith, ints))
four_tests a b c d e f sign (inr (inl (p, q, r))) (inl (s, t, u)) = simp (p, q, r, s, t, u) (omega (arith, ints))
four_tests a b c d e f sign (inr (inl (p, q, r))) (inr (inl (s, t, u))) = simp (p, q, r, s, t, u) (omega (arith, ints))
four_tests a b c d e f sign (inr (inl (p, q, r))) (inr (inr (s, t, u))) = simp (p, q, r, s, t, u) (omega (arith, ints))
four_tests a b c d e f sign (inr (inr (p, q, r))) (inl (s, t, u)) = simp (p, q, r, s, t, u) (omega (arith, ints))
four_tests a b c d e f sign (inr (inr (p, q, r))) (inr (inl (s, t, u))) = simp (p, q, r, s, t, u) (omega (arith, ints))
four_tests a b c d e f sign (inr (inr (p, q, r))) (inr (inr (s, t, u))) = simp (p, q, r, s, t, u) (omega (arith, ints))

four_sums : (a b c d e p q r s t z : ℤ) → p -ℤ q -ℤ r +ℤ s ≡ t → a -ℤ b -ℤ c +ℤ d ≡ e → z ≡ t +ℤ e
    → (p +ℤ a) -ℤ (q +ℤ b) -ℤ (r +ℤ c) +ℤ (s +ℤ d) ≡ z
four_sums a b c d e p q r s t z first second is = omega (arith, ints)

-- the sums at a point and at the three before it give the signs at the point
pub point_sum-quadrants : (corners : List Corner) (x y : ℤ)
    → (quadrant_sum corners x y -ℤ quadrant_sum corners (x -ℤ pos 1) y -ℤ quadrant_sum corners x (y -ℤ pos 1) +ℤ quadrant_sum corners (x -ℤ pos 1) (y -ℤ pos 1))
    ≡ point_sum corners x y
unfolding sum_each
point_sum-quadrants [] x y = omega (arith, ints)
point_sum-quadrants (c ∷ corners) x y =
    four_sums (quadrant_sum corners x y) (quadrant_sum corners (x -ℤ pos 1) y) (quadrant_sum corners x (y -ℤ pos 1)) (quadrant_sum corners (x -ℤ pos 1) (y -ℤ pos 1)) (point_sum corners x y)
    (if int_le c.x x && int_le c.y y then c.sign else pos 0) (if int_le c.x (x -ℤ pos 1) && int_le c.y y then c.sign else pos 0)
    (if int_le c.x x && int_le c.y (y -ℤ pos 1) then c.sign else pos 0) (if int_le c.x (x -ℤ pos 1) && int_le c.y (y -ℤ pos 1) then c.sign else pos 0)
    (if int_eq c.x x && int_eq c.y y then c.sign else pos 0) (point_sum (c ∷ corners) x y)
    (four_tests (int_le c.x x) (int_le c.x (x -ℤ pos 1)) (int_le c.y y) (int_le c.y (y -ℤ pos 1)) (int_eq c.x x) (int_eq c.y y) c.sign (step_at c.x x) (step_at c.y y))
    (point_sum-quadrants corners x y) refl

-- where the corners sum to the set, they have its signs
pub sign_of_corners : (pixels : PixelSet) (corners : List Corner) → ((x y : ℤ) → quadrant_sum corners x y ≡ indicator pixels x y)
    → (x y : ℤ) → sign_at pixels x y ≡ point_sum corners x y
sign_of_corners pixels corners is x y =
    let a = is x y in let b = is (x -ℤ pos 1) y in let c = is x (y -ℤ pos 1) in let d = is (x -ℤ pos 1) (y -ℤ pos 1) in
    let sums = point_sum-quadrants corners x y in omega (arith, ints)

-- ---- at most as many rectangles as corners

abbrev pub point_of : Corner → Pix
point_of c = record { x = c.x; y = c.y }

away : (c : Corner) (x y : ℤ) → int_eq c.x x && int_eq c.y y ≡ false → (if int_eq c.x x && int_eq c.y y then c.sign else pos 0) ≡ pos 0
away c x y is = rw is refl

same_point : (c : Corner) (x y : ℤ) → int_eq c.x x && int_eq c.y y ≡ true → point_of c ≡ record { x = x; y = y }
same_point c x y is =
    let across : c.x ≡ x = grind (arith, ints) in let up : c.y ≡ y = grind (arith, ints) in
    let make : ℤ → ℤ → Pix = λ p q. record { x = p; y = q } in ap₂ make across up

pub has_point : (corners : List Corner) (x y : ℤ) → point_sum corners x y ≢ pos 0 → Contains (map point_of corners) (record { x = x; y = y })
unfolding sum_each
has_point [] x y some = absurd (some refl)
has_point (c ∷ corners) x y some = elim (known (int_eq c.x x && int_eq c.y y)) [
  | inl here ↦ (0, omega arith, same_point c x y here)
  | inr off ↦ (
      let none = away c x y off in
      let rest = has_point corners x y (λ is. some (omega (arith, ints))) in
      (suc rest.0, (let below = rest.1 in omega arith), rest.2))
]

bit_sum : (z : ℤ) → (z ≡ pos 0) ⊎ (z ≡ pos 1) → z ≡ (if int_eq z (pos 1) then pos 1 else pos 0)
bit_sum z (inl is) = rw is refl
bit_sum z (inr is) = rw is refl

pub few_corner_rects : (corners : List Corner) (rects : List Rect) → AreCornersOfSet corners → AreCanonical rects
    → ((x y : ℤ) → cover rects x y ≡ corner_set corners x y) → length rects ≤ length corners
few_corner_rects corners rects set canonical pixels =
    let sums : (x y : ℤ) → quadrant_sum corners x y ≡ indicator (cover rects) x y = λ x y.
    bit_sum (quadrant_sum corners x y) (set.bits x y) ∙ ap (λ (b : Bool). if b then pos 1 else pos 0) (sym (pixels x y)) in
    let complete : HasAllCorners (cover rects) (map point_of corners) = λ x y corner.
    has_point corners x y (λ none. corner (sign_of_corners (cover rects) corners sums x y ∙ none)) in
    let few = at_most_corners rects (map point_of corners) canonical complete in
    let size : length (map point_of corners) ≡ length corners = simp length-map in omega arith

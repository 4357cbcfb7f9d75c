-- The four signed corners of each rectangle sum to how many rectangles cover a pixel.
use Rattle.std.proofs.Common.{◌≡◌, inl, inr, ℕ, suc, ◌<◌, ℤ, pos, ◌+ℤ◌, ◌-ℤ◌, ◌<ℤ◌, ◌≤ℤ◌, int_le, int_lt, Bool, true, false, ◌&&◌, ◌||◌, if◌then◌else◌, List, [], ◌∷◌, ◌++◌, length, get_or, refl, arith}
use Rattle.std.proofs.lemmas.Int.{ints}
use Rattle.opc_base.specs.declared.plane.Corner.{Corner}
use Rattle.opc_base.specs.declared.plane.Rect.{Rect}
use Rattle.opc_base.specs.Canonical.{AreCanonical, IsSolid, Precedes}
use Rattle.opc_base.specs.Corners.{quadrant_sum}
use Rattle.opc_base.specs.Plane.{IsRectWithin, cover, indicator, rect_cover}
use Rattle.std.proofs.lemmas.List.Elements.{All-append, All-push}
use Rattle.std.specs.Prelude.{All}
use Rattle.rect_union.specs.CornerSets.{IsCornerWithin, corner, four_corners, rect_sign}
use Rattle.opc_base.specs.Sums.{sum_each}
use Rattle.rect_union.specs.Outlines.{path_count}
use Rattle.rect_union.proofs.LowerSides.{known}
use Rattle.rect_union.proofs.SumLaws.{sum_each-append}

corner_parts : (a b c d e f : Bool) (s t : ℤ) → s +ℤ t ≡ pos 0 → (b ≡ true → c ≡ false) → (b ≡ false → c ≡ true) → (e ≡ true → f ≡ false) → (e ≡ false → f ≡ true)
    → (c ≡ true → a ≡ true) → (f ≡ true → d ≡ true)
    → (if a && b && d && e then s else pos 0)
    ≡ (if a && d then s else pos 0) +ℤ (if c && d then t else pos 0) +ℤ (if a && f then t else pos 0) +ℤ (if c && f then s else pos 0)
corner_parts a b c d e f s t o g h i j k l = grind (arith, ints)

corners_sum : (x0 x1 y0 y1 x y s t : ℤ) → s +ℤ t ≡ pos 0 → x0 <ℤ x1 → y0 <ℤ y1
    → (if int_le x0 x && int_lt x x1 && int_le y0 y && int_lt y y1 then s else pos 0)
    ≡ (if int_le x0 x && int_le y0 y then s else pos 0) +ℤ (if int_le x1 x && int_le y0 y then t else pos 0)
    +ℤ (if int_le x0 x && int_le y1 y then t else pos 0) +ℤ (if int_le x1 x && int_le y1 y then s else pos 0)
corners_sum x0 x1 y0 y1 x y s t opposite wide high =
    corner_parts (int_le x0 x) (int_lt x x1) (int_le x1 x) (int_le y0 y) (int_lt y y1) (int_le y1 y) s t opposite
    (λ h. grind (arith, ints)) (λ h. grind (arith, ints)) (λ h. grind (arith, ints)) (λ h. grind (arith, ints)) (λ h. grind (arith, ints)) (λ h. grind (arith, ints))

four_sum : (f : Corner → ℤ) (a b c d : Corner) → sum_each f (a ∷ b ∷ c ∷ d ∷ []) ≡ f a +ℤ f b +ℤ f c +ℤ f d
unfolding sum_each
four_sum f a b c d = omega (arith, ints)

pub pushes_rect : (old : List Corner) (r : Rect) (s : ℤ) → IsSolid r → (x y : ℤ)
    → quadrant_sum (old ++ four_corners s r) x y ≡ quadrant_sum old x y +ℤ rect_sign s r x y
pushes_rect old r s solid x y =
    let f : Corner → ℤ = λ c. if int_le c.x x && int_le c.y y then c.sign else pos 0 in
    let t : ℤ = pos 0 -ℤ s in
    let all = sum_each-append f old (four_corners s r) in
    let four = four_sum f (corner r.x0 r.y0 s) (corner r.x1 r.y0 t) (corner r.x0 r.y1 t) (corner r.x1 r.y1 s) in
    let parts = corners_sum r.x0 r.x1 r.y0 r.y1 x y s t (omega (arith, ints)) solid.wide solid.high in omega (arith, ints)

pub pushes_within : (old : List Corner) (r : Rect) (s : ℤ) → All (IsCornerWithin 1048576) old → IsRectWithin 1048576 r → All (IsCornerWithin 1048576) (old ++ four_corners s r)
pushes_within old r s within near =
    let t : ℤ = pos 0 -ℤ s in
    let a : Corner = corner r.x0 r.y0 s in
    let b : Corner = corner r.x1 r.y0 t in
    let c : Corner = corner r.x0 r.y1 t in
    let d : Corner = corner r.x1 r.y1 s in
    All-append (IsCornerWithin 1048576) old (four_corners s r) within
    (All-push (IsCornerWithin 1048576) (a ∷ b ∷ c ∷ []) d
    (All-push (IsCornerWithin 1048576) (a ∷ b ∷ []) c
    (All-push (IsCornerWithin 1048576) (a ∷ []) b
    (All-push (IsCornerWithin 1048576) [] a (λ k e below. absurd (omega arith)) (near.0, near.1)) (near.2, near.1)) (near.0, near.3)) (near.2, near.3))

-- ---- canonical rectangles

record IsIn (r : Rect) (x y : ℤ) : Type 0 where
  pub left : r.x0 ≤ℤ x
  pub right : x <ℤ r.x1
  pub low : r.y0 ≤ℤ y
  pub high : y <ℤ r.y1

is_in : (r : Rect) (x y : ℤ) → rect_cover r x y ≡ true → IsIn r x y
is_in r x y is = record { left = grind (arith, ints); right = grind (arith, ints); low = grind (arith, ints); high = grind (arith, ints) }

overlap : (r s : Rect) (x y : ℤ) → Precedes r s → rect_cover r x y ≡ true → rect_cover s x y ≡ true → ⊥
overlap r s x y pair first second =
    let a : IsIn r x y = is_in r x y first in let b : IsIn s x y = is_in s x y second in
    let left = a.left in let right = a.right in let low = a.low in let high = a.high in
    let start = b.left in let end = b.right in let bottom = b.low in let top = b.high in
    elim (pair.apart (omega (arith, ints))) [ inl gap ↦ omega (arith, ints) | inr gap ↦ omega (arith, ints) ]

not_both : (r s : Rect) (x y : ℤ) → IsSolid s → Precedes r s → rect_cover r x y ≡ true → rect_cover s x y ≡ false
not_both r s x y solid pair inside = elim (known (rect_cover s x y)) [
  | inl also ↦ absurd (overlap r s x y pair inside also)
  | inr not ↦ not
]

-- a pixel is in one rectangle at most
one_at_most : (here : Bool) (rest : ℤ) (others : Bool) → rest ≡ (if others then pos 1 else pos 0) → (here ≡ true → others ≡ false)
    → (if here then pos 1 else pos 0) +ℤ rest ≡ (if here || others then pos 1 else pos 0)
one_at_most true rest others is none = (let off = none refl in rw (is, off) refl)
one_at_most false rest true is none = rw is refl
one_at_most false rest false is none = rw is refl

none_of : (r : Rect) (rects : List Rect) (x y : ℤ) → ((k : ℕ) (d : Rect) → k < length rects → IsSolid (get_or rects k d)) → ((k : ℕ) (d : Rect) → k < length rects → Precedes r (get_or rects k d))
    → rect_cover r x y ≡ true → cover rects x y ≡ false
none_of r [] x y solid pairs inside = refl
none_of r (s ∷ rects) x y solid pairs inside =
    let here = not_both r s x y (solid 0 s (omega arith)) (pairs 0 s (omega arith)) inside in
    let rest = none_of r rects x y (λ k d below. solid (suc k) d (omega arith)) (λ k d below. pairs (suc k) d (omega arith)) inside in
    rw (here, rest) refl

pub count_is_cover : (rects : List Rect) → AreCanonical rects → (x y : ℤ) → path_count rects x y ≡ indicator (cover rects) x y
unfolding sum_each
count_is_cover [] canonical x y = refl
count_is_cover (r ∷ rects) canonical x y =
    let later : AreCanonical rects = record {
      solid = λ k d below. canonical.solid (suc k) d (omega arith);
      pairs = λ i j d before below. canonical.pairs (suc i) (suc j) d (omega arith) (omega arith);
    } in
    one_at_most (rect_cover r x y) (path_count rects x y) (cover rects x y) (count_is_cover rects later x y)
    (λ inside. none_of r rects x y later.solid (λ k d below. canonical.pairs 0 (suc k) d (omega arith) (omega arith)) inside)

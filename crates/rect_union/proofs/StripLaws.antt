-- Rectangles that are swept strip by strip.
use Rattle.std.proofs.Common.{◌≡◌, ◌≢◌, ◌⊎◌, inl, inr, ℕ, zero, suc, ◌+◌, ◌<◌, ◌≤◌, ℤ, pos, ◌-ℤ◌, ◌≤ℤ◌, ◌<ℤ◌, int_le, int_lt, unsigned_abs, Bool, true, false, ◌&&◌, ◌||◌, List, [], ◌∷◌, ◌++◌, length, get_or, take, take_all, refl, sym, ◌∙◌, ap, subst, arith}
use Rattle.std.specs.Prelude.{All, AllPairs}
use Rattle.std.specs.Int.{int_max, int_min}
use Rattle.std.proofs.lemmas.Int.{ints, by_lt_z, clamps}
use Rattle.std.proofs.lemmas.List.{get_or_default}
use Rattle.std.proofs.lemmas.List.Elements.{All-push}
use Rattle.std.proofs.lemmas.List.Quantifiers.{all_pairs_push}
use Rattle.std.proofs.lemmas.List.Folds.{list_any-append, list_any_at, list_any_more, Any-from_list_any}
use Rattle.opc_base.specs.declared.plane.Rect.{Rect}
use Rattle.opc_base.specs.Canonical.{AreCanonical, IsSolid, IsStack, Precedes, RunsInRow}
use Rattle.opc_base.specs.Plane.{IsRectWithin, PixelSet, cover, rect_cover}
use Rattle.opc_base.specs.Target.{HasMoreCornersThan}
use Rattle.std.proofs.lemmas.Bool.Decides.{eqb_tells}
use Rattle.opc_base.proofs.CanonicalLaws.{row_of}
use Rattle.rect_union.specs.declared.strips.Strips.{Strips}
use Rattle.rect_union.specs.Strips.{AreApart, AreInPlane, AreParted, AreStrips, HaveGap, IsApartList, IsInLimit, IsSharing, Widens}
use Rattle.rect_union.proofs.LowerSides.{HaveOwnSides, known, more_by_sides}
use Rattle.rect_union.proofs.WithinLaws.{rects_within}

-- ---- two rectangles

apart_if_before : (r s : Rect) → IsSolid s → Precedes r s → AreApart r s
apart_if_before r s solid before = record {
  gap = λ _ over. before.apart over;
  below = before.maximal;
  above = λ touch. absurd (let tall = solid.high in elim before.sorted [ inl low ↦ omega (arith, ints) | inr level ↦ (let same = level.0 in omega (arith, ints)) ]);
}

other_way : (r s : Rect) → HaveGap r s → HaveGap s r
other_way r s gap one two = elim (gap two one) [ inl left ↦ inr left | inr right ↦ inl right ]

-- the pixel lies in the rectangle
record IsIn (r : Rect) (x y : ℤ) : Type 0 where
  pub left : r.x0 ≤ℤ x
  pub right : x <ℤ r.x1
  pub low : r.y0 ≤ℤ y
  pub high : y <ℤ r.y1

in_rect : (r : Rect) (x y : ℤ) → rect_cover r x y ≡ true → IsIn r x y
in_rect r x y is = record { left = grind (arith, ints); right = grind (arith, ints); low = grind (arith, ints); high = grind (arith, ints) }

covers : (r : Rect) (x y : ℤ) → r.x0 ≤ℤ x → x <ℤ r.x1 → r.y0 ≤ℤ y → y <ℤ r.y1 → rect_cover r x y ≡ true
covers r x y left right low high = grind (arith, ints)

-- ---- the part of a rectangle in a strip

pub part_cover : (r s : Rect) (left right x y : ℤ) → s.x0 ≡ int_max r.x0 left → s.x1 ≡ int_min r.x1 right → s.y0 ≡ r.y0 → s.y1 ≡ r.y1
    → rect_cover s x y ≡ (int_le left x && int_lt x right && rect_cover r x y)
part_cover r s left right x y from to low high = grind (arith, ints, clamps)

no_columns : (s : Rect) (x y : ℤ) → s.x1 ≤ℤ s.x0 → rect_cover s x y ≡ false
no_columns s x y none = grind (arith, ints)

or_none : (seen part : Bool) → part ≡ false → seen ≡ (seen || part)
or_none seen part none = grind arith

or_last : (seen here part : Bool) → here ≡ part → (seen || (here || false)) ≡ (seen || part)
or_last seen here part same = grind arith

-- with the part, where it has a column
pub pushes_part : (seen : List Rect) (r s : Rect) (left right x y : ℤ) → s.x0 ≡ int_max r.x0 left → s.x1 ≡ int_min r.x1 right → s.y0 ≡ r.y0 → s.y1 ≡ r.y1
    → cover (seen ++ s ∷ []) x y ≡ (cover seen x y || (int_le left x && int_lt x right && rect_cover r x y))
pushes_part seen r s left right x y from to low high =
    let f : Rect → Bool = λ t. rect_cover t x y in
    list_any-append f seen (s ∷ [])
    ∙ or_last (cover seen x y) (rect_cover s x y) (int_le left x && int_lt x right && rect_cover r x y) (part_cover r s left right x y from to low high)

pub leaves_part : (seen : List Rect) (r s : Rect) (left right x y : ℤ) → s.x0 ≡ int_max r.x0 left → s.x1 ≡ int_min r.x1 right → s.y0 ≡ r.y0 → s.y1 ≡ r.y1
    → s.x1 ≤ℤ s.x0 → cover seen x y ≡ (cover seen x y || (int_le left x && int_lt x right && rect_cover r x y))
leaves_part seen r s left right x y from to low high none =
    or_none (cover seen x y) (int_le left x && int_lt x right && rect_cover r x y)
    (sym (part_cover r s left right x y from to low high) ∙ no_columns s x y none)

within_sides : (limit : ℕ) (a x0 x1 b : ℤ) → unsigned_abs a ≤ limit → unsigned_abs b ≤ limit → a ≤ℤ x0 → x0 <ℤ x1 → x1 ≤ℤ b → (unsigned_abs x0 ≤ limit) × (unsigned_abs x1 ≤ limit)
within_sides limit a x0 x1 b first last from wide to = (omega (arith, ints), omega (arith, ints))

part_is_left : (a left : ℤ) → a ≤ℤ int_max a left
part_is_left a left = grind (arith, ints, clamps)

part_is_right : (a right : ℤ) → int_min a right ≤ℤ a
part_is_right a right = grind (arith, ints, clamps)

pub places_part : (seen : List Rect) (r s : Rect) (left right : ℤ) → s.x0 ≡ int_max r.x0 left → s.x1 ≡ int_min r.x1 right → s.y0 ≡ r.y0 → s.y1 ≡ r.y1
    → s.x0 <ℤ s.x1 → IsSolid r → IsRectWithin 1048576 r → AreInPlane seen → AreInPlane (seen ++ s ∷ [])
places_part seen r s left right from to low high wide solid within placed =
    let start : r.x0 ≤ℤ s.x0 = subst (λ z. r.x0 ≤ℤ z) (sym from) (part_is_left r.x0 left) in
    let ends : s.x1 ≤ℤ r.x1 = subst (λ z. z ≤ℤ r.x1) (sym to) (part_is_right r.x1 right) in
    let near = within_sides 1048576 r.x0 s.x0 s.x1 r.x1 within.0 within.2 start wide ends in
    record {
      solid = All-push IsSolid seen s placed.solid (record { wide = wide; high = (let tall = solid.high in omega (arith, ints)) });
      within = All-push (IsRectWithin 1048576) seen s placed.within
          (near.0, subst (λ z. unsigned_abs z ≤ 1048576) (sym low) within.1, near.1, subst (λ z. unsigned_abs z ≤ 1048576) (sym high) within.3);
    }

in_strip_more : (seen reaching left right before here after : Bool) → seen ≡ (reaching || (left && right && before)) → after ≡ (before || here)
    → (seen || (left && right && here)) ≡ (reaching || (left && right && after))
in_strip_more seen reaching left right before here after is more = grind arith

pub strip_step : (reaching rects : List Rect) (left right x y : ℤ) (i : ℕ) (d : Rect) (old new : Bool) → i < length rects
    → old ≡ (cover reaching x y || (int_le left x && int_lt x right && cover (take i rects) x y))
    → new ≡ (old || (int_le left x && int_lt x right && rect_cover (get_or rects i d) x y))
    → new ≡ (cover reaching x y || (int_le left x && int_lt x right && cover (take (i + 1) rects) x y))
strip_step reaching rects left right x y i d old new at so_far is =
    is ∙ in_strip_more old (cover reaching x y) (int_le left x) (int_lt x right) (cover (take i rects) x y) (rect_cover (get_or rects i d) x y) (cover (take (i + 1) rects) x y)
    so_far (list_any_more (λ r. rect_cover r x y) rects i d at)

-- ---- a strip from one border to the next

-- what was swept is the reaching rectangles and what the strip has
pub record IsStripSwept (rects reaching swept : List Rect) (border next : ℤ) : Type 0 where
  pub further : border <ℤ next
  pub reach : All (λ r. r.x1 ≡ border) reaching
  pub canonical : AreCanonical swept
  pub pixels : (x y : ℤ) → cover swept x y ≡ (cover reaching x y || (int_le border x && int_lt x next && cover rects x y))

pub swept_strip : (rects reaching seen swept : List Rect) (border next : ℤ) → border <ℤ next → All (λ r. r.x1 ≡ border) reaching → AreCanonical swept
    → ((x y : ℤ) → cover seen x y ≡ (cover reaching x y || (int_le border x && int_lt x next && cover rects x y)))
    → ((x y : ℤ) → cover swept x y ≡ cover seen x y) → IsStripSwept rects reaching swept border next
swept_strip rects reaching seen swept border next further reach canonical parts pixels = record {
  further = further;
  reach = reach;
  canonical = canonical;
  pixels = λ x y. pixels x y ∙ parts x y;
}

left_part : (border x : ℤ) (covered reaching right rects : Bool) → covered ≡ (reaching || (int_le border x && right && rects)) → covered ≡ true → x <ℤ border → reaching ≡ true
left_part border x covered reaching right rects is on left = grind (arith, ints)

-- left of the border only the reaching rectangles were swept
open_left : (rects reaching swept : List Rect) (border next x y : ℤ) → IsStripSwept rects reaching swept border next → cover swept x y ≡ true → x <ℤ border → cover reaching x y ≡ true
open_left rects reaching swept border next x y strip on left =
    left_part border x (cover swept x y) (cover reaching x y) (int_lt x next) (cover rects x y) (strip.pixels x y) on left

or_left : (a b c : Bool) → c ≡ (a || b) → a ≡ true → c ≡ true
or_left a b c is on = grind arith

right_part : (border next x : ℤ) (covered reaching rects : Bool) → covered ≡ (reaching || (int_le border x && int_lt x next && rects)) → covered ≡ true
    → (reaching ≡ true) ⊎ (x <ℤ next)
right_part border next x covered true rects is on = inl refl
right_part border next x covered false rects is on = inr (grind (arith, ints))

-- an reaching rectangle that covers the pixel
record HasOpenAt (reaching : List Rect) (border x y : ℤ) (k : ℕ) : Type 0 where
  pub below : k < length reaching
  pub here : (d : Rect) → IsIn (get_or reaching k d) x y
  pub reach : (d : Rect) → (get_or reaching k d).x1 ≡ border

open_at : (reaching : List Rect) (border x y : ℤ) → All (λ r. r.x1 ≡ border) reaching → cover reaching x y ≡ true → (k : ℕ) × HasOpenAt reaching border x y k
open_at reaching border x y reach on =
    let found = Any-from_list_any (λ r. rect_cover r x y) reaching on in
    let at : found.0 < length reaching = found.2 in
    let here : rect_cover (get_or reaching found.0 found.1) x y ≡ true = ap (λ (r : Rect). rect_cover r x y) found.3 ∙ found.4 in (
      found.0,
      record {
        below = at;
        here = λ d. subst (λ (r : Rect). IsIn r x y) (get_or_default reaching found.0 found.1 d at) (in_rect (get_or reaching found.0 found.1) x y here);
        reach = λ d. reach found.0 d at;
      },
    )

-- it covers the row up to the border
open_on : (reaching : List Rect) (border x y t : ℤ) → All (λ r. r.x1 ≡ border) reaching → cover reaching x y ≡ true → x ≤ℤ t → t <ℤ border → cover reaching t y ≡ true
open_on reaching border x y t reach on from to =
    let found = open_at reaching border x y reach on in
    let some : Rect = record { x0 = pos 0; y0 = pos 0; x1 = pos 0; y1 = pos 0 } in
    let here : IsIn (get_or reaching found.0 some) x y = found.1.here some in
    let ends : (get_or reaching found.0 some).x1 ≡ border = found.1.reach some in
    let left = here.left in
    list_any_at (λ r. rect_cover r t y) reaching found.0 some found.1.below
    (covers (get_or reaching found.0 some) t y (omega (arith, ints)) (omega (arith, ints)) here.low here.high)

or_right : (a b : Bool) → b ≡ true → (a || b) ≡ true
or_right true b on = refl
or_right false b on = on

below_or : (i j : ℕ) → (i < j) ⊎ (j ≤ i)
below_or i zero = inr (omega arith)
below_or zero (suc j) = inl (omega arith)
below_or (suc i) (suc j) = elim (below_or i j) [ inl less ↦ inl (omega arith) | inr most ↦ inr (omega arith) ]

true_false : true ≡ false → ⊥
true_false same = cc

swept_on : (swept : List Rect) (k : ℕ) (d : Rect) (x y : ℤ) → k < length swept → (get_or swept k d).x0 ≤ℤ x → x <ℤ (get_or swept k d).x1
    → (get_or swept k d).y0 ≤ℤ y → y <ℤ (get_or swept k d).y1 → cover swept x y ≡ true
swept_on swept k d x y at left right low high = list_any_at (λ r. rect_cover r x y) swept k d at (covers (get_or swept k d) x y left right low high)

-- no rectangle that was swept ends left of the border
reaches : (rects reaching swept : List Rect) (border next : ℤ) (k : ℕ) (d : Rect) → IsStripSwept rects reaching swept border next → k < length swept
    → border ≤ℤ (get_or swept k d).x1
reaches rects reaching swept border next k d strip at =
    let solid : IsSolid (get_or swept k d) = strip.canonical.solid k d at in
    let wide : (get_or swept k d).x0 <ℤ (get_or swept k d).x1 = solid.wide in
    let tall : (get_or swept k d).y0 <ℤ (get_or swept k d).y1 = solid.high in
    by_lt_z (get_or swept k d).x1 border
    (λ less. absurd (
    let last : cover swept ((get_or swept k d).x1 -ℤ pos 1) (get_or swept k d).y0 ≡ true =
    swept_on swept k d ((get_or swept k d).x1 -ℤ pos 1) (get_or swept k d).y0 at (omega (arith, ints)) (omega (arith, ints)) (omega (arith, ints)) tall in
    let open_last : cover reaching ((get_or swept k d).x1 -ℤ pos 1) (get_or swept k d).y0 ≡ true =
    open_left rects reaching swept border next ((get_or swept k d).x1 -ℤ pos 1) (get_or swept k d).y0 strip last (omega (arith, ints)) in
    let open_next : cover reaching (get_or swept k d).x1 (get_or swept k d).y0 ≡ true =
    open_on reaching border ((get_or swept k d).x1 -ℤ pos 1) (get_or swept k d).y0 (get_or swept k d).x1 strip.reach open_last (omega (arith, ints)) less in
    let on : cover swept (get_or swept k d).x1 (get_or swept k d).y0 ≡ true =
    or_left (cover reaching (get_or swept k d).x1 (get_or swept k d).y0) _ (cover swept (get_or swept k d).x1 (get_or swept k d).y0)
    (strip.pixels (get_or swept k d).x1 (get_or swept k d).y0) open_next in
    let off = (row_of swept k d (get_or swept k d).y0 strip.canonical at (omega (arith, ints)) tall).after in
    true_false (sym on ∙ off)))
    (λ most. most)

-- and none right of the next one
ends_within : (rects reaching swept : List Rect) (border next : ℤ) (k : ℕ) (d : Rect) → IsStripSwept rects reaching swept border next → k < length swept
    → (get_or swept k d).x1 ≤ℤ next
ends_within rects reaching swept border next k d strip at =
    let solid : IsSolid (get_or swept k d) = strip.canonical.solid k d at in
    let wide : (get_or swept k d).x0 <ℤ (get_or swept k d).x1 = solid.wide in
    let tall : (get_or swept k d).y0 <ℤ (get_or swept k d).y1 = solid.high in
    let x : ℤ = (get_or swept k d).x1 -ℤ pos 1 in
    let further = strip.further in
    let last : cover swept ((get_or swept k d).x1 -ℤ pos 1) (get_or swept k d).y0 ≡ true =
    swept_on swept k d ((get_or swept k d).x1 -ℤ pos 1) (get_or swept k d).y0 at (omega (arith, ints)) (omega (arith, ints)) (omega (arith, ints)) tall in
    elim (right_part border next ((get_or swept k d).x1 -ℤ pos 1) (cover swept ((get_or swept k d).x1 -ℤ pos 1) (get_or swept k d).y0)
    (cover reaching ((get_or swept k d).x1 -ℤ pos 1) (get_or swept k d).y0) (cover rects ((get_or swept k d).x1 -ℤ pos 1) (get_or swept k d).y0)
    (strip.pixels ((get_or swept k d).x1 -ℤ pos 1) (get_or swept k d).y0) last) [
      | inl on ↦ (let found = open_at reaching border ((get_or swept k d).x1 -ℤ pos 1) (get_or swept k d).y0 strip.reach on in
          let right = (found.1.here d).right in let ends = found.1.reach d in omega (arith, ints))
      | inr below ↦ omega (arith, ints)
    ]

-- ---- a rectangle that ends left of the border, and one that was swept

meets : (rects reaching swept : List Rect) (border next : ℤ) (r : Rect) (k : ℕ) (d : Rect) (x y : ℤ) → IsStripSwept rects reaching swept border next → k < length swept
    → r.x1 <ℤ border → All (HaveGap r) reaching → r.y0 ≤ℤ y → y <ℤ r.y1 → (get_or swept k d).y0 ≤ℤ y → y <ℤ (get_or swept k d).y1
    → (get_or swept k d).x0 ≤ℤ x → x <ℤ (get_or swept k d).x1 → (r.x0 -ℤ pos 1) ≤ℤ x → x ≤ℤ r.x1 → ⊥
meets rects reaching swept border next r k d x y strip at left gaps low high under over from to first last =
    let on : cover swept x y ≡ true = swept_on swept k d x y at from to under over in
    let found = open_at reaching border x y strip.reach (open_left rects reaching swept border next x y strip on (omega (arith, ints))) in
    let here : IsIn (get_or reaching found.0 d) x y = found.1.here d in
    let a = here.left in let b = here.right in let e = here.low in let f = here.high in
    elim (gaps found.0 d found.1.below (omega (arith, ints)) (omega (arith, ints))) [
      | inl gap ↦ omega (arith, ints)
      | inr gap ↦ omega (arith, ints)
    ]

gap_in_row : (rects reaching swept : List Rect) (border next : ℤ) (r : Rect) (k : ℕ) (d : Rect) (y : ℤ) → IsStripSwept rects reaching swept border next → k < length swept
    → IsSolid r → r.x1 <ℤ border → All (HaveGap r) reaching → r.y0 ≤ℤ y → y <ℤ r.y1 → (get_or swept k d).y0 ≤ℤ y → y <ℤ (get_or swept k d).y1
    → (r.x1 <ℤ (get_or swept k d).x0) ⊎ ((get_or swept k d).x1 <ℤ r.x0)
gap_in_row rects reaching swept border next r k d y strip at solid left gaps low high under over =
    let wide : (get_or swept k d).x0 <ℤ (get_or swept k d).x1 = (strip.canonical.solid k d at).wide in
    let broad = solid.wide in
    by_lt_z r.x1 (get_or swept k d).x0
    (λ before. inl before)
    (λ here. by_lt_z (get_or swept k d).x1 r.x0
    (λ after. inr after)
    (λ there. absurd (by_lt_z (get_or swept k d).x0 r.x0
    (λ less. meets rects reaching swept border next r k d (r.x0 -ℤ pos 1) y strip at left gaps low high under over (omega (arith, ints)) (omega (arith, ints)) (omega (arith, ints)) (omega (arith, ints)))
    (λ most. meets rects reaching swept border next r k d (get_or swept k d).x0 y strip at left gaps low high under over (omega (arith, ints)) wide (omega (arith, ints)) here))))

apart_from_swept : (rects reaching swept : List Rect) (border next : ℤ) (r : Rect) (k : ℕ) (d : Rect) → IsStripSwept rects reaching swept border next → k < length swept
    → IsSolid r → r.x1 <ℤ border → All (HaveGap r) reaching → AreApart r (get_or swept k d)
apart_from_swept rects reaching swept border next r k d strip at solid left gaps =
    let tall : (get_or swept k d).y0 <ℤ (get_or swept k d).y1 = (strip.canonical.solid k d at).high in
    let high = solid.high in
    let far : border ≤ℤ (get_or swept k d).x1 = reaches rects reaching swept border next k d strip at in
    record {
      gap = λ one two. by_lt_z r.y0 (get_or swept k d).y0
          (λ less. gap_in_row rects reaching swept border next r k d (get_or swept k d).y0 strip at solid left gaps (omega (arith, ints)) two (omega (arith, ints)) tall)
          (λ most. gap_in_row rects reaching swept border next r k d r.y0 strip at solid left gaps (omega (arith, ints)) high most one);
      below = λ _ _ same. absurd (omega (arith, ints));
      above = λ _ _ same. absurd (omega (arith, ints));
    }

-- ---- one swept rectangle after another

pub is_left : (a b : ℤ) → int_lt a b ≡ true → a <ℤ b
is_left a b is = grind (arith, ints)

pub is_not_left : (a b : ℤ) → int_lt a b ≡ false → b ≤ℤ a
is_not_left a b is = grind (arith, ints)

pub sharing_starts : (rects before reaching swept : List Rect) (border next : ℤ) → AreParted before reaching border → IsStripSwept rects reaching swept border next
    → IsSharing before swept next 0 before []
sharing_starts rects before reaching swept border next parted strip = record {
  parted = record {
    apart = parted.apart;
    left = λ k d below. let left = parted.left k d below in let further = strip.further in omega (arith, ints);
    placed = record { solid = λ k d below. absurd (omega arith); within = λ k d below. absurd (omega arith) };
    reach = λ k d below. absurd (omega arith);
    gaps = λ _ _ _ k d below. absurd (omega arith);
  };
  ahead = λ k d _ at j e below.
      apart_from_swept rects reaching swept border next (get_or before j e) k d strip at (parted.apart.solid j e below) (parted.left j e below) (parted.gaps j e below);
  ahead_open = λ _ _ _ _ k d below. absurd (omega arith);
  pixels = λ x y. refl;
}

to_done : (done reaching before taken here : Bool) → (done || reaching) ≡ (before || taken) → ((done || (here || false)) || reaching) ≡ (before || (taken || here))
to_done done reaching before taken here is = grind arith

to_open : (done reaching before taken here : Bool) → (done || reaching) ≡ (before || taken) → (done || (reaching || (here || false))) ≡ (before || (taken || here))
to_open done reaching before taken here is = grind arith

later_apart : (swept : List Rect) (i k : ℕ) (e r : Rect) → AreCanonical swept → ((d : Rect) → get_or swept i d ≡ r) → i < k → k < length swept → AreApart r (get_or swept k e)
later_apart swept i k e r canonical is after below =
    apart_if_before r (get_or swept k e) (canonical.solid k e below)
    (subst (λ (s : Rect). Precedes s (get_or swept k e)) (is e) (canonical.pairs i k e after below))

pub sharing_done : (before swept : List Rect) (next : ℤ) (i : ℕ) (done reaching : List Rect) (r : Rect) → AreCanonical swept → i < length swept → ((d : Rect) → get_or swept i d ≡ r)
    → r.x1 <ℤ next → IsSharing before swept next i done reaching → IsSharing before swept next (i + 1) (done ++ r ∷ []) reaching
sharing_done before swept next i done reaching r canonical at is left sharing =
    let parted = sharing.parted in
    record {
      parted = record {
        apart = record {
          solid = All-push IsSolid done r parted.apart.solid (subst IsSolid (is r) (canonical.solid i r at));
          pairs = all_pairs_push AreApart done r parted.apart.pairs
              (λ k e below. subst (AreApart (get_or done k e)) (is r) (sharing.ahead i r (omega arith) at k e below));
        };
        left = All-push (λ (s : Rect). s.x1 <ℤ next) done r parted.left left;
        placed = parted.placed;
        reach = parted.reach;
        gaps = All-push (λ s. All (HaveGap s) reaching) done r parted.gaps (subst (λ s. All (HaveGap s) reaching) (is r) (sharing.ahead_open i r (omega arith) at));
      };
      ahead = λ k e from below. All-push (λ s. AreApart s (get_or swept k e)) done r (sharing.ahead k e (omega arith) below)
          (later_apart swept i k e r canonical is (omega arith) below);
      ahead_open = λ k e from below. sharing.ahead_open k e (omega arith) below;
      pixels = λ x y.
          let f : Rect → Bool = λ s. rect_cover s x y in
          ap (λ b. b || cover reaching x y) (list_any-append f done (r ∷ []))
          ∙ to_done (cover done x y) (cover reaching x y) (cover before x y) (cover (take i swept) x y) (rect_cover r x y) (sharing.pixels x y)
          ∙ ap (λ b. cover before x y || b)
          (sym (list_any_more f swept i r at ∙ ap (λ (s : Rect). cover (take i swept) x y || rect_cover s x y) (is r)));
    }

pub sharing_open : (rects first before swept : List Rect) (border next : ℤ) (i : ℕ) (done reaching : List Rect) (r : Rect) → IsStripSwept rects first swept border next
    → AreInPlane swept → i < length swept → ((d : Rect) → get_or swept i d ≡ r)
    → next ≤ℤ r.x1 → IsSharing before swept next i done reaching → IsSharing before swept next (i + 1) done (reaching ++ r ∷ [])
sharing_open rects first before swept border next i done reaching r strip rectangles at is right sharing =
    let parted = sharing.parted in
    let canonical = strip.canonical in
    let within : r.x1 ≤ℤ next = subst (λ (s : Rect). s.x1 ≤ℤ next) (is r) (ends_within rects first swept border next i r strip at) in
    record {
      parted = record {
        apart = parted.apart;
        left = parted.left;
        placed = record {
          solid = All-push IsSolid reaching r parted.placed.solid (subst IsSolid (is r) (rectangles.solid i r at));
          within = All-push (IsRectWithin 1048576) reaching r parted.placed.within (subst (IsRectWithin 1048576) (is r) (rectangles.within i r at));
        };
        reach = All-push (λ (s : Rect). s.x1 ≡ next) reaching r parted.reach (omega (arith, ints));
        gaps = λ k e below. All-push (HaveGap (get_or done k e)) reaching r (parted.gaps k e below)
            (subst (HaveGap (get_or done k e)) (is r) (sharing.ahead i r (omega arith) at k e below).gap);
      };
      ahead = λ k e from below. sharing.ahead k e (omega arith) below;
      ahead_open = λ k e from below. All-push (HaveGap (get_or swept k e)) reaching r (sharing.ahead_open k e (omega arith) below)
          (other_way r (get_or swept k e) (later_apart swept i k e r canonical is (omega arith) below).gap);
      pixels = λ x y.
          let f : Rect → Bool = λ s. rect_cover s x y in
          ap (λ b. cover done x y || b) (list_any-append f reaching (r ∷ []))
          ∙ to_open (cover done x y) (cover reaching x y) (cover before x y) (cover (take i swept) x y) (rect_cover r x y) (sharing.pixels x y)
          ∙ ap (λ b. cover before x y || b)
          (sym (list_any_more f swept i r at ∙ ap (λ (s : Rect). cover (take i swept) x y || rect_cover s x y) (is r)));
    }

with_part : (before swept first part : Bool) → swept ≡ (first || part) → (before || swept) ≡ ((before || first) || part)
with_part before swept first part is = grind arith

pub sharing_ends : (rects before first swept : List Rect) (border next : ℤ) (i : ℕ) (done reaching : List Rect) → IsStripSwept rects first swept border next
    → length swept ≤ i → IsSharing before swept next i done reaching
    → (x y : ℤ) → (cover done x y || cover reaching x y) ≡ ((cover before x y || cover first x y) || (int_le border x && int_lt x next && cover rects x y))
sharing_ends rects before first swept border next i done reaching strip all sharing x y =
    sharing.pixels x y
    ∙ ap (λ (l : List Rect). cover before x y || cover l x y) (take_all i swept all)
    ∙ with_part (cover before x y) (cover swept x y) (cover first x y) (int_le border x && int_lt x next && cover rects x y) (strip.pixels x y)

pub nothing_wider : (border x : ℤ) (now rects : Bool) → now ≡ (now || (int_le border x && int_lt x border && rects))
nothing_wider border x true rects = refl
nothing_wider border x false rects = grind (arith, ints)

left_of_both : (border next x : ℤ) (now old rects whole : Bool) → border ≤ℤ next → x <ℤ border → now ≡ (old || (int_le border x && int_lt x next && rects))
    → old ≡ (int_lt x border && whole) → now ≡ (int_lt x next && whole)
left_of_both border next x now true rects whole up left is so_far = grind (arith, ints)
left_of_both border next x now false rects whole up left is so_far = grind (arith, ints)

between_both : (border next x : ℤ) (now old rects whole : Bool) → border ≤ℤ x → x <ℤ next → now ≡ (old || (int_le border x && int_lt x next && rects))
    → old ≡ (int_lt x border && whole) → rects ≡ whole → now ≡ (int_lt x next && whole)
between_both border next x now true rects whole from to is so_far same = grind (arith, ints)
between_both border next x now false rects whole from to is so_far same = grind (arith, ints)

right_of_both : (border next x : ℤ) (now old rects whole : Bool) → border ≤ℤ next → next ≤ℤ x → now ≡ (old || (int_le border x && int_lt x next && rects))
    → old ≡ (int_lt x border && whole) → now ≡ (int_lt x next && whole)
right_of_both border next x now true rects whole up out is so_far = grind (arith, ints)
right_of_both border next x now false rects whole up out is so_far = grind (arith, ints)

-- strips of a set stay so, where the rectangles cover what the set has between the borders
pub widened_strips : (whole : PixelSet) (rects : List Rect) (old new : Strips) → AreStrips whole old → Widens rects old new
    → ((x y : ℤ) → old.border ≤ℤ x → x <ℤ new.border → cover rects x y ≡ whole x y) → AreStrips whole new
widened_strips whole rects old new strips widens same = record {
  parted = widens.parted;
  pixels = λ x y. by_lt_z x old.border
      (λ left. left_of_both old.border new.border x (cover new.done.items x y || cover new.reaching.items x y) (cover old.done.items x y || cover old.reaching.items x y)
      (cover rects x y) (whole x y) widens.further left (widens.pixels x y) (strips.pixels x y))
      (λ from. by_lt_z x new.border
      (λ to. between_both old.border new.border x (cover new.done.items x y || cover new.reaching.items x y) (cover old.done.items x y || cover old.reaching.items x y)
      (cover rects x y) (whole x y) from to (widens.pixels x y) (strips.pixels x y) (same x y from to))
      (λ out. right_of_both old.border new.border x (cover new.done.items x y || cover new.reaching.items x y) (cover old.done.items x y || cover old.reaching.items x y)
      (cover rects x y) (whole x y) widens.further out (widens.pixels x y) (strips.pixels x y)));
}

-- ---- the last border

and_right : (left done reaching rects : Bool) → reaching ≡ true → (done || reaching) ≡ (left && rects) → rects ≡ true
and_right left done reaching true on is = refl
and_right left done reaching false on is = grind arith

only_done : (x border : ℤ) (done reaching rects : Bool) → (reaching ≡ true → ⊥) → (rects ≡ true → x <ℤ border) → (done || reaching) ≡ (int_lt x border && rects) → done ≡ rects
only_done x border done true rects closed only is = absurd (closed refl)
only_done x border done false true closed only is = let left : x <ℤ border = only refl in grind (arith, ints)
only_done x border done false false closed only is = grind (arith, ints)

pub parted_starts : (border : ℤ) → AreParted [] [] border
parted_starts border = record {
  apart = record { solid = λ k d below. absurd (omega arith); pairs = λ i j d before below. absurd (omega arith) };
  left = λ k d below. absurd (omega arith);
  placed = record { solid = λ k d below. absurd (omega arith); within = λ k d below. absurd (omega arith) };
  reach = λ k d below. absurd (omega arith);
  gaps = λ k d below. absurd (omega arith);
}

abbrev pub LiesInLimit : PixelSet → Type 0
LiesInLimit whole = (x y : ℤ) → whole x y ≡ true → IsInLimit 1048576 x y

pub starts_empty : (whole : PixelSet) (border x y : ℤ) → LiesInLimit whole → border ≤ℤ (pos 0 -ℤ pos 1048576) → (false || false) ≡ (int_lt x border && whole x y)
starts_empty whole border x y inside low = elim (known (whole x y)) [
  | inl on ↦ (let limit = inside x y on in let left = limit.left in grind (arith, ints))
  | inr off ↦ grind (arith, ints)
]

pub rects_inside : (rects : List Rect) → AreInPlane rects → LiesInLimit (cover rects)
rects_inside rects placed x y on = rects_within 1048576 rects x y placed.within on

pub strips_end : (whole : PixelSet) (done reaching : List Rect) (border x y : ℤ) → LiesInLimit whole → All (λ r. r.x1 ≡ border) reaching → pos 1048577 ≤ℤ border
    → ((t s : ℤ) → (cover done t s || cover reaching t s) ≡ (int_lt t border && whole t s)) → cover done x y ≡ whole x y
strips_end whole done reaching border x y inside reach far pixels =
    let only : whole x y ≡ true → x <ℤ border = λ on. let limit = inside x y on in let right = limit.right in omega (arith, ints) in
    let closed : cover reaching x y ≡ true → ⊥ = λ on.
    let last : cover reaching (border -ℤ pos 1) y ≡ true =
    (let found = open_at reaching border x y reach on in
    let some : Rect = record { x0 = pos 0; y0 = pos 0; x1 = pos 0; y1 = pos 0 } in
    let inside = (found.1.here some).right in let ends = found.1.reach some in
    open_on reaching border x y (border -ℤ pos 1) reach on (omega (arith, ints)) (omega (arith, ints))) in
    let there : whole (border -ℤ pos 1) y ≡ true =
    and_right (int_lt (border -ℤ pos 1) border) (cover done (border -ℤ pos 1) y) (cover reaching (border -ℤ pos 1) y) (whole (border -ℤ pos 1) y) last (pixels (border -ℤ pos 1) y) in
    let limit = inside (border -ℤ pos 1) y there in let right = limit.right in omega (arith, ints) in
    only_done x border (cover done x y) (cover reaching x y) (whole x y) closed only (pixels x y)

-- ---- the rectangles that are done are stacks of the whole

record HasDoneAt (done : List Rect) (x y : ℤ) (k : ℕ) : Type 0 where
  pub below : k < length done
  pub here : (d : Rect) → IsIn (get_or done k d) x y

done_at : (done : List Rect) (x y : ℤ) → cover done x y ≡ true → (k : ℕ) × HasDoneAt done x y k
done_at done x y on =
    let found = Any-from_list_any (λ r. rect_cover r x y) done on in
    let at : found.0 < length done = found.2 in
    let here : rect_cover (get_or done found.0 found.1) x y ≡ true = ap (λ (r : Rect). rect_cover r x y) found.3 ∙ found.4 in (
      found.0,
      record {
        below = at;
        here = λ d. subst (λ (r : Rect). IsIn r x y) (get_or_default done found.0 found.1 d at) (in_rect (get_or done found.0 found.1) x y here);
      },
    )

turned_apart : (r s : Rect) → AreApart r s → AreApart s r
turned_apart r s apart = record {
  gap = other_way r s apart.gap;
  below = λ touch left right. apart.above touch (sym left) (sym right);
  above = λ touch left right. apart.below touch (sym left) (sym right);
}

two_apart : (done : List Rect) (i j : ℕ) (d : Rect) → AllPairs AreApart done → i ≢ j → i < length done → j < length done → AreApart (get_or done i d) (get_or done j d)
two_apart done i j d pairs differ first second = elim (below_or i j) [
  | inl less ↦ pairs i j d less second
  | inr most ↦ turned_apart (get_or done j d) (get_or done i d) (pairs j i d (omega arith) first)
]

-- what has a gap to a rectangle is not beside it
not_beside : (r s : Rect) (x y : ℤ) → HaveGap r s → IsSolid r → r.y0 ≤ℤ y → y <ℤ r.y1 → IsIn s x y → (r.x0 -ℤ pos 1) ≤ℤ x → x ≤ℤ r.x1 → ⊥
not_beside r s x y gap solid low high in_s from to =
    let a = in_s.left in let b = in_s.right in let c = in_s.low in let e = in_s.high in let wide = solid.wide in
    elim (gap (omega (arith, ints)) (omega (arith, ints))) [ inl left ↦ omega (arith, ints) | inr right ↦ omega (arith, ints) ]

either : (a b : Bool) → (a || b) ≡ true → (a ≡ true) ⊎ (b ≡ true)
either true b is = inl refl
either false b is = inr is

left_of_border : (border x : ℤ) (both whole : Bool) → both ≡ (int_lt x border && whole) → x <ℤ border → both ≡ whole
left_of_border border x both whole is left = grind (arith, ints)

record IsCutAt (whole : PixelSet) (done reaching : List Rect) (border : ℤ) : Type 0 where
  pub parted : AreParted done reaching border
  pub pixels : (x y : ℤ) → x <ℤ border → (cover done x y || cover reaching x y) ≡ whole x y

-- a pixel left of the border is of one that is done or of one that reaches the border
found_at : (whole : PixelSet) (done reaching : List Rect) (border x y : ℤ) → IsCutAt whole done reaching border → x <ℤ border → whole x y ≡ true
    → ((k : ℕ) × HasDoneAt done x y k) ⊎ ((k : ℕ) × HasOpenAt reaching border x y k)
found_at whole done reaching border x y cut left on = elim (either (cover done x y) (cover reaching x y) (cut.pixels x y left ∙ on)) [
  | inl is ↦ inl (done_at done x y is)
  | inr is ↦ inr (open_at reaching border x y cut.parted.reach is)
]

covered_by_done : (whole : PixelSet) (done reaching : List Rect) (border x y : ℤ) (k : ℕ) (d : Rect) → IsCutAt whole done reaching border → k < length done
    → IsIn (get_or done k d) x y → whole x y ≡ true
covered_by_done whole done reaching border x y k d cut at inside =
    let right = inside.right in let ends = cut.parted.left k d at in
    sym (cut.pixels x y (omega (arith, ints)))
    ∙ or_left (cover done x y) (cover reaching x y) (cover done x y || cover reaching x y) refl (swept_on done k d x y at inside.left inside.right inside.low inside.high)

-- beside a rectangle that is done nothing is covered
nothing_beside : (whole : PixelSet) (done reaching : List Rect) (border x y : ℤ) (k : ℕ) (d : Rect) → IsCutAt whole done reaching border → k < length done
    → (get_or done k d).y0 ≤ℤ y → y <ℤ (get_or done k d).y1 → ((get_or done k d).x0 -ℤ pos 1) ≤ℤ x → x ≤ℤ (get_or done k d).x1
    → (x <ℤ (get_or done k d).x0) ⊎ ((get_or done k d).x1 ≤ℤ x) → whole x y ≡ false
nothing_beside whole done reaching border x y k d cut at low high from to outside = elim (known (whole x y)) [
  | inr off ↦ off
  | inl on ↦ (let solid = cut.parted.apart.solid k d at in let ends = cut.parted.left k d at in
      absurd (elim (found_at whole done reaching border x y cut (omega (arith, ints)) on) [
        | inl found ↦ (let j : ℕ = found.0 in let here : IsIn (get_or done found.0 d) x y = found.1.here d in
            elim (eqb_tells k found.0) [
              | inl w ↦ (let same : get_or done k d ≡ get_or done found.0 d = ap (λ i. get_or done i d) w.1 in
                  let own : IsIn (get_or done k d) x y = subst (λ (r : Rect). IsIn r x y) (sym same) here in
                  let a = own.left in let b = own.right in elim outside [ inl less ↦ omega (arith, ints) | inr more ↦ omega (arith, ints) ])
              | inr w ↦ not_beside (get_or done k d) (get_or done found.0 d) x y (two_apart done k found.0 d cut.parted.apart.pairs w.1 at found.1.below).gap solid low high here from to
            ])
        | inr found ↦ not_beside (get_or done k d) (get_or reaching found.0 d) x y (cut.parted.gaps k d at found.0 d found.1.below) solid low high (found.1.here d) from to
      ]))
]

done_rows : (whole : PixelSet) (done reaching : List Rect) (border y : ℤ) (k : ℕ) (d : Rect) → IsCutAt whole done reaching border → k < length done
    → (get_or done k d).y0 ≤ℤ y → y <ℤ (get_or done k d).y1 → RunsInRow whole (get_or done k d) y
done_rows whole done reaching border y k d cut at low high =
    let wide = (cut.parted.apart.solid k d at).wide in
    record {
      some = wide;
      all = λ t from to. covered_by_done whole done reaching border t y k d cut at (record { left = from; right = to; low = low; high = high });
      before = nothing_beside whole done reaching border ((get_or done k d).x0 -ℤ pos 1) y k d cut at low high (omega (arith, ints)) (omega (arith, ints)) (inl (omega (arith, ints)));
      after = nothing_beside whole done reaching border (get_or done k d).x1 y k d cut at low high (omega (arith, ints)) (omega (arith, ints)) (inr (omega (arith, ints)));
    }

both_ways : (b : Bool) → b ≡ true → b ≡ false → ⊥
both_ways b on off = true_false (sym on ∙ off)

-- a row with the same run is of another one that is done, with the same columns
record HasSameColumns (done : List Rect) (r : Rect) (y : ℤ) (j : ℕ) (d : Rect) : Type 0 where
  pub below : j < length done
  pub here : IsIn (get_or done j d) r.x0 y
  pub left : (get_or done j d).x0 ≡ r.x0
  pub right : (get_or done j d).x1 ≡ r.x1

same_columns : (whole : PixelSet) (done reaching : List Rect) (border y : ℤ) (r d : Rect) → IsCutAt whole done reaching border → r.x1 <ℤ border
    → RunsInRow whole r y → (j : ℕ) × HasSameColumns done r y j d
same_columns whole done reaching border y r d cut ends run =
    let wide = run.some in
    elim (found_at whole done reaching border r.x0 y cut (omega (arith, ints)) (run.all r.x0 (omega (arith, ints)) wide)) [
      | inr found ↦ absurd (
          let here : IsIn (get_or reaching found.0 d) r.x0 y = found.1.here d in let reach = found.1.reach d in let a = here.left in
          let on : cover reaching r.x1 y ≡ true = swept_on reaching found.0 d r.x1 y found.1.below (omega (arith, ints)) (omega (arith, ints)) here.low here.high in
          both_ways (whole r.x1 y) (sym (cut.pixels r.x1 y ends) ∙ or_right (cover done r.x1 y) (cover reaching r.x1 y) on) run.after)
      | inl found ↦ (let here : IsIn (get_or done found.0 d) r.x0 y = found.1.here d in
          let solid = cut.parted.apart.solid found.0 d found.1.below in
          let a = here.left in let b = here.right in (
            found.0,
            record {
              below = found.1.below;
              here = here;
              left = by_lt_z (get_or done found.0 d).x0 r.x0
                  (λ less. absurd (both_ways (whole (r.x0 -ℤ pos 1) y)
                  (covered_by_done whole done reaching border (r.x0 -ℤ pos 1) y found.0 d cut found.1.below
                  (record { left = omega (arith, ints); right = omega (arith, ints); low = here.low; high = here.high })) run.before))
                  (λ most. omega (arith, ints));
              right = by_lt_z (get_or done found.0 d).x1 r.x1
                  (λ less. absurd (both_ways (whole (get_or done found.0 d).x1 y) (run.all (get_or done found.0 d).x1 (omega (arith, ints)) less)
                  (nothing_beside whole done reaching border (get_or done found.0 d).x1 y found.0 d cut found.1.below here.low here.high
                  (omega (arith, ints)) (omega (arith, ints)) (inr (omega (arith, ints))))))
                  (λ most. by_lt_z r.x1 (get_or done found.0 d).x1
                  (λ more. absurd (both_ways (whole r.x1 y)
                  (covered_by_done whole done reaching border r.x1 y found.0 d cut found.1.below
                  (record { left = omega (arith, ints); right = more; low = here.low; high = here.high })) run.after))
                  (λ least. omega (arith, ints)));
            },
          ))
    ]

done_stack : (whole : PixelSet) (done reaching : List Rect) (border : ℤ) (k : ℕ) (d : Rect) → IsCutAt whole done reaching border → k < length done
    → IsStack whole (get_or done k d)
done_stack whole done reaching border k d cut at =
    let solid = cut.parted.apart.solid k d at in let wide = solid.wide in let tall = solid.high in let ends = cut.parted.left k d at in
    record {
      some = tall;
      rows = λ y low high. done_rows whole done reaching border y k d cut at low high;
      before = λ run.
          let found = same_columns whole done reaching border ((get_or done k d).y0 -ℤ pos 1) (get_or done k d) d cut ends run in
          let other = found.1 in let low = other.here.low in let high = other.here.high in
          let differ : k ≢ found.0 = λ same. (let is : (get_or done k d).y0 ≡ (get_or done found.0 d).y0 = ap (λ i. (get_or done i d).y0) same in omega (arith, ints)) in
          let apart = two_apart done k found.0 d cut.parted.apart.pairs differ at other.below in
          by_lt_z (get_or done k d).y0 (get_or done found.0 d).y1
          (λ less. not_beside (get_or done k d) (get_or done found.0 d) (get_or done k d).x0 (get_or done k d).y0 apart.gap solid (omega (arith, ints)) tall
          (record { left = other.here.left; right = other.here.right; low = omega (arith, ints); high = less }) (omega (arith, ints)) (omega (arith, ints)))
          (λ most. apart.above (omega (arith, ints)) (sym other.left) (sym other.right));
      after = λ run.
          let found = same_columns whole done reaching border (get_or done k d).y1 (get_or done k d) d cut ends run in
          let other = found.1 in let low = other.here.low in let high = other.here.high in
          let differ : k ≢ found.0 = λ same. (let is : (get_or done k d).y1 ≡ (get_or done found.0 d).y1 = ap (λ i. (get_or done i d).y1) same in omega (arith, ints)) in
          let apart = two_apart done k found.0 d cut.parted.apart.pairs differ at other.below in
          by_lt_z (get_or done found.0 d).y0 (get_or done k d).y1
          (λ less. not_beside (get_or done k d) (get_or done found.0 d) (get_or done k d).x0 ((get_or done k d).y1 -ℤ pos 1) apart.gap solid (omega (arith, ints)) (omega (arith, ints))
          (record { left = other.here.left; right = other.here.right; low = omega (arith, ints); high = omega (arith, ints) }) (omega (arith, ints)) (omega (arith, ints)))
          (λ most. apart.below (omega (arith, ints)) (sym other.left) (sym other.right));
    }

done_sides : (done : List Rect) → IsApartList done → HaveOwnSides done
done_sides done apart i j d p before below first second =
    let a = first.0 in let b = first.1 in let c = first.2 in let e = second.0 in let f = second.1 in let g = second.2 in
    let one = apart.solid i d (omega arith) in let two = apart.solid j d below in
    let tall = one.high in let high = two.high in let wide = one.wide in let broad = two.wide in
    elim ((apart.pairs i j d before below).gap (omega (arith, ints)) (omega (arith, ints))) [ inl left ↦ omega (arith, ints) | inr right ↦ omega (arith, ints) ]

pub more_by_strips : (most : ℕ) (whole : PixelSet) (done reaching : List Rect) (border : ℤ) → most < length done → AreParted done reaching border
    → ((x y : ℤ) → (cover done x y || cover reaching x y) ≡ (int_lt x border && whole x y)) → HasMoreCornersThan most whole
more_by_strips most whole done reaching border above parted pixels =
    let cut : IsCutAt whole done reaching border = record {
      parted = parted;
      pixels = λ x y left. left_of_border border x (cover done x y || cover reaching x y) (whole x y) (pixels x y) left;
    } in
    more_by_sides most whole whole done above
    (λ k d below. ((parted.apart.solid k d below).wide, done_stack whole done reaching border k d cut below))
    (done_sides done parted.apart) (λ k d x below. refl)

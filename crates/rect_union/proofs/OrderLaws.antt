-- Rectangles that are apart, in canonical order.
use Rattle.std.proofs.Common.{◌≡◌, ◌≢◌, ◌⊎◌, inl, inr, ℕ, zero, suc, ◌+◌, ◌-◌, ◌<◌, ℤ, ◌≤ℤ◌, ◌<ℤ◌, int_cmp, is_lt, false, List, length, get_or, set, length-set, get_or-set_other, sym, ◌∙◌, subst, arith}
use Rattle.std.specs.Prelude.{All, AllPairs}
use Rattle.std.proofs.lemmas.Int.{ints, by_lt_z}
use Rattle.std.proofs.lemmas.Bool.{cases_order}
use Rattle.std.proofs.lemmas.Bool.Decides.{eqb_tells}
use Rattle.std.proofs.lemmas.Grind.{get_or-set_at}
use Rattle.std.proofs.lemmas.List.Edits.{swap_is}
use Rattle.std.proofs.lemmas.List.Sorted.{All-permutation, IsPermutation-keeps}
use Rattle.std.specs.List.{swap}
use Rattle.std.specs.List.Sorted.{IsPermutation}
use Rattle.std.specs.Ordering.{ordering_then}
use Rattle.opc_base.specs.declared.plane.Rect.{Rect}
use Rattle.opc_base.specs.Canonical.{AreCanonical, IsSolid, Precedes}
use Rattle.rect_union.specs.Strips.{AreApart, IsApartList}

-- ---- another order

-- any two at different places
abbrev pub AnyTwo : {X : Type 0} → (X → X → Type 0) → List X → Type 0
AnyTwo {X} R xs = (i j : ℕ) (d : X) → i ≢ j → i < length xs → j < length xs → R (get_or xs i d) (get_or xs j d)

pub length_swapped : {X : Type 0} (xs : List X) (a b : ℕ) (d : X) → a < length xs → b < length xs → length (swap xs a b) ≡ length xs
length_swapped xs a b d first second =
    subst (λ l. length l ≡ length xs) (swap_is xs a b d first second) (simp length-set (omega arith))

-- what is at a place after a swap
pub after_swap : {X : Type 0} (P : X → Type 0) (xs : List X) (a b k : ℕ) (d : X) → a < length xs → b < length xs
    → (k ≡ b → P (get_or xs a d)) → (k ≡ a → P (get_or xs b d)) → (k ≢ a → k ≢ b → P (get_or xs k d)) → P (get_or (swap xs a b) k d)
after_swap P xs a b k d first second at_b at_a other =
    subst (λ l. P (get_or l k d)) (swap_is xs a b d first second)
    (elim (eqb_tells k b) [
      | inl w ↦ subst P (sym (get_or-set_at (set xs a (get_or xs b d)) b k (get_or xs a d) d w.1 (simp length-set (omega arith)))) (at_b w.1)
      | inr w ↦ subst P (sym (get_or-set_other (set xs a (get_or xs b d)) b k (get_or xs a d) d w.1))
          (elim (eqb_tells k a) [
            | inl v ↦ subst P (sym (get_or-set_at xs a k (get_or xs b d) d v.1 first)) (at_a v.1)
            | inr v ↦ subst P (sym (get_or-set_other xs a k (get_or xs b d) d v.1)) (other v.1 w.1)
          ])
    ])

pub AnyTwo-swap : {X : Type 0} (R : X → X → Type 0) (xs : List X) (a b : ℕ) → a < length xs → b < length xs → AnyTwo R xs → AnyTwo R (swap xs a b)
AnyTwo-swap R xs a b first second two i j d apart below_i below_j =
    let same : length (swap xs a b) ≡ length xs = length_swapped xs a b d first second in
    after_swap (λ x. R x (get_or (swap xs a b) j d)) xs a b i d first second
    (λ i_b. after_swap (R (get_or xs a d)) xs a b j d first second
    (λ j_b. absurd (omega arith)) (λ j_a. two a b d (λ e. omega arith) first second) (λ j_a j_b. two a j d (λ e. j_a (omega arith)) first (omega arith)))
    (λ i_a. after_swap (R (get_or xs b d)) xs a b j d first second
    (λ j_b. two b a d (λ e. omega arith) second first) (λ j_a. absurd (omega arith)) (λ j_a j_b. two b j d (λ e. j_b (omega arith)) second (omega arith)))
    (λ i_a i_b. after_swap (R (get_or xs i d)) xs a b j d first second
    (λ j_b. two i a d i_a (omega arith) first) (λ j_a. two i b d i_b (omega arith) second) (λ j_a j_b. two i j d apart (omega arith) (omega arith)))

pub AnyTwo-pairs : {X : Type 0} (R : X → X → Type 0) (xs : List X) → ((x y : X) → R x y → R y x) → AllPairs R xs → AnyTwo R xs
AnyTwo-pairs R xs turn pairs i j d apart below_i below_j = elim (cases_order i j) [
  | inl same ↦ absurd (apart same)
  | inr other ↦ elim other [
    | inl before ↦ pairs i j d before below_j
    | inr after ↦ turn (get_or xs j d) (get_or xs i d) (pairs j i d after below_i)
  ]
]

turned : (r s : Rect) → AreApart r s → AreApart s r
turned r s apart = record {
  gap = λ one two. elim (apart.gap two one) [ inl left ↦ inr left | inr right ↦ inl right ];
  below = λ touch first past. apart.above touch (sym first) (sym past);
  above = λ touch first past. apart.below touch (sym first) (sym past);
}

-- ---- sorted by where they start

abbrev Follows : Rect → Rect → Type 0
Follows r s = (r.y0 <ℤ s.y0) ⊎ ((r.y0 ≡ s.y0) × (r.x0 ≤ℤ s.x0))

pub next_start : (y y' x x' : ℤ) → is_lt (ordering_then (int_cmp y' y) (int_cmp x' x)) ≡ false → (y <ℤ y') ⊎ ((y ≡ y') × (x ≤ℤ x'))
next_start y y' x x' is =
    by_lt_z y y' (λ less. inl less) (λ most. by_lt_z y' y
    (λ less. absurd (grind (arith, ints)))
    (λ least. inr (omega (arith, ints), by_lt_z x' x (λ less. absurd (grind (arith, ints))) (λ up. up))))

pub starts_from_key : (r s : Rect) → is_lt (ordering_then (int_cmp s.y0 r.y0) (int_cmp s.x0 r.x0)) ≡ false → Follows r s
starts_from_key r s is = next_start r.y0 s.y0 r.x0 s.x0 is

follows_on : (p q r : Rect) → Follows p q → Follows q r → Follows p r
follows_on p q r first second = elim first [
  | inl less ↦ elim second [ inl more ↦ inl (omega (arith, ints)) | inr level ↦ inl (let same = level.0 in omega (arith, ints)) ]
  | inr level ↦ elim second [
    | inl more ↦ inl (let same = level.0 in omega (arith, ints))
    | inr again ↦ inr (level.0 ∙ again.0, (let a = level.1 in let b = again.1 in omega (arith, ints)))
  ]
]

follows_ahead : (rects : List Rect) → ((k : ℕ) (d : Rect) → k + 1 < length rects → Follows (get_or rects k d) (get_or rects (k + 1) d))
    → (n i : ℕ) (d : Rect) → i + 1 + n < length rects → Follows (get_or rects i d) (get_or rects (i + 1 + n) d)
follows_ahead rects next zero i d below =
    let here : i + 1 ≡ i + 1 + zero = omega arith in subst (λ k. Follows (get_or rects i d) (get_or rects k d)) here (next i d (omega arith))
follows_ahead rects next (suc n) i d below =
    let here : (i + 1 + n) + 1 ≡ i + 1 + suc n = omega arith in
    subst (λ k. Follows (get_or rects i d) (get_or rects k d)) here
    (follows_on (get_or rects i d) (get_or rects (i + 1 + n) d) (get_or rects ((i + 1 + n) + 1) d)
    (follows_ahead rects next n i d (omega arith)) (next (i + 1 + n) d (omega arith)))

before_if_apart : (r s : Rect) → IsSolid r → IsSolid s → AreApart r s → Follows r s → Precedes r s
before_if_apart r s one two apart follows =
    let tall = one.high in let high = two.high in let wide = one.wide in let broad = two.wide in
    let low : r.y0 <ℤ s.y1 = elim follows [ inl less ↦ omega (arith, ints) | inr level ↦ (let same = level.0 in omega (arith, ints)) ] in
    record {
      sorted = elim follows [
        | inl less ↦ inl less
        | inr level ↦ inr (
          level.0,
          (let same = level.0 in let up = level.1 in
              elim (apart.gap low (omega (arith, ints))) [ inl gap ↦ omega (arith, ints) | inr gap ↦ omega (arith, ints) ]),
        )
      ];
      apart = λ over. apart.gap low over;
      maximal = apart.below;
    }

pub canonical_if_sorted : (from to : List Rect) → IsPermutation from to → IsApartList from
    → ((k : ℕ) (d : Rect) → k + 1 < length to → Follows (get_or to k d) (get_or to (k + 1) d)) → AreCanonical to
canonical_if_sorted from to same apart next =
    let solid : All IsSolid to = All-permutation IsSolid from to same apart.solid in
    let two : AnyTwo AreApart to = IsPermutation-keeps from (AnyTwo AreApart) (AnyTwo-pairs AreApart from turned apart.pairs)
    (λ l i j first second so_far. AnyTwo-swap AreApart l i j first second so_far) to same in
    record {
      solid = solid;
      pairs = λ i j d before below.
          let here : i + 1 + (j - (i + 1)) ≡ j = omega arith in
          before_if_apart (get_or to i d) (get_or to j d) (solid i d (omega arith)) (solid j d below) (two i j d (λ e. omega arith) (omega arith) below)
          (subst (λ k. Follows (get_or to i d) (get_or to k d)) here (follows_ahead to next (j - (i + 1)) i d (omega arith)));
    }

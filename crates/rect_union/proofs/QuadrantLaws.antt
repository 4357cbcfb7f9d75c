-- Laws of sorted quadrants.
use Rattle.std.proofs.Common.{◌≡◌, ◌⊎◌, inl, inr, ℕ, zero, suc, ◌+◌, ◌-◌, ◌<◌, ℤ, pos, ◌-ℤ◌, ◌≤ℤ◌, ◌<ℤ◌, int_cmp, is_lt, false, List, [], ◌∷◌, length, get_or, sym, ◌∙◌, ap₂, subst, arith}
use Rattle.std.proofs.lemmas.Int.{ints, by_lt_z}
use Rattle.std.specs.declared.cmp.Ordering.{Ordering}
use Rattle.std.specs.Ordering.{ordering_then}
use Rattle.std.specs.List.Sorted.{IsPermutation}
use Rattle.std.proofs.lemmas.List.Sorted.{sum_by-IsPermutation}
use Rattle.std.proofs.lemmas.List.Sums.{sum_by-append}
use Rattle.std.specs.Prelude.{sum_by}
use borrow.Author.Differences.{up, down}
use Rattle.rect_union.specs.declared.quadrants.Quadrant.{Quadrant}
use Rattle.opc_base.specs.Sums.{sum_each}
use Rattle.rect_union.specs.Quadrants.{AreInRows}

abbrev Follows : Quadrant → Quadrant → Type 0
Follows p q = (p.y <ℤ q.y) ⊎ ((p.y ≡ q.y) × (p.column.x ≤ℤ q.column.x))

next_row : (y y' x x' : ℤ) (r : Ordering) → is_lt (ordering_then (int_cmp y' y) (ordering_then (int_cmp x' x) r)) ≡ false
    → (y <ℤ y') ⊎ ((y ≡ y') × (x ≤ℤ x'))
next_row y y' x x' r is =
    by_lt_z y y' (λ less. inl less) (λ most. by_lt_z y' y
    (λ less. absurd (grind (arith, ints)))
    (λ least. inr (omega (arith, ints), by_lt_z x' x (λ less. absurd (grind (arith, ints))) (λ up. up))))

follows_on : (p q r : Quadrant) → Follows p q → Follows q r → Follows p r
follows_on p q r first second = elim first [
  | inl less ↦ elim second [ inl more ↦ inl (omega (arith, ints)) | inr level ↦ inl (let same = level.0 in omega (arith, ints)) ]
  | inr level ↦ elim second [
    | inl more ↦ inl (let same = level.0 in omega (arith, ints))
    | inr again ↦ inr (level.0 ∙ again.0, (let a = level.1 in let b = again.1 in omega (arith, ints)))
  ]
]

follows_ahead : (quadrants : List Quadrant) → ((k : ℕ) (d : Quadrant) → k + 1 < length quadrants → Follows (get_or quadrants k d) (get_or quadrants (k + 1) d))
    → (n i : ℕ) (d : Quadrant) → i + 1 + n < length quadrants → Follows (get_or quadrants i d) (get_or quadrants (i + 1 + n) d)
follows_ahead quadrants next zero i d below =
    let here : i + 1 ≡ i + 1 + zero = omega arith in subst (λ k. Follows (get_or quadrants i d) (get_or quadrants k d)) here (next i d (omega arith))
follows_ahead quadrants next (suc n) i d below =
    let here : (i + 1 + n) + 1 ≡ i + 1 + suc n = omega arith in
    subst (λ k. Follows (get_or quadrants i d) (get_or quadrants k d)) here
    (follows_on (get_or quadrants i d) (get_or quadrants (i + 1 + n) d) (get_or quadrants ((i + 1 + n) + 1) d)
    (follows_ahead quadrants next n i d (omega arith)) (next (i + 1 + n) d (omega arith)))

pub rows_from_next : (quadrants : List Quadrant) → ((k : ℕ) (d : Quadrant) → k + 1 < length quadrants → Follows (get_or quadrants k d) (get_or quadrants (k + 1) d))
    → AreInRows quadrants
rows_from_next quadrants next i j d before below =
    let here : i + 1 + (j - (i + 1)) ≡ j = omega arith in
    subst (λ k. Follows (get_or quadrants i d) (get_or quadrants k d)) here (follows_ahead quadrants next (j - (i + 1)) i d (omega arith))

pub follows_sorted : (p q : Quadrant) (r : Ordering) → is_lt (ordering_then (int_cmp q.y p.y) (ordering_then (int_cmp q.column.x p.column.x) r)) ≡ false → Follows p q
follows_sorted p q r is = next_row p.y q.y p.column.x q.column.x r is

-- ---- another order

sum_by_sign : (f : Quadrant → ℤ) (quadrants : List Quadrant) → sum_each f quadrants ≡ pos (sum_by (λ q. up (f q)) quadrants) -ℤ pos (sum_by (λ q. down (f q)) quadrants)
unfolding sum_each
sum_by_sign f [] = omega (arith, ints)
sum_by_sign f (q ∷ quadrants) =
    let ups : sum_by (λ q. up (f q)) (q ∷ quadrants) ≡ (0 + up (f q)) + sum_by (λ q. up (f q)) quadrants = sum_by-append (λ q. up (f q)) (q ∷ []) quadrants in
    let downs : sum_by (λ q. down (f q)) (q ∷ quadrants) ≡ (0 + down (f q)) + sum_by (λ q. down (f q)) quadrants = sum_by-append (λ q. down (f q)) (q ∷ []) quadrants in
    let rest = sum_by_sign f quadrants in
    rw (ups, downs) (omega (arith, ints))

pub sum_each-IsPermutation : (f : Quadrant → ℤ) (from to : List Quadrant) → IsPermutation from to → sum_each f to ≡ sum_each f from
sum_each-IsPermutation f from to same =
    sum_by_sign f to
    ∙ ap₂ (λ a b. pos a -ℤ pos b) (sum_by-IsPermutation (λ q. up (f q)) from to same) (sum_by-IsPermutation (λ q. down (f q)) from to same)
    ∙ sym (sum_by_sign f from)

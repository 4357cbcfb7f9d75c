-- Keys in order, from keys by number.
use Rattle.std.proofs.Common.{◌≡◌, ◌≢◌, ◌⊎◌, inl, inr, ℕ, zero, suc, ◌+◌, ◌<◌, ◌≤◌, ℤ, int_lt, nat_eq, Bool, true, false, cond, if◌then◌else◌, List, [], ◌∷◌, ◌++◌, length, get_or, All, IsPermutation, refl, sym, ap, ap₂, ◌∙◌, subst, ⊎_elim, length-append, arith}
use Rattle.std.specs.List.{sum_by}
use Rattle.std.specs.Ordering.{int_cmp, is_lt, nat_cmp, ordering_then}
use Rattle.std.specs.declared.cmp.Ordering.TheVariants.{Less, Equal, Greater}
use Rattle.std.proofs.lemmas.Int.{ints}
use Rattle.std.proofs.lemmas.Bool.{cases_lt}
use Rattle.std.proofs.lemmas.List.{get_or_append_left}
use Rattle.std.proofs.Math.Seq.{get_or-append_seam}
use Rattle.std.proofs.lemmas.Bool.Decides.{eqb_tells}
use Rattle.std.proofs.lemmas.List.Sums.{sum_by-cons}
use Rattle.std.proofs.lemmas.List.Elements.{All-push}
use Rattle.std.proofs.lemmas.List.Sorted.{All-permutation, Contains-permutation, length_permutation, sum_by-IsPermutation}
use Rattle.outline_model.specs.declared.fragment.Fragment.{Fragment}
use Rattle.tiles.specs.Keys.{AreKeys, IsSquareWithin, ListsKeys, SquarePrecedes, key_at, key_of}
use Rattle.tiles.specs.declared.key.Key.{Key}
use Rattle.tiles.specs.declared.key.Square.{Square}

-- ---- each number once
abbrev once : ℕ → ℕ → ℕ
once i n = if nat_eq n i then 1 else 0

abbrev hit : ℕ → Key → ℕ
hit i key = once i key.number

once_not : (i n : ℕ) → n ≢ i → once i n ≡ 0
once_not i n apart = grind arith

once_so : (i n : ℕ) → n ≡ i → once i n ≡ 1
once_so i n same = grind arith

once_most : (i n : ℕ) → once i n ≤ 1
once_most i n = grind arith

none_hit : (keys : List Key) (i base : ℕ) → i < base → ((j : ℕ) (d : Key) → j < length keys → (get_or keys j d).number ≡ base + j) → sum_by (hit i) keys ≡ 0
none_hit [] i base early each = refl
none_hit (k ∷ ks) i base early each =
    let first : k.number ≡ base = each 0 k (omega arith) ∙ omega arith in
    let rest : sum_by (hit i) ks ≡ 0 = none_hit ks i (base + 1) (omega arith) (λ j d below. each (suc j) d (omega arith) ∙ omega arith) in
    let here : once i k.number ≡ 0 = once_not i k.number (omega arith) in
    sum_by-cons (hit i) k ks ∙ omega (arith, rest, here)

one_hit : (keys : List Key) (i base : ℕ) → ((j : ℕ) (d : Key) → j < length keys → (get_or keys j d).number ≡ base + j) → sum_by (hit i) keys ≤ 1
one_hit [] i base each = omega arith
one_hit (k ∷ ks) i base each =
    let first : k.number ≡ base = each 0 k (omega arith) ∙ omega arith in
    let rest : (j : ℕ) (d : Key) → j < length ks → (get_or ks j d).number ≡ base + 1 + j = λ j d below. each (suc j) d (omega arith) ∙ omega arith in
    let more : sum_by (hit i) ks ≤ 1 = one_hit ks i (base + 1) rest in
    let all : sum_by (hit i) (k ∷ ks) ≡ once i k.number + sum_by (hit i) ks = sum_by-cons (hit i) k ks in
    elim (eqb_tells base i) [
      | inl w ↦
          let here : base ≡ i = w.1 in
          omega (arith, all, once_most i k.number, none_hit ks i (base + 1) (omega arith) rest)
      | inr w ↦
          let there : base ≢ i = w.1 in
          omega (arith, all, once_not i k.number (λ same. there (sym first ∙ same)), more)
    ]

some_hit : (keys : List Key) (i q : ℕ) (d : Key) → q < length keys → (get_or keys q d).number ≡ i → 1 ≤ sum_by (hit i) keys
some_hit [] i q d below is = absurd (omega arith)
some_hit (k ∷ ks) i zero d below is = omega (arith, sum_by-cons (hit i) k ks, once_so i k.number is)
some_hit (k ∷ ks) i (suc q) d below is = omega (arith, sum_by-cons (hit i) k ks, some_hit ks i q d (omega arith) is)

two_hits : (keys : List Key) (i p q : ℕ) (d : Key) → p < q → q < length keys → (get_or keys p d).number ≡ i → (get_or keys q d).number ≡ i → 2 ≤ sum_by (hit i) keys
two_hits [] i p q d before below first second = absurd (omega arith)
two_hits (k ∷ ks) i p zero d before below first second = absurd (omega arith)
two_hits (k ∷ ks) i zero (suc q) d before below first second =
    omega (arith, sum_by-cons (hit i) k ks, once_so i k.number first, some_hit ks i q d (omega arith) second)
two_hits (k ∷ ks) i (suc p) (suc q) d before below first second =
    omega (arith, sum_by-cons (hit i) k ks, two_hits ks i p q d (omega arith) (omega arith) first second)

-- ---- the order of the sort
not_less : (s t : Square) (n m : ℕ) →
    is_lt (ordering_then (ordering_then (int_cmp t.b s.b) (int_cmp t.a s.a)) (nat_cmp m n)) ≡ false →
    SquarePrecedes s t ⊎ ((s ≡ t) × (n ≤ m))
not_less s t n m test = by (int_lt t.b s.b) (int_lt s.b t.b) (int_lt t.a s.a) (int_lt s.a t.a) refl refl refl refl test
  where
    numbers : (n m : ℕ) → is_lt (nat_cmp m n) ≡ false → n ≤ m
    numbers n m test = grind arith

    by : (p q r u : Bool) → int_lt t.b s.b ≡ p → int_lt s.b t.b ≡ q → int_lt t.a s.a ≡ r → int_lt s.a t.a ≡ u →
        is_lt (ordering_then (ordering_then (cond p Less (cond q Greater Equal)) (cond r Less (cond u Greater Equal))) (nat_cmp m n)) ≡ false →
        SquarePrecedes s t ⊎ ((s ≡ t) × (n ≤ m))
    by true q r u e f g i test = absurd (cc test)
    by false true r u e f g i test = inl (inl (omega (arith, ints)))
    by false false true u e f g i test = absurd (cc test)
    by false false false true e f g i test = inl (inr (omega (arith, ints), omega (arith, ints)))
    by false false false false e f g i test =
        let b : s.b ≡ t.b = omega (arith, ints) in
        let a : s.a ≡ t.a = omega (arith, ints) in
        inr (ap₂ (λ x y. let square : Square = record { b = x; a = y } in square) b a, numbers n m test)

-- one more key by number
pub lists_none : (fs : List Fragment) (side : ℤ) (keys : List Key) → keys ≡ [] → ListsKeys fs side 0 keys
lists_none fs side keys none = record { count = ap length none; few = omega arith; each = λ i d below. absurd (omega arith); near = λ k d below. absurd (omega (arith, ap length none)) }

pub lists_more : (fs : List Fragment) (side : ℤ) (n : ℕ) (keys new : List Key) (key : Key) → n + 1 ≤ 32768 → ListsKeys fs side n keys →
    key ≡ key_of fs side n → IsSquareWithin side key.square → new ≡ keys ++ key ∷ [] → ListsKeys fs side (n + 1) new
lists_more fs side n keys new key few lists is near pushed = record {
  count = omega (arith, ap length pushed, length-append keys (key ∷ []), lists.count);
  few = few;
  each = λ i d below. ap (λ ks. get_or ks i d) pushed ∙ ⊎_elim
      (λ inner. get_or_append_left keys (key ∷ []) d i (omega (arith, lists.count)) ∙ lists.each i d inner)
      (λ outer. let last : length keys ≡ i = omega (arith, lists.count) in
      let here : n ≡ i = omega arith in
      ap (λ j. get_or (keys ++ key ∷ []) j d) (sym last) ∙ get_or-append_seam keys key [] d ∙ is ∙ ap (key_of fs side) here)
      (cases_lt i n);
  near = subst (All (λ k. IsSquareWithin side k.square)) (sym pushed) (All-push (λ k. IsSquareWithin side k.square) keys key lists.near near);
}

-- the keys by number, sorted
pub keys_sorted : (fs : List Fragment) (side : ℤ) (keys sorted : List Key) → ListsKeys fs side (length fs) keys → IsPermutation keys sorted →
    ((q : ℕ) (d : Key) → 0 ≤ q → q + 1 < length sorted →
    is_lt (ordering_then (ordering_then (int_cmp (get_or sorted (q + 1) d).square.b (get_or sorted q d).square.b) (int_cmp (get_or sorted (q + 1) d).square.a (get_or sorted q d).square.a))
    (nat_cmp (get_or sorted (q + 1) d).number (get_or sorted q d).number)) ≡ false) →
    AreKeys fs side sorted
keys_sorted fs side keys sorted lists moved ordered = record {
  count = size;
  few = omega (arith, size, lists.few);
  each = λ q below. each q _ below;
  complete = λ i below. Contains-permutation keys sorted (key_of fs side i) moved (i, omega (arith, lists.count), lists.each i _ below);
  near = All-permutation (λ k. IsSquareWithin side k.square) keys sorted moved lists.near;
  distinct = λ p q before below same. absurd (omega (arith, at_most (key_at sorted q).number, two_hits sorted (key_at sorted q).number p q _ before below same refl));
  ascend = λ q below. adjacent q below (not_less (key_at sorted q).square (key_at sorted (q + 1)).square (key_at sorted q).number (key_at sorted (q + 1)).number (ordered q _ (omega arith) below));
}
  where
    size : length sorted ≡ length fs
    size = length_permutation keys sorted moved ∙ lists.count

    numbered : (j : ℕ) (d : Key) → j < length keys → (get_or keys j d).number ≡ 0 + j
    numbered j d below = ap (λ k. k.number) (lists.each j d (omega (arith, lists.count))) ∙ omega arith

    at_most : (i : ℕ) → sum_by (hit i) sorted ≤ 1
    at_most i = omega (arith, sum_by-IsPermutation (hit i) keys sorted moved, one_hit keys i 0 numbered)

    each : All (λ k. (k.number < length fs) × (k ≡ key_of fs side k.number)) sorted
    each = All-permutation (λ k. (k.number < length fs) × (k ≡ key_of fs side k.number)) keys sorted moved
        (λ j d below.
        let is = lists.each j d (omega (arith, lists.count)) in
        let number = ap (λ k. k.number) is in
        (omega (arith, number, below, lists.count), is ∙ ap (key_of fs side) (sym number)))

    adjacent : (q : ℕ) → q + 1 < length sorted → SquarePrecedes (key_at sorted q).square (key_at sorted (q + 1)).square
        ⊎ (((key_at sorted q).square ≡ (key_at sorted (q + 1)).square) × ((key_at sorted q).number ≤ (key_at sorted (q + 1)).number)) →
        SquarePrecedes (key_at sorted q).square (key_at sorted (q + 1)).square
        ⊎ (((key_at sorted q).square ≡ (key_at sorted (q + 1)).square) × ((key_at sorted q).number < (key_at sorted (q + 1)).number))
    adjacent q below (inl before) = inl before
    adjacent q below (inr same) = inr (
      same.0,
      strictly (key_at sorted q).number (key_at sorted (q + 1)).number same.1
          (λ equal. absurd (omega (arith, at_most (key_at sorted (q + 1)).number, two_hits sorted (key_at sorted (q + 1)).number q (q + 1) _ (omega arith) below equal refl))),
    )
      where
        strictly : (n m : ℕ) → n ≤ m → n ≢ m → n < m
        strictly n m le apart = omega arith

-- Two lists that are in order and have the same elements are one.
use Rattle.std.proofs.Common.{◌≡◌, ◌⊎◌, inl, inr, zero, suc, List, [], ◌∷◌, refl, sym, ◌∙◌, ap, subst, arith}
use Rattle.std.specs.Prelude.{Contains, AllPairs}

pub contains_head : {X : Type 0} (x : X) (xs : List X) → Contains (x ∷ xs) x
contains_head x xs = (0, omega arith, refl)

pub contains_tail : {X : Type 0} (x z : X) (xs : List X) → Contains xs z → Contains (x ∷ xs) z
contains_tail x z xs at = (suc at.0, (let below = at.1 in omega arith), at.2)

pub head_or_tail : {X : Type 0} (x z : X) (xs : List X) → Contains (x ∷ xs) z → (x ≡ z) ⊎ Contains xs z
head_or_tail x z xs (zero, below, is) = inl is
head_or_tail x z xs (suc k, below, is) = inr (k, omega arith, is)

pub none_in_empty : {X : Type 0} (z : X) → ¬ Contains [] z
none_in_empty z at = let below = at.1 in omega arith

pub pairs_tail : {X : Type 0} (R : X → X → Type 0) (x : X) (xs : List X) → AllPairs R (x ∷ xs) → AllPairs R xs
pairs_tail R x xs pairs i j d before below = pairs (suc i) (suc j) d (omega arith) (omega arith)

pub pairs_head : {X : Type 0} (R : X → X → Type 0) (x z : X) (xs : List X) → AllPairs R (x ∷ xs) → Contains xs z → R x z
pairs_head R x z xs pairs at =
    subst (R x) at.2 (pairs 0 (suc at.0) z (omega arith) (let below = at.1 in omega arith))

-- two lists that are in order and have the same elements are one
pub same_if_ordered : {X : Type 0} (R : X → X → Type 0) → ((x y : X) → R x y → ¬ R y x)
    → (xs ys : List X) → AllPairs R xs → AllPairs R ys
    → ((z : X) → Contains xs z → Contains ys z) → ((z : X) → Contains ys z → Contains xs z) → xs ≡ ys
same_if_ordered R asym [] [] xs_sorted ys_sorted there back = refl
same_if_ordered R asym [] (y ∷ ys) xs_sorted ys_sorted there back = absurd (none_in_empty y (back y (contains_head y ys)))
same_if_ordered R asym (x ∷ xs) [] xs_sorted ys_sorted there back = absurd (none_in_empty x (there x (contains_head x xs)))
same_if_ordered R asym (x ∷ xs) (y ∷ ys) xs_sorted ys_sorted there back =
    let heads : x ≡ y = elim (head_or_tail y x ys (there x (contains_head x xs))) [
      | inl same ↦ sym same
      | inr later ↦ elim (head_or_tail x y xs (back y (contains_head y ys))) [
        | inl same ↦ same
        | inr earlier ↦ absurd (asym y x (pairs_head R y x ys ys_sorted later) (pairs_head R x y xs xs_sorted earlier))
      ]
    ] in
    let tails : xs ≡ ys = same_if_ordered R asym xs ys (pairs_tail R x xs xs_sorted) (pairs_tail R y ys ys_sorted)
    (λ z at. elim (head_or_tail y z ys (there z (contains_tail x z xs at))) [
      | inl same ↦ absurd (let first : R x z = pairs_head R x z xs xs_sorted at in
          let itself : R x x = subst (R x) (sym same ∙ sym heads) first in asym x x itself itself)
      | inr found ↦ found
    ])
    (λ z at. elim (head_or_tail x z xs (back z (contains_tail y z ys at))) [
      | inl same ↦ absurd (let first : R y z = pairs_head R y z ys ys_sorted at in
          let itself : R y y = subst (R y) (sym same ∙ heads) first in asym y y itself itself)
      | inr found ↦ found
    ]) in
    ap (λ r. r ∷ xs) heads ∙ ap (λ l. y ∷ l) tails

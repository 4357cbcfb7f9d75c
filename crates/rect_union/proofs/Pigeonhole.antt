-- A list whose members each have a partner of their own in another list is no longer than that one.
use Rattle.std.proofs.Common.{◌≡◌, ◌≢◌, ℕ, zero, suc, ◌+◌, ◌<◌, ◌≤◌, List, [], ◌∷◌, length, get_or, refl, sym, ◌∙◌, ap, subst, arith}
use Rattle.std.specs.Prelude.{AllPairs, Contains}
use Rattle.std.proofs.lemmas.List.{get_or_default}

-- the list without its k-th member
without : {A : Type 0} → ℕ → List A → List A
without k [] = []
without zero (x ∷ xs) = xs
without (suc k) (x ∷ xs) = x ∷ without k xs

length-without : {A : Type 0} (k : ℕ) (xs : List A) → k < length xs → length (without k xs) + 1 ≡ length xs
unfolding without
length-without k [] below = absurd (omega arith)
length-without zero (x ∷ xs) below = omega arith
length-without (suc k) (x ∷ xs) below = let rest = length-without k xs (omega arith) in omega arith

contains_more : {A : Type 0} (x y : A) (xs : List A) → Contains xs y → Contains (x ∷ xs) y
contains_more x y xs at = (suc at.0, (let below = at.1 in omega arith), at.2)

-- what stands at another place stays
Contains-without : {A : Type 0} (k j : ℕ) (xs : List A) (y : A) → j ≢ k → j < length xs → get_or xs j y ≡ y → Contains (without k xs) y
unfolding without
Contains-without k j [] y other below is = absurd (omega arith)
Contains-without zero zero (x ∷ xs) y other below is = absurd (other refl)
Contains-without zero (suc j) (x ∷ xs) y other below is = (j, omega arith, is)
Contains-without (suc k) zero (x ∷ xs) y other below is = (0, omega arith, is)
Contains-without (suc k) (suc j) (x ∷ xs) y other below is =
    contains_more x y (without k xs) (Contains-without k j xs y (λ same. other (ap suc same)) (omega arith) is)

-- each member has a partner in the other list
abbrev pub HavePartners : {A B : Type 0} → (A → B → Type 0) → List A → List B → Type 0
HavePartners {A} {B} R xs ys = (i : ℕ) (d : A) → i < length xs → (y : B) × Contains ys y × R (get_or xs i d) y

-- no two members share a partner
abbrev pub ShareNone : {A B : Type 0} → (A → B → Type 0) → List A → Type 0
ShareNone {A} {B} R xs = AllPairs (λ a b. (y : B) → R a y → R b y → ⊥) xs

pub at_most_partners : {A B : Type 0} (R : A → B → Type 0) (xs : List A) (ys : List B) → HavePartners R xs ys → ShareNone R xs → length xs ≤ length ys
at_most_partners R [] ys partners apart = omega arith
at_most_partners {A} {B} R (x ∷ xs) ys partners apart =
    let first = partners 0 x (omega arith) in
    let y : B = first.0 in
    let k : ℕ = first.1.0 in
    let inside : first.1.0 < length ys = first.1.1 in
    let is : get_or ys first.1.0 first.0 ≡ first.0 = first.1.2 in
    let related : R x first.0 = first.2 in
    let shorter = length-without first.1.0 ys inside in
    let rest : length xs ≤ length (without first.1.0 ys) = at_most_partners R xs (without first.1.0 ys)
    (λ i d below.
    let next = partners (suc i) d (omega arith) in
    let there : next.1.0 < length ys = next.1.1 in
    let its : get_or ys next.1.0 next.0 ≡ next.0 = next.1.2 in
    let other : next.1.0 ≢ first.1.0 = λ same.
    apart 0 (suc i) d (omega arith) (omega arith) next.0
    (subst (R x) (sym is ∙ get_or_default ys first.1.0 first.0 next.0 inside ∙ ap (λ n. get_or ys n next.0) (sym same) ∙ its) related)
    next.2 in
    (next.0, Contains-without first.1.0 next.1.0 ys next.0 other there its, next.2))
    (λ i j d before below. apart (suc i) (suc j) d (omega arith) (omega arith)) in
    omega arith

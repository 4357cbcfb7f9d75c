-- The areas that are met, in ascending order of their numbers, and the numbers of fragments in the order of theirs.
use Rattle.std.proofs.Common.{◌≡◌, ◌≢◌, inl, inr, ℕ, zero, suc, ◌+◌, ◌-◌, ◌<◌, ◌≤◌, ◌==◌, Bool, true, false, cond, List, [], ◌∷◌, Option, Some, None, length, map, get_or, filter, refl, sym, ◌∙◌, ap, subst, arith}
use Rattle.std.specs.Prelude.{All, Contains}
use Rattle.std.specs.List.Sorted.{IsStrictlyIncreasing}
use Rattle.std.proofs.lemmas.Bool.Decides.{eqb_tells, Decides-eqb, not_from_Decides}
use Rattle.std.proofs.lemmas.List.Elements.{All-filter}
use Rattle.std.proofs.lemmas.List.Kept.{IsStrictlyIncreasing-filter}
use Rattle.opc_base.specs.declared.plane.Rect.{Rect}
use Rattle.std.proofs.lemmas.List.{get_or_default, get_or-map, length-map}
use Rattle.std.proofs.lemmas.List.Elements.{All-map}
use Rattle.std.proofs.lemmas.List.FromFn.{get_or-range_with_len, length-range_with_len}
use Rattle.std.proofs.lemmas.List.Sorted.{All-permutation, Contains-permutation, length_permutation}
use Rattle.std.specs.List.{range_with_len}
use Rattle.fragment.specs.Index.{IsFirstMet, IsOrder, area_at, in_order, is_met, met_from, numbers, reaches, within_from}

numbers-below : (n from bound : ℕ) → from + n ≤ bound → (k d : ℕ) → k < length (numbers from n) → get_or (numbers from n) k d < bound
numbers-below zero from bound h k d below = absurd (omega arith)
numbers-below (suc n) from bound h zero d below = omega arith
numbers-below (suc n) from bound h (suc k) d below = numbers-below n (suc from) bound (omega arith) k d (omega arith)

Contains-numbers : (n from k : ℕ) → from ≤ k → k < from + n → Contains (numbers from n) k
Contains-numbers zero from k low high = absurd (omega arith)
Contains-numbers (suc n) from k low high = elim (eqb_tells from k) [
  | inl w ↦ (0, omega arith, w.1)
  | inr w ↦
      let apart : from ≢ k = w.1 in
      let later = Contains-numbers n (suc from) k (omega arith) (omega arith) in
      (suc later.0, (let below = later.1 in omega arith), later.2)
]

length-numbers : (n from : ℕ) → length (numbers from n) ≡ n
length-numbers zero from = refl
length-numbers (suc n) from = let rest : length (numbers (suc from) n) ≡ n = length-numbers n (suc from) in omega arith

get_or-numbers : (n from k d : ℕ) → k < n → get_or (numbers from n) k d ≡ from + k
get_or-numbers zero from k d below = absurd (omega arith)
get_or-numbers (suc n) from zero d below = omega arith
get_or-numbers (suc n) from (suc k) d below = let rest : get_or (numbers (suc from) n) k d ≡ suc from + k = get_or-numbers n (suc from) k d (omega arith) in omega arith

numbers-increasing : (n from : ℕ) → IsStrictlyIncreasing (numbers from n)
numbers-increasing n from k below =
    let all = length-numbers n from in
    let first : get_or (numbers from n) k 0 ≡ from + k = get_or-numbers n from k 0 (omega arith) in
    let second : get_or (numbers from n) (k + 1) 0 ≡ from + (k + 1) = get_or-numbers n from (k + 1) 0 (omega arith) in
    omega arith

Contains-filter : (p : ℕ → Bool) (xs : List ℕ) (x : ℕ) → Contains xs x → p x ≡ true → Contains (filter p xs) x
Contains-filter p [] x has passes = absurd (let h = has.1 in omega arith)
Contains-filter p (y ∷ ys) x has passes = by has.0 has.1 has.2 (p y) refl (λ h. Contains-filter p ys x h passes)
  where
    later : (t : Bool) → Contains (filter p ys) x → Contains (cond t (y ∷ filter p ys) (filter p ys)) x
    later true found = (suc found.0, (let h = found.1 in omega arith), found.2)
    later false found = found

    by : (k : ℕ) → k < length (y ∷ ys) → get_or (y ∷ ys) k x ≡ x → (t : Bool) → p y ≡ t → (Contains ys x → Contains (filter p ys) x)
        → Contains (cond t (y ∷ filter p ys) (filter p ys)) x
    by zero below is true e rest = (0, omega arith, is)
    by zero below is false e rest = absurd (let wrong : true ≡ false = sym passes ∙ sym (ap p is) ∙ e in cc wrong)
    by (suc k) below is t e rest = later t (rest (k, omega arith, is))

-- ---- the areas that are met

pub met-ascending : (areas : List Rect) (r : Rect) → IsStrictlyIncreasing (met_from areas r 0)
met-ascending areas r = IsStrictlyIncreasing-filter (is_met areas r) (numbers 0 (length areas - 0)) (numbers-increasing (length areas - 0) 0)

pub met-below : (areas : List Rect) (r : Rect) → All (λ k. k < length areas) (met_from areas r 0)
met-below areas r =
    All-filter (is_met areas r) (λ k. k < length areas) (numbers 0 (length areas - 0)) (λ k d below. numbers-below (length areas - 0) 0 (length areas) (omega arith) k d below)

pub met-complete : (areas : List Rect) (r : Rect) (k : ℕ) → k < length areas → is_met areas r k ≡ true → Contains (met_from areas r 0) k
met-complete areas r k below met =
    Contains-filter (is_met areas r) (numbers 0 (length areas - 0)) k (Contains-numbers (length areas - 0) 0 k (omega arith) (omega arith)) met

none-met : (p : ℕ → Bool) (n from : ℕ) → ((j : ℕ) → from ≤ j → j < from + n → p j ≡ false) → filter p (numbers from n) ≡ []
none-met p zero from none = refl
none-met p (suc n) from none =
    ap (λ t. cond t (from ∷ filter p (numbers (suc from) n)) (filter p (numbers (suc from) n))) (none from (omega arith) (omega arith))
    ∙ none-met p n (suc from) (λ j low high. none j (omega arith) (omega arith))

first-met : (p : ℕ → Bool) (n m from k : ℕ) → from ≤ k → k < from + n → (k + 1) + m ≡ from + n → p k ≡ true → ((j : ℕ) → from ≤ j → j < k → p j ≡ false)
    → filter p (numbers from n) ≡ k ∷ filter p (numbers (k + 1) m)
first-met p zero m from k low high rest met before = absurd (omega arith)
first-met p (suc n) m from k low high rest met before = by (from == k) refl (first-met p n m (suc from) k)
  where
    by : (t : Bool) → (from == k) ≡ t
        → (suc from ≤ k → k < suc from + n → (k + 1) + m ≡ suc from + n → p k ≡ true → ((j : ℕ) → suc from ≤ j → j < k → p j ≡ false)
        → filter p (numbers (suc from) n) ≡ k ∷ filter p (numbers (k + 1) m))
        → cond (p from) (from ∷ filter p (numbers (suc from) n)) (filter p (numbers (suc from) n)) ≡ k ∷ filter p (numbers (k + 1) m)
    by true e later =
        let same : from ≡ k = (Decides-eqb from k).0 e in
        let n_is : n ≡ m = omega arith in
        let next : suc from ≡ k + 1 = omega arith in
        ap (λ t. cond t (from ∷ filter p (numbers (suc from) n)) (filter p (numbers (suc from) n))) (ap p same ∙ met)
        ∙ ap (λ i. i ∷ filter p (numbers (suc from) n)) same
        ∙ ap (λ i. k ∷ filter p (numbers i n)) next
        ∙ ap (λ i. k ∷ filter p (numbers (k + 1) i)) n_is
    by false e later =
        let apart : from ≢ k = not_from_Decides _ (Decides-eqb from k) e in
        ap (λ t. cond t (from ∷ filter p (numbers (suc from) n)) (filter p (numbers (suc from) n))) (before from (omega arith) (omega arith))
        ∙ later (omega arith) (omega arith) (omega arith) met (λ j low high. before j (omega arith) high)

pub met_from-none : (areas : List Rect) (r : Rect) (from : ℕ) → ((j : ℕ) → from ≤ j → j < length areas → is_met areas r j ≡ false) → met_from areas r from ≡ []
met_from-none areas r from none = none-met (is_met areas r) (length areas - from) from (λ j low high. none j low (omega arith))

pub met_from-first : (areas : List Rect) (r : Rect) (from k : ℕ) → from ≤ k → k < length areas → is_met areas r k ≡ true
    → ((j : ℕ) → from ≤ j → j < k → is_met areas r j ≡ false) → met_from areas r from ≡ k ∷ met_from areas r (k + 1)
met_from-first areas r from k low below met before =
    first-met (is_met areas r) (length areas - from) (length areas - (k + 1)) from k low (omega arith) (omega arith) met before

-- ---- as the iterator finds them

pub steps_none : (areas : List Rect) (r : Rect) (from : ℕ) (now : List ℕ) (found : Option ℕ) → met_from areas r from ≡ now → IsFirstMet areas r from found → found ≡ None
    → (now ≡ []) × (now ≡ [])
steps_none areas r from now found left first none =
    let empty : now ≡ [] = sym left ∙ met_from-none areas r from (subst (IsFirstMet areas r from) none first) in (empty, empty)

pub steps_some : (areas : List Rect) (r : Rect) (from k : ℕ) (now : List ℕ) (found : Option ℕ) → met_from areas r from ≡ now → IsFirstMet areas r from found → found ≡ Some k
    → now ≡ k ∷ met_from areas r (k + 1)
steps_some areas r from k now found left first some =
    let at = subst (IsFirstMet areas r from) some first in sym left ∙ met_from-first areas r from k at.0 at.1 at.2 at.3

-- ---- numbers in an order

pub length-order : (n : ℕ) (order : List ℕ) → IsOrder n order → length order ≡ n
length-order n order all = length_permutation (range_with_len 0 n) order all ∙ length-range_with_len 0 n

pub order-below : (n : ℕ) (order : List ℕ) → IsOrder n order → All (λ k. k < n) order
order-below n order all = All-permutation (λ k. k < n) (range_with_len 0 n) order all (λ k d below.
    let inside : k < n = (let size = length-range_with_len 0 n in omega arith) in
    let is : get_or (range_with_len 0 n) k d ≡ 0 + k = get_or-range_with_len 0 n k d inside in
    omega arith)

order-has : (n : ℕ) (order : List ℕ) (k : ℕ) → IsOrder n order → k < n → Contains order k
order-has n order k all below =
    let size = length-range_with_len 0 n in
    let is : get_or (range_with_len 0 n) k k ≡ 0 + k = get_or-range_with_len 0 n k k below in
    Contains-permutation (range_with_len 0 n) order k all (k, omega arith, (let same : 0 + k ≡ k = omega arith in is ∙ same))

Contains-map : (f : ℕ → ℕ) (xs : List ℕ) (x : ℕ) → Contains xs x → Contains (map f xs) (f x)
Contains-map f xs x has =
    let size : length (map f xs) ≡ length xs = length-map xs f in
    let below = has.1 in
    (has.0, omega arith, get_or-map f xs has.0 x (f x) below ∙ ap f has.2)

pub within-below : (n : ℕ) (areas : List Rect) (order : List ℕ) (r : Rect) → IsOrder n order → length areas ≡ n → All (λ k. k < n) (within_from areas order r 0)
within-below n areas order r all size =
    let whole = length-order n order all in
    All-map (λ k. k < n) (λ k. get_or order k 0) (met_from areas r 0)
    (λ k d below. let inside = met-below areas r k d below in order-below n order all (get_or (met_from areas r 0) k d) 0 (omega arith))

pub within-complete : (n : ℕ) (areas : List Rect) (order : List ℕ) (r : Rect) (k : ℕ) → IsOrder n order → length areas ≡ n → k < n
    → is_met areas r k ≡ true → Contains (within_from (in_order areas order) order r 0) k
within-complete n areas order r k all size below met =
    let whole = length-order n order all in
    let has = order-has n order k all below in
    let place = has.0 in
    let inside : place < length order = has.1 in
    let placed : length (in_order areas order) ≡ length order = length-map order (area_at areas) in
    let at : get_or order place 0 ≡ k = get_or_default order place 0 k inside ∙ has.2 in
    let area : area_at (in_order areas order) place ≡ area_at areas k =
    get_or-map (area_at areas) order place k _ inside ∙ ap (area_at areas) has.2 in
    let met_there : is_met (in_order areas order) r place ≡ true = ap (λ a. reaches a r) area ∙ met in
    subst (Contains (within_from (in_order areas order) order r 0)) at
    (Contains-map (λ j. get_or order j 0) (met_from (in_order areas order) r 0) place (met-complete (in_order areas order) r place (omega arith) met_there))

-- ---- as the iterator by place finds them

pub places_none : (areas : List Rect) (order : List ℕ) (r : Rect) (from : ℕ) (now : List ℕ) (found : Option ℕ) → within_from areas order r from ≡ now
    → IsFirstMet areas r from found → found ≡ None → (now ≡ []) × (now ≡ [])
places_none areas order r from now found left first none =
    let steps = steps_none areas r from (met_from areas r from) found refl first none in
    let empty : now ≡ [] = sym left ∙ ap (map (λ k. get_or order k 0)) steps.0 in (empty, empty)

pub places_some : (areas : List Rect) (order : List ℕ) (r : Rect) (from k : ℕ) (now : List ℕ) (found : Option ℕ) → within_from areas order r from ≡ now
    → IsFirstMet areas r from found → found ≡ Some k → now ≡ get_or order k 0 ∷ within_from areas order r (k + 1)
places_some areas order r from k now found left first some =
    sym left ∙ ap (map (λ j. get_or order j 0)) (steps_some areas r from k (met_from areas r from) found refl first some)

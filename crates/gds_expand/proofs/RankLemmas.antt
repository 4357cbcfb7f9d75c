-- The place of a structure in a bottom-up order is its rank.
use Rattle.std.proofs.Common.{◌≡◌, ℕ, zero, suc, ◌<◌, ◌≤◌, ◌==◌, inl, inr, Bool, false, if◌then◌else◌, List, [], ◌∷◌, length, take, drop, slice_index, Contains, ap, sym, ◌∙◌, subst, arith}
use Rattle.std.proofs.lemmas.Bool.{cases_eq, eq-eqb}
use Rattle.std.proofs.lemmas.Bool.Decides.{eqb_tells}
use Rattle.std.proofs.lemmas.List.{take-append-drop}
use Rattle.std.proofs.lemmas.List.Elements.{Contains-append_left}
use Rattle.gds_model.specs.declared.elements.Structure.{Structure}
use Rattle.gds_model.proofs.PlacedListLaws.{FallsBy}
use Rattle.gds_model.specs.Reach.{Chain, IsOnCycle, References}
use Rattle.gds_expand.specs.Orders.{IsOrder}

-- where the structure stands first
abbrev pub place_in : List ℕ → ℕ → ℕ
place_in [] s = 0
place_in (x ∷ order) s = if x == s then 0 else suc (place_in order s)

at_first : (x s : ℕ) (order : List ℕ) → x ≡ s → place_in (x ∷ order) s ≡ 0
at_first x s order e = ap (λ (b : Bool). if b then 0 else suc (place_in order s)) (eq-eqb x s e)

not_equal : (x s : ℕ) → (x ≡ s → ⊥) → (x == s) ≡ false
not_equal x s other = elim (eqb_tells x s) [
  | inl same ↦ absurd (other same.1)
  | inr off ↦ off.0
]

at_later : (x s : ℕ) (order : List ℕ) → (x ≡ s → ⊥) → place_in (x ∷ order) s ≡ suc (place_in order s)
at_later x s order other = ap (λ (b : Bool). if b then 0 else suc (place_in order s)) (not_equal x s other)

in_tail : (x s : ℕ) (order : List ℕ) → (x ≡ s → ⊥) → Contains (x ∷ order) s → Contains order s
in_tail x s order other (zero, below, e) = absurd (other e)
in_tail x s order other (suc k, below, e) = let later : k < length order = omega arith in (k, later, e)

pub place_below : (order : List ℕ) (s : ℕ) → Contains order s → place_in order s < length order
place_below [] s (k, below, e) = absurd (omega arith)
place_below (x ∷ order) s there = elim (cases_eq x s) [
  | inl same ↦ let here = at_first x s order same in omega (arith, here)
  | inr other ↦
      let later = at_later x s order other in
      let below : place_in order s < length order = place_below order s (in_tail x s order other there) in
      omega (arith, later, below)
]

pub place_is : (order : List ℕ) (s : ℕ) → Contains order s → slice_index order (place_in order s) ≡ s
place_is [] s (k, below, e) = absurd (omega arith)
place_is (x ∷ order) s there = elim (cases_eq x s) [
  | inl same ↦ ap (slice_index (x ∷ order)) (at_first x s order same) ∙ same
  | inr other ↦ ap (slice_index (x ∷ order)) (at_later x s order other) ∙ place_is order s (in_tail x s order other there)
]

pub place_before : (order : List ℕ) (n s : ℕ) → Contains (take n order) s → place_in order s < n
place_before [] zero s (k, below, e) = absurd (omega arith)
place_before [] (suc n) s (k, below, e) = absurd (omega arith)
place_before (x ∷ order) zero s (k, below, e) = absurd (omega arith)
place_before (x ∷ order) (suc n) s there = elim (cases_eq x s) [
  | inl same ↦ let here = at_first x s order same in omega (arith, here)
  | inr other ↦
      let later = at_later x s order other in
      let below : place_in order s < n = place_before order n s (in_tail x s (take n order) other there) in
      omega (arith, later, below)
]

-- no place is greater than the order is long
pub place_most : (order : List ℕ) (s : ℕ) → place_in order s ≤ length order
place_most [] s = omega arith
place_most (x ∷ order) s = elim (cases_eq x s) [
  | inl same ↦ let here = at_first x s order same in omega (arith, here)
  | inr other ↦
      let later = at_later x s order other in
      let below : place_in order s ≤ length order = place_most order s in
      omega (arith, later, below)
]

-- a structure that is referenced stands earlier
pub place_falls : (library : List Structure) (order : List ℕ) (s t : ℕ) → IsOrder library order → Contains order s → References library s t →
    place_in order t < place_in order s
place_falls library order s t o there named =
    place_before order (place_in order s) t
    (o.up (place_in order s) t (place_below order s there) (subst (λ (x : ℕ). References library x t) (sym (place_is order s there)) named))

pub listed_reference : (library : List Structure) (order : List ℕ) (s t : ℕ) → IsOrder library order → Contains order s → References library s t → Contains order t
listed_reference library order s t o there named =
    let k : ℕ = place_in order s in
    let early = o.up k t (place_below order s there) (subst (λ (x : ℕ). References library x t) (sym (place_is order s there)) named) in
    subst (λ (xs : List ℕ). Contains xs t) (take-append-drop k order) (Contains-append_left (take k order) (drop k order) t early)

-- what a listed structure reaches is listed
pub listed_chain : (library : List Structure) (order : List ℕ) (n s t : ℕ) → IsOrder library order → Contains order s → Chain library s t n → Contains order t
listed_chain library order zero s t o there same = subst (Contains order) same there
listed_chain library order (suc n) s t o there (u, chain, named) = listed_reference library order u t o (listed_chain library order n s u o there chain) named

pub falls_by_place : (library : List Structure) (order : List ℕ) (top : ℕ) → IsOrder library order → Contains order top → FallsBy library top (place_in order)
falls_by_place library order top o there = record {
  lower = λ s t reached named. place_falls library order s t o (listed_chain library order reached.0 top s o there reached.1) named;
}

-- along references the place falls
pub place_along : (library : List Structure) (order : List ℕ) (n s t : ℕ) → IsOrder library order → Contains order s → Chain library s t n →
    place_in order t ≤ place_in order s
place_along library order zero s t o there same = let e = ap (place_in order) same in omega (arith, e)
place_along library order (suc n) s t o there (u, chain, named) =
    let above = place_along library order n s u o there chain in
    let lower = place_falls library order u t o (listed_chain library order n s u o there chain) named in
    omega (arith, above, lower)

-- so no listed structure reaches itself
pub not_on_cycle : (library : List Structure) (order : List ℕ) (s : ℕ) → IsOrder library order → Contains order s → IsOnCycle library s → ⊥
not_on_cycle library order s o there (n, (u, chain, named)) =
    let above : place_in order u ≤ place_in order s = place_along library order n s u o there chain in
    let lower : place_in order s < place_in order u = place_falls library order u s o (listed_chain library order n s u o there chain) named in
    omega arith

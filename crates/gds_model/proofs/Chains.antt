-- A chain of references goes through structures of the library, and without a cycle through no structure twice: so it has
-- fewer references than there are structures.
use Rattle.std.proofs.Common.{◌≡◌, ℕ, zero, suc, ◌==◌, ◌<◌, ◌≤◌, Some, true, false, List, [], ◌∷◌, length, Contains, refl, ap, sym, ◌∙◌, subst, arith}
use Rattle.std.specs.List.{IsDistinct, list_any}
use Rattle.std.proofs.lemmas.Bool.{eqb-true, ne_eqb}
use Rattle.std.proofs.lemmas.List.Elements.{All-contains_itself, All-weaker, recursion_from_All}
use Rattle.std.proofs.lemmas.List.Quantifiers.{position-Some}
use Rattle.std.proofs.lemmas.Map.Steps.{length-le_from_distinct_below}
use Rattle.std.proofs.lemmas.Map.Views.{Contains-from_any}
use Rattle.gds_model.specs.declared.elements.Structure.{Structure}
use Rattle.gds_model.specs.PlaceFaults.{HasNoCycle}
use Rattle.gds_model.specs.Reach.{Chain, Reaches, elements_at, is_same_name, number_of}

-- ---- structures of the library

blank : Structure
blank = record { name = []; elements = [] }

pub number_below : (library : List Structure) (name : List ℕ) (t : ℕ) → number_of library name ≡ Some t → t < length library
number_below library name t e = (position-Some (λ (s : Structure). is_same_name s.name name) library t blank e).0

-- a structure of the library reaches such structures
pub chain_below : (library : List Structure) (top s n : ℕ) → top < length library → Chain library top s n → s < length library
chain_below library top s zero inside same = subst (λ (x : ℕ). x < length library) same inside
chain_below library top s (suc n) inside (u, chain, named) = number_below library _ s named.2

-- past the last there is no element
pub elements_past : (library : List Structure) (s : ℕ) → length library ≤ s → elements_at library s ≡ []
elements_past [] s past = refl
elements_past (structure ∷ library) zero past = absurd (omega arith)
elements_past (structure ∷ library) (suc s) past = elements_past library s (omega arith)

-- ---- no structure twice

-- the structures of a chain, from its end
abbrev passed : (library : List Structure) (top n s : ℕ) → Chain library top s n → List ℕ
passed library top zero s same = s ∷ []
passed library top (suc n) s (u, chain, named) = s ∷ passed library top n u chain

passed_count : (library : List Structure) (top n s : ℕ) (chain : Chain library top s n) → length (passed library top n s chain) ≡ suc n
passed_count library top zero s same = refl
passed_count library top (suc n) s (u, chain, named) = ap suc (passed_count library top n u chain)

passed_below : (library : List Structure) (top n s t : ℕ) → top < length library → (chain : Chain library top s n) →
    Contains (passed library top n s chain) t → t < length library
passed_below library top zero s t inside same (zero, there, is) = subst (λ (x : ℕ). x < length library) (same ∙ is) inside
passed_below library top zero s t inside same (suc k, there, is) = absurd (omega arith)
passed_below library top (suc n) s t inside (u, chain, named) (zero, there, is) =
    subst (λ (x : ℕ). x < length library) is (number_below library _ s named.2)
passed_below library top (suc n) s t inside (u, chain, named) (suc k, there, is) = passed_below library top n u t inside chain (k, omega arith, is)

-- the rest of the chain leads from each of them to its end
passed_reaches : (library : List Structure) (top n s t : ℕ) (chain : Chain library top s n) → Contains (passed library top n s chain) t → Reaches library t s
passed_reaches library top zero s t same (zero, there, is) = (0, sym is)
passed_reaches library top zero s t same (suc k, there, is) = absurd (omega arith)
passed_reaches library top (suc n) s t (u, chain, named) (zero, there, is) = (0, sym is)
passed_reaches library top (suc n) s t (u, chain, named) (suc k, there, is) =
    let rest = passed_reaches library top n u t chain (k, omega arith, is) in
    (suc rest.0, (u, rest.1, named))

passed_once : (library : List Structure) (top n s : ℕ) → HasNoCycle library top → (chain : Chain library top s n) →
    IsDistinct (λ x y. x == y) (passed library top n s chain)
unfolding IsDistinct
passed_once library top zero s acyclic same = (tt, tt)
passed_once library top (suc n) s acyclic (u, chain, named) = (
  recursion_from_All (λ y. (s == y) ≡ false) before
      (All-weaker (Contains before) (λ y. (s == y) ≡ false) other before (All-contains_itself before)),
  passed_once library top n u acyclic chain,
)
  where
    before : List ℕ
    before = passed library top n u chain

    other : (y : ℕ) → Contains before y → (s == y) ≡ false
    other y there = ne_eqb s y (λ same.
        let back : Reaches library s u = passed_reaches library top n u s chain (subst (Contains before) (sym same) there) in
        acyclic s (suc n, (u, chain, named)) (back.0, (u, back.1, named)))

-- without a cycle a chain has fewer references than there are structures
pub chain_short : (library : List Structure) (top n s : ℕ) → HasNoCycle library top → top < length library → Chain library top s n → n < length library
chain_short library top n s acyclic inside chain =
    let each : (q : ℕ) → list_any (λ y. q == y) (passed library top n s chain) ≡ true → q < length library
    = λ q found. passed_below library top n s q inside chain (Contains-from_any (λ x y. eqb-true x y) q (passed library top n s chain) found) in
    let few = length-le_from_distinct_below (passed library top n s chain) (length library) (passed_once library top n s acyclic chain) each in
    omega (arith, few, passed_count library top n s chain)

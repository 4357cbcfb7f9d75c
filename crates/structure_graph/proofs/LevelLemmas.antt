-- What levels tell of cycles.
use Rattle.std.proofs.Common.{ℕ, zero, suc, ◌+◌, ◌<◌, inl, inr, Bool, Option, Some, None, IfSome, IfNone, List, length, slice_index, Contains, sym, subst, arith}
use Rattle.std.proofs.lemmas.Bool.{cases_eq}
use Rattle.structure_graph.specs.Graph.{Graph, Chain, FallsBelow, IsClosed, IsLowestOnCycle, IsMarked, NeverRises, Reaches, ReachesByReference, references_of}
use Rattle.structure_graph.proofs.CycleLemmas.{AreReached, reached_in_range}

-- ---- one structure after another

-- a fact on the references of the marked structures below a number
abbrev pub HoldsBelow : Graph → List Bool → (ℕ → ℕ → Type 0) → ℕ → Type 0
HoldsBelow g marks P n = (s t : ℕ) → s < n → IsMarked marks s → Contains (references_of g s) t → P s t

pub holds_more : (g : Graph) (marks : List Bool) (P : ℕ → ℕ → Type 0) (i : ℕ) → HoldsBelow g marks P i →
    ((t : ℕ) → Contains (references_of g i) t → P i t) → HoldsBelow g marks P (i + 1)
holds_more g marks P i h here s t below marked there = elim (cases_eq s i) [
  | inl same ↦ subst (λ (x : ℕ). P x t) (sym same) (here t (subst (λ (x : ℕ). Contains (references_of g x) t) same there))
  | inr other ↦ let earlier : s < i = omega (arith, other) in h s t earlier marked there
]

pub holds_unmarked : (g : Graph) (marks : List Bool) (P : ℕ → ℕ → Type 0) (i : ℕ) → HoldsBelow g marks P i → (IsMarked marks i → ⊥) →
    HoldsBelow g marks P (i + 1)
holds_unmarked g marks P i h unmarked s t below marked there = elim (cases_eq s i) [
  | inl same ↦ absurd (unmarked (subst (IsMarked marks) same marked))
  | inr other ↦ let earlier : s < i = omega (arith, other) in h s t earlier marked there
]

-- ---- along chains

reach_along : (g : Graph) (start a b n : ℕ) → Reaches g start a → Chain g a b n → Reaches g start b
reach_along g start a b zero r same = subst (Reaches g start) same r
reach_along g start a b (suc n) r (c, chain, edge) = let to = reach_along g start a c n r chain in (suc to.0, (c, to.1, edge))

falls_along : (g : Graph) (start s : ℕ) (marks : List Bool) (levels : List ℕ) → AreReached g start marks → FallsBelow g marks levels s → NeverRises g marks levels →
    (n a b : ℕ) → a < s → Reaches g start a → Chain g a b (suc n) → slice_index levels b < slice_index levels a
falls_along g start s marks levels reached falls never zero a b below r (c, same, edge) =
    falls a b below (reached.from a r) (subst (λ (x : ℕ). Contains (references_of g x) b) (sym same) edge)
falls_along g start s marks levels reached falls never (suc n) a b below r (c, chain, edge) =
    let lower = falls_along g start s marks levels reached falls never n a c below r chain in
    let level = never c b (reached.from c (reach_along g start a c (suc n) r chain)) edge in
    omega (arith, lower, level)

no_cycle_below : (g : Graph) (start s : ℕ) (marks : List Bool) (levels : List ℕ) → AreReached g start marks → FallsBelow g marks levels s → NeverRises g marks levels →
    (t : ℕ) → t < s → Reaches g start t → ReachesByReference g t t → ⊥
no_cycle_below g start s marks levels reached falls never t below r (n, chain) =
    let lower = falls_along g start s marks levels reached falls never n t t below r chain in omega (arith, lower)

-- the lowest structure from which the level doesn't fall is the lowest on a cycle, if it is on one
pub found_by_levels : (g : Graph) (start : ℕ) (marks : List Bool) (levels : List ℕ) (found : Option ℕ) → AreReached g start marks → NeverRises g marks levels →
    IfSome found (IsMarked marks) → IfSome found (FallsBelow g marks levels) → IfSome found (λ s. ReachesByReference g s s) → IfSome found (IsLowestOnCycle g start)
found_by_levels g start marks levels None reached never marked falls cycle = tt
found_by_levels g start marks levels (Some s) reached never marked falls cycle = record {
  reached = reached.to s marked;
  cycle = cycle;
  lowest = no_cycle_below g start s marks levels reached falls never;
}

pub none_by_levels : (g : Graph) (start : ℕ) (marks : List Bool) (levels : List ℕ) (found : Option ℕ) → IsClosed g → start < length g → AreReached g start marks →
    NeverRises g marks levels → IfNone found (FallsBelow g marks levels (length g)) →
    IfNone found ((s : ℕ) → Reaches g start s → ReachesByReference g s s → ⊥)
none_by_levels g start marks levels None closed there reached never falls = λ s r cycle.
    no_cycle_below g start (length g) marks levels reached falls never s (reached_in_range g start s closed there r) r cycle
none_by_levels g start marks levels (Some s) closed there reached never falls = tt

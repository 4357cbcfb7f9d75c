-- The lowest wrong reference, one element after another.
use Rattle.std.proofs.Common.{◌↔◌, ◌≡◌, ℕ, zero, suc, ◌+◌, ◌<◌, ◌≤◌, ◌⊎◌, inl, inr, Bool, false, if◌then◌else◌, Option, Some, None, IsSome, List, [], ◌∷◌, length, Contains, refl, ap, sym, ◌∙◌, subst, arith}
use Rattle.std.specs.Prelude.{fold, nat_lt, slice_get}
use Rattle.std.proofs.lemmas.Bool.{cases_lt, lt-ltb, cases_eq}
use Rattle.gds_model.specs.declared.elements.Element.{Element}
use Rattle.gds_model.specs.declared.elements.Element.TheVariants.{Shape as shape, Reference as reference}
use Rattle.gds_model.specs.declared.elements.Structure.{Structure}
use Rattle.gds_model.specs.declared.place_fault.PlaceFault.{PlaceFault}
use Rattle.gds_model.specs.declared.reference.Reference.{Reference}
use Rattle.gds_model.specs.PlaceFaults.{AreReferencesRight, IsReached, IsReferenceFault, reference_fault}
use Rattle.gds_model.specs.Reach.{elements_at, Reaches}
use Rattle.gds_expand.specs.declared.wrong.Wrong.{Wrong}
use Rattle.gds_expand.specs.Wrong.{lower, lower_by, IsLowest, IsMarkedBelow}
use Rattle.structure_graph.specs.Graph.{IsMarked}

-- the same references
pub lowest_of_same : (library : List Structure) (Q P : Reference → Type 0) (best : Option Wrong) →
    ((r : Reference) → Q r → P r) → ((r : Reference) → P r → Q r) → IsLowest library Q best → IsLowest library P best
lowest_of_same library Q P None to from h = λ q k. h q (from q k)
lowest_of_same library Q P (Some wrong) to from (r, of, at, is, least) = (r, to r of, at, is, λ q k. least q (from q k))

not_some : (o : Option PlaceFault) → o ≡ None → IsSome o → ⊥
not_some None e h = let no : ⊥ = cc in no
not_some (Some fault) e h = let no : ⊥ = cc in no

lowest_two : (library : List Structure) (Q : Reference → Type 0) (old : Wrong) (r : Reference) (fault : PlaceFault) →
    reference_fault library r ≡ Some fault → IsLowest library Q (Some old) →
    IsLowest library (λ q. Q q ⊎ (q ≡ r)) (if nat_lt r.offset old.offset then Some (record { offset = r.offset; fault = fault }) else Some old)
lowest_two library Q old r fault is (o, of, at, old_is, least) = elim (cases_lt r.offset old.offset) [
  | inl below ↦
      subst (λ (b : Bool). IsLowest library (λ q. Q q ⊎ (q ≡ r)) (if b then Some (record { offset = r.offset; fault = fault }) else Some old))
      (sym (lt-ltb r.offset old.offset below)) (r, inr refl, refl, is, new_least below)
  | inr above ↦
      subst (λ (b : Bool). IsLowest library (λ q. Q q ⊎ (q ≡ r)) (if b then Some (record { offset = r.offset; fault = fault }) else Some old))
      (sym (not_below above)) (o, inl of, at, old_is, old_least above)
]
  where
    not_below : old.offset ≤ r.offset → nat_lt r.offset old.offset ≡ false
    not_below above = search arith

    new_least : r.offset < old.offset → (q : Reference) → Q q ⊎ (q ≡ r) → IsSome (reference_fault library q) → r.offset ≤ q.offset
    new_least below q (inl k) some = let bound : old.offset ≤ q.offset = least q k some in omega arith
    new_least below q (inr e) some = let same : q.offset ≡ r.offset = ap (λ x. x.offset) e in omega arith

    old_least : old.offset ≤ r.offset → (q : Reference) → Q q ⊎ (q ≡ r) → IsSome (reference_fault library q) → old.offset ≤ q.offset
    old_least above q (inl k) some = least q k some
    old_least above q (inr e) some = let same : q.offset ≡ r.offset = ap (λ x. x.offset) e in omega arith

lowest_with : (library : List Structure) (Q : Reference → Type 0) (best : Option Wrong) (r : Reference) (o : Option PlaceFault) →
    reference_fault library r ≡ o → IsLowest library Q best → IsLowest library (λ q. Q q ⊎ (q ≡ r)) (lower best r.offset o)
lowest_with library Q None r None is h = each
  where
    each : (q : Reference) → Q q ⊎ (q ≡ r) → reference_fault library q ≡ None
    each q (inl k) = h q k
    each q (inr e) = ap (reference_fault library) e ∙ is
lowest_with library Q (Some old) r None is (o, of, at, old_is, least) = (o, inl of, at, old_is, each)
  where
    each : (q : Reference) → Q q ⊎ (q ≡ r) → IsSome (reference_fault library q) → old.offset ≤ q.offset
    each q (inl k) some = least q k some
    each q (inr e) some = absurd (not_some (reference_fault library q) (ap (reference_fault library) e ∙ is) some)
lowest_with library Q None r (Some fault) is h = (r, inr refl, refl, is, each)
  where
    each : (q : Reference) → Q q ⊎ (q ≡ r) → IsSome (reference_fault library q) → r.offset ≤ q.offset
    each q (inl k) some = absurd (not_some (reference_fault library q) (h q k) some)
    each q (inr e) some = let same : q.offset ≡ r.offset = ap (λ x. x.offset) e in omega arith
lowest_with library Q (Some old) r (Some fault) is h = lowest_two library Q old r fault is h

lowest_by : (library : List Structure) (Q : Reference → Type 0) (best : Option Wrong) (x : Element) →
    IsLowest library Q best → IsLowest library (λ q. Q q ⊎ (x ≡ reference q)) (lower_by library best x)
lowest_by library Q best (shape s) h = lowest_of_same library Q (λ q. Q q ⊎ (shape s ≡ reference q)) best (λ r k. inl k) from h
  where
    from : (q : Reference) → Q q ⊎ (shape s ≡ reference q) → Q q
    from q (inl k) = k
    from q (inr e) = absurd (let no : ⊥ = cc in no)
lowest_by library Q best (reference r) h =
    lowest_of_same library (λ q. Q q ⊎ (q ≡ r)) (λ q. Q q ⊎ (reference r ≡ reference q)) _ to from
    (lowest_with library Q best r (reference_fault library r) refl h)
  where
    to : (q : Reference) → Q q ⊎ (q ≡ r) → Q q ⊎ (reference r ≡ reference q)
    to q (inl k) = inl k
    to q (inr e) = inr (ap reference (sym e))

    from : (q : Reference) → Q q ⊎ (reference r ≡ reference q) → Q q ⊎ (q ≡ r)
    from q (inl k) = inl k
    from q (inr e) = let same : q ≡ r = cc in inr same

-- among the elements too
pub lowest_among : (library : List Structure) (Q : Reference → Type 0) (best : Option Wrong) (elements : List Element) →
    IsLowest library Q best → IsLowest library (λ q. Q q ⊎ Contains elements (reference q)) (fold (lower_by library) best elements)
lowest_among library Q best [] h = lowest_of_same library Q (λ q. Q q ⊎ Contains [] (reference q)) best (λ r k. inl k) from h
  where
    from : (q : Reference) → Q q ⊎ Contains [] (reference q) → Q q
    from q (inl k) = k
    from q (inr (k, below, e)) = absurd (omega arith)
lowest_among library Q best (x ∷ elements) h =
    lowest_of_same library (λ q. (Q q ⊎ (x ≡ reference q)) ⊎ Contains elements (reference q)) (λ q. Q q ⊎ Contains (x ∷ elements) (reference q)) _ to from
    (lowest_among library (λ q. Q q ⊎ (x ≡ reference q)) (lower_by library best x) elements (lowest_by library Q best x h))
  where
    to : (q : Reference) → (Q q ⊎ (x ≡ reference q)) ⊎ Contains elements (reference q) → Q q ⊎ Contains (x ∷ elements) (reference q)
    to q (inl (inl k)) = inl k
    to q (inl (inr e)) = inr (zero, omega arith, e)
    to q (inr (k, below, e)) = inr (suc k, omega arith, e)

    from : (q : Reference) → Q q ⊎ Contains (x ∷ elements) (reference q) → (Q q ⊎ (x ≡ reference q)) ⊎ Contains elements (reference q)
    from q (inl k) = inl (inl k)
    from q (inr (zero, below, e)) = inl (inr e)
    from q (inr (suc k, below, e)) = let later : k < length elements = omega arith in inr (k, later, e)

-- ---- structures

pub elements_from : (library : List Structure) (s : ℕ) (structure : Structure) → slice_get library s ≡ Some structure → elements_at library s ≡ structure.elements
elements_from [] s structure e = absurd (let no : ⊥ = cc in no)
elements_from (x ∷ library) zero structure e = let same : x ≡ structure = cc in ap (λ y. y.elements) same
elements_from (x ∷ library) (suc s) structure e = elements_from library s structure e

pub lowest_none : (library : List Structure) (marks : List Bool) → IsLowest library (IsMarkedBelow library marks 0) None
lowest_none library marks q (s, below, marked, there) = absurd (omega arith)

pub lowest_marked : (library : List Structure) (marks : List Bool) (i : ℕ) (structure : Structure) (best : Option Wrong) → slice_get library i ≡ Some structure → IsMarked marks i →
    IsLowest library (IsMarkedBelow library marks i) best →
    IsLowest library (IsMarkedBelow library marks (i + 1)) (fold (lower_by library) best structure.elements)
lowest_marked library marks i structure best here marked h =
    lowest_of_same library (λ q. IsMarkedBelow library marks i q ⊎ Contains structure.elements (reference q)) (IsMarkedBelow library marks (i + 1)) _ to from
    (lowest_among library (IsMarkedBelow library marks i) best structure.elements h)
  where
    to : (q : Reference) → IsMarkedBelow library marks i q ⊎ Contains structure.elements (reference q) → IsMarkedBelow library marks (i + 1) q
    to q (inl (s, below, is, there)) = (s, omega arith, is, there)
    to q (inr there) = (i, omega arith, marked, subst (λ (es : List Element). Contains es (reference q)) (sym (elements_from library i structure here)) there)

    from : (q : Reference) → IsMarkedBelow library marks (i + 1) q → IsMarkedBelow library marks i q ⊎ Contains structure.elements (reference q)
    from q (s, below, is, there) = elim (cases_eq s i) [
      | inl same ↦
          inr (subst (λ (es : List Element). Contains es (reference q)) (ap (elements_at library) same ∙ elements_from library i structure here) there)
      | inr other ↦ let lower : s < i = omega (arith, other) in inl (s, lower, is, there)
    ]

pub lowest_unmarked : (library : List Structure) (marks : List Bool) (i : ℕ) (best : Option Wrong) → (IsMarked marks i → ⊥) →
    IsLowest library (IsMarkedBelow library marks i) best → IsLowest library (IsMarkedBelow library marks (i + 1)) best
lowest_unmarked library marks i best unmarked h = lowest_of_same library (IsMarkedBelow library marks i) (IsMarkedBelow library marks (i + 1)) best to from h
  where
    to : (q : Reference) → IsMarkedBelow library marks i q → IsMarkedBelow library marks (i + 1) q
    to q (s, below, is, there) = (s, omega arith, is, there)

    from : (q : Reference) → IsMarkedBelow library marks (i + 1) q → IsMarkedBelow library marks i q
    from q (s, below, is, there) = elim (cases_eq s i) [
      | inl same ↦ absurd (unmarked (subst (IsMarked marks) same is))
      | inr other ↦ let lower : s < i = omega (arith, other) in (s, lower, is, there)
    ]

-- ---- what is reached

structure_there : (library : List Structure) (s : ℕ) (e : Element) → Contains (elements_at library s) e → s < length library
structure_there [] s e (k, below, is) = absurd (omega arith)
structure_there (x ∷ library) zero e there = omega arith
structure_there (x ∷ library) (suc s) e there = let below : s < length library = structure_there library s e there in omega arith

marked_reference : (library : List Structure) (top : ℕ) (marks : List Bool) → ((s : ℕ) → IsMarked marks s ↔ Reaches library top s) →
    (r : Reference) → IsReached library top r → IsMarkedBelow library marks (length library) r
marked_reference library top marks right r (s, reached, there) = (s, structure_there library s (reference r) there, (right s).1 reached, there)

-- the lowest wrong reference of the marked structures, where the reached ones are marked
pub wrong_is_fault : (library : List Structure) (top : ℕ) (marks : List Bool) (wrong : Wrong) → ((s : ℕ) → IsMarked marks s ↔ Reaches library top s) →
    IsLowest library (IsMarkedBelow library marks (length library)) (Some wrong) → IsReferenceFault library top wrong.fault
wrong_is_fault library top marks wrong right (r, (s, below, marked, there), at, is, least) = (r, (s, (right s).0 marked, there), is, lowest)
  where
    lowest : (q : Reference) → IsReached library top q → IsSome (reference_fault library q) → r.offset ≤ q.offset
    lowest q reached some = let bound : wrong.offset ≤ q.offset = least q (marked_reference library top marks right q reached) some in omega (arith, at, bound)

pub none_is_wrong : (library : List Structure) (top : ℕ) (marks : List Bool) → ((s : ℕ) → IsMarked marks s ↔ Reaches library top s) →
    IsLowest library (IsMarkedBelow library marks (length library)) None → AreReferencesRight library top
none_is_wrong library top marks right h r reached = h r (marked_reference library top marks right r reached)

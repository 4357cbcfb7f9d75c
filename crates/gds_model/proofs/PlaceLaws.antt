-- A library's placement has one fault at most, and none where there is a placement; a placement leaves nothing out.
use Rattle.std.proofs.Common.{◌≡◌, ℕ, ◌≤◌, List, Option, Some, None, sym, ap, ◌∙◌, subst, inl, inr, arith}
use Rattle.std.proofs.lemmas.Bool.{cases_lt}
use Rattle.std.specs.Prelude.{MatchOption, is_some, map}
use Rattle.opc_base.specs.declared.outline.Outline.{Outline}
use Rattle.opc_base.specs.declared.rules.Pick.{Pick}
use Rattle.gds_model.specs.declared.elements.Structure.{Structure}
use Rattle.gds_model.specs.declared.reference.Reference.{Reference}
use Rattle.gds_model.specs.declared.place_fault.PlaceFault.{PlaceFault}
use Rattle.gds_model.specs.declared.place_fault.PlaceFault.TheVariants.{NoTop, Cycle}
use Rattle.gds_model.specs.Reach.{number_of}
use Rattle.gds_model.specs.Outlines.{outline_of}
use Rattle.gds_model.specs.PlaceFaults.{reference_fault, IsReached, IsReferenceFault, AreReferencesRight, IsCycleFault, HasNoCycle, point_count, first_fault, chosen_list, IsFaultFrom, IsPlaceFault, IsPlacement, PlacesAll}
use Rattle.gds_model.specs.PlacedList.{Mapped, is_on, placed_in}
use Rattle.gds_model.proofs.PlacedListLaws.{placed_in-whole}

-- no two references of the library have one offset
abbrev pub HasDistinctOffsets : List Structure → Type 0
HasDistinctOffsets library = (top : ℕ) (r q : Reference) → IsReached library top r → IsReached library top q → r.offset ≡ q.offset → r ≡ q

module _ (library : List Structure) (distinct : HasDistinctOffsets library) (pick : Pick) (top : ℕ) where
  one_reference_fault : (f g : PlaceFault) → IsReferenceFault library top f → IsReferenceFault library top g → f ≡ g
  one_reference_fault f g (r, reached, wrong, first) (q, reached', wrong', first') =
      let le = first q reached' (ap is_some wrong') in
      let ge = first' r reached (ap is_some wrong) in
      let same : r ≡ q = distinct top r q reached reached' (omega arith) in
      let one : Some f ≡ Some g = sym wrong ∙ ap (λ x. reference_fault library x) same ∙ wrong' in
      cc

  not_right : (f : PlaceFault) → IsReferenceFault library top f → AreReferencesRight library top → ⊥
  not_right f (r, reached, wrong, first) right =
      let none = right r reached in cc

  one_cycle : (f g : PlaceFault) → IsCycleFault library top f → IsCycleFault library top g → f ≡ g
  one_cycle f g (s, is, reaches, cycle, first) (t, is', reaches', cycle', first') =
      elim (cases_lt s t) [
        | inl below ↦ absurd (first' s below reaches cycle)
        | inr above ↦ elim (cases_lt t s) [
          | inl below ↦ absurd (first t below reaches' cycle')
          | inr same ↦ is ∙ ap (λ n. Cycle n) (let e : s ≡ t = omega arith in e) ∙ sym is'
        ]
      ]

  not_cycle : (f : PlaceFault) → IsCycleFault library top f → HasNoCycle library top → ⊥
  not_cycle f (s, is, reaches, cycle, first) none = none s reaches cycle

  one_from : (f g : PlaceFault) → IsFaultFrom library pick f top → IsFaultFrom library pick g top → f ≡ g
  one_from f g (inl a) (inl b) = one_reference_fault f g a b
  one_from f g (inl a) (inr (inl b)) = absurd (not_right f a b.0)
  one_from f g (inl a) (inr (inr (inl b))) = absurd (not_right f a b.0)
  one_from f g (inl a) (inr (inr (inr b))) = absurd (not_right f a b.0)
  one_from f g (inr (inl a)) (inl b) = absurd (not_right g b a.0)
  one_from f g (inr (inl a)) (inr (inl b)) = one_cycle f g a.1 b.1
  one_from f g (inr (inl a)) (inr (inr (inl b))) = absurd (not_cycle f a.1 b.1)
  one_from f g (inr (inl a)) (inr (inr (inr b))) = absurd (not_cycle f a.1 b.1)
  one_from f g (inr (inr (inl a))) (inl b) = absurd (not_right g b a.0)
  one_from f g (inr (inr (inl a))) (inr (inl b)) = absurd (not_cycle g b.1 a.1)
  one_from f g (inr (inr (inl a))) (inr (inr (inl b))) = a.2.1 ∙ sym b.2.1
  one_from f g (inr (inr (inl a))) (inr (inr (inr b))) = let many = a.2.0 in let few = b.2 in absurd (omega arith)
  one_from f g (inr (inr (inr a))) (inl b) = absurd (not_right g b a.0)
  one_from f g (inr (inr (inr a))) (inr (inl b)) = absurd (not_cycle g b.1 a.1)
  one_from f g (inr (inr (inr a))) (inr (inr (inl b))) = let many = b.2.0 in let few = a.2 in absurd (omega arith)
  one_from f g (inr (inr (inr a))) (inr (inr (inr b))) = let one : Some f ≡ Some g = sym a.3 ∙ b.3 in cc

  none_from : (f : PlaceFault) → IsFaultFrom library pick f top → AreReferencesRight library top → HasNoCycle library top
      → point_count library pick top ≤ 1048576 → first_fault pick.grid (chosen_list library pick top) ≡ None → ⊥
  none_from f (inl a) right acyclic few fine = not_right f a right
  none_from f (inr (inl a)) right acyclic few fine = not_cycle f a.1 acyclic
  none_from f (inr (inr (inl a))) right acyclic few fine = let many = a.2.0 in absurd (omega arith)
  none_from f (inr (inr (inr a))) right acyclic few fine = let wrong = a.3 in cc

module _ (library : List Structure) (distinct : HasDistinctOffsets library) (pick : Pick) where
  one_at : (found : Option ℕ) (f g : PlaceFault) → MatchOption found (f ≡ NoTop) (IsFaultFrom library pick f)
      → MatchOption found (g ≡ NoTop) (IsFaultFrom library pick g) → f ≡ g
  one_at None f g p q = p ∙ sym q
  one_at (Some top) f g p q = one_from library distinct pick top f g p q

  pub one_place_fault : (f g : PlaceFault) → IsPlaceFault library pick f → IsPlaceFault library pick g → f ≡ g
  one_place_fault f g p q = one_at (number_of library pick.top) f g p q

  none_at : (found : Option ℕ) (f : PlaceFault) (top : ℕ) → found ≡ Some top → MatchOption found (f ≡ NoTop) (IsFaultFrom library pick f)
      → IsFaultFrom library pick f top
  none_at None f top is p = cc
  none_at (Some other) f top is p =
      let same : other ≡ top = cc in
      subst (λ n. IsFaultFrom library pick f n) same p

  pub no_place_fault : (f : PlaceFault) (outlines : List Outline) → IsPlacement library pick outlines → IsPlaceFault library pick f → ⊥
  no_place_fault f outlines (top, is, right, acyclic, few, fine, same) p =
      none_from library distinct pick top f (none_at (number_of library pick.top) f top is p) right acyclic few fine

  pub one_placement : (o p : List Outline) → IsPlacement library pick o → IsPlacement library pick p → o ≡ p
  one_placement o p (top, is, right, acyclic, few, fine, same) (top', is', right', acyclic', few', fine', same') =
      let one : top ≡ top' = let found : Some top ≡ Some top' = sym is ∙ is' in cc in
      same ∙ ap (λ n. map (outline_of pick.grid) (chosen_list library pick n)) one ∙ sym same'

-- a placement leaves nothing out
pub placement_whole : (library : List Structure) (pick : Pick) (outlines : List Outline) → IsPlacement library pick outlines → PlacesAll library pick outlines
placement_whole library pick outlines (top, is, right, acyclic, few, fine, made) other depth is' deep =
    let one : top ≡ other = let found : Some top ≡ Some other = sym is ∙ is' in cc in
    let all : List Structure → ℕ → List Mapped = λ structures s. placed_in structures (is_on pick.layer pick.datatype) depth s in
    made ∙ ap (map (outline_of pick.grid)) (sym (placed_in-whole library (is_on pick.layer pick.datatype) top depth acyclic deep) ∙ ap (all library) one)

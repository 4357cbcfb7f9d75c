-- What the row of a structure means, one element after another.
use Rattle.std.proofs.Common.{◌+◌, length, take, get_or, ◌≡◌, ℕ, ◌<◌, inl, inr, Bool, true, false, Bor, Option, Some, None, is_none, if◌then◌else◌, List, [], ◌∷◌, ◌++◌, Contains, refl, ap, sym, ◌∙◌, subst, arith}
use Rattle.std.specs.List.{flat_map}
use Rattle.std.proofs.lemmas.List.{append-nil, take_more}
use Rattle.std.proofs.lemmas.List.Elements.{Contains-append_left, Contains-push, Contains-push_cases}
use Rattle.gds_model.specs.declared.elements.Element.{Element}
use Rattle.gds_model.specs.declared.elements.Element.TheVariants.{Shape as shape, Reference as reference}
use Rattle.gds_model.specs.declared.elements.Structure.{Structure}
use Rattle.gds_model.specs.declared.place_fault.PlaceFault.TheVariants.{Missing}
use Rattle.gds_model.specs.declared.reference.Reference.{Reference}
use Rattle.gds_model.specs.declared.shape.Shape.{Shape}
use Rattle.gds_model.specs.PlacedList.{Mapped, copies_of, copy_maps, placed_by}
use Rattle.gds_model.specs.PlaceFaults.{own_fault, reference_fault}
use Rattle.gds_model.specs.Reach.{number_of}
use Rattle.gds_expand.specs.Bases.{AddsReference}
use Rattle.gds_expand.specs.declared.placement.Placement.{Placement}
use Rattle.gds_expand.specs.declared.walk.Step.{Step}
use Rattle.gds_expand.specs.declared.walk.Step.TheVariants.{Shape as shape_step, Copy}
use Rattle.gds_expand.specs.Rows.{AddsElement, IsRow}
use Rattle.gds_expand.specs.Steps.{Plan, steps_of, step_places}
use Rattle.gds_expand.proofs.AddLemmas.{flat_map-push}

-- a reference without fault names a structure, and has no fault of its own
pub right_own : (library : List Structure) (r : Reference) (t : ℕ) → reference_fault library r ≡ None → number_of library r.name ≡ Some t → own_fault r ≡ None
right_own library r t right named = sym (ap (λ (o : Option ℕ). if is_none o then Some (Missing r.offset) else own_fault r) named) ∙ right

pub right_named : (library : List Structure) (r : Reference) → reference_fault library r ≡ None → number_of library r.name ≡ None → ⊥
right_named library r right none =
    let wrong : Some (Missing r.offset) ≡ None = sym (ap (λ (o : Option ℕ). if is_none o then Some (Missing r.offset) else own_fault r) none) ∙ right in
    let no : ⊥ = cc in no

pub element_by_reference : (library : List Structure) (chosen : Shape → Bool) (plan : Plan) (r : Reference) (t : ℕ) (old new : List Step) →
    number_of library r.name ≡ Some t → AddsReference r t (steps_of plan t) old new → AddsElement library chosen plan (reference r) old new
element_by_reference library chosen plan r t old new named h = record {
  places = λ inner means.
      h.places inner (means t named)
      ∙ ap (λ (xs : List Mapped). flat_map (step_places inner) old ++ xs) (sym (ap (copies_of inner (copy_maps r)) named));
  copies = λ u m there. elim (h.copies u m there) [
    | inl early ↦ inl early
    | inr copy ↦ inr (t, named, copy)
  ];
}

pub element_passed : (library : List Structure) (chosen : Shape → Bool) (plan : Plan) (s : Shape) (steps : List Step) → chosen s ≡ false →
    AddsElement library chosen plan (shape s) steps steps
element_passed library chosen plan s steps off = record {
  places = λ inner means.
      sym (ap (λ (b : Bool). flat_map (step_places inner) steps ++ (if b then (s, λ p. p) ∷ [] else [])) off ∙ append-nil (flat_map (step_places inner) steps));
  copies = λ t m there. inl there;
}

pub element_by_shape : (library : List Structure) (chosen : Shape → Bool) (plan : Plan) (s : Bor Shape) (steps : List Step) → chosen s.now ≡ true →
    AddsElement library chosen plan (shape s.now) steps (steps ++ shape_step s ∷ [])
element_by_shape library chosen plan s steps on = record {
  places = λ inner means.
      flat_map-push (step_places inner) steps (shape_step s)
      ∙ sym (ap (λ (b : Bool). flat_map (step_places inner) steps ++ (if b then (s.now, λ p. p) ∷ [] else [])) on);
  copies = λ t m there. elim (Contains-push_cases steps (shape_step s) (Copy t m) there) [
    | inl early ↦ inl early
    | inr last ↦ absurd (let no : ⊥ = cc in no)
  ];
}

-- ---- rows

pub row_none : (library : List Structure) (chosen : Shape → Bool) (plan : Plan) → IsRow library chosen plan [] []
row_none library chosen plan = record { places = λ inner means. refl; copies = λ t m there. absurd (none t m there) }
  where
    none : (t : ℕ) (m : Placement) → Contains [] (Copy t m) → ⊥
    none t m (k, below, e) = omega arith

row_push : (library : List Structure) (chosen : Shape → Bool) (plan : Plan) (elements : List Element) (e : Element) (old new : List Step) →
    IsRow library chosen plan elements old → AddsElement library chosen plan e old new → IsRow library chosen plan (elements ++ e ∷ []) new
row_push library chosen plan elements e old new h k = record {
  places = λ inner means.
      k.places inner (λ t named. means e t (Contains-push elements e) named)
      ∙ ap (λ (xs : List Mapped). xs ++ placed_by library chosen inner e)
      (h.places inner (λ x t there named. means x t (Contains-append_left elements (e ∷ []) x there) named))
      ∙ sym (flat_map-push (placed_by library chosen inner) elements e);
  copies = λ t m there. elim (k.copies t m there) [
    | inl early ↦
        let from = h.copies t m early in
        (from.0, from.1, Contains-append_left elements (e ∷ []) from.0 from.2, from.3, from.4)
    | inr last ↦ (e, last.0, Contains-push elements e, last.1, last.2)
  ];
}

-- one more element
pub row_more : (library : List Structure) (chosen : Shape → Bool) (plan : Plan) (elements : List Element) (i : ℕ) (e : Element) (old new : List Step) →
    i < length elements → e ≡ get_or elements i e → IsRow library chosen plan (take i elements) old → AddsElement library chosen plan e old new →
    IsRow library chosen plan (take (i + 1) elements) new
row_more library chosen plan elements i e old new there is h k =
    subst (λ (es : List Element). IsRow library chosen plan es new)
    (ap (λ (x : Element). take i elements ++ x ∷ []) is ∙ sym (take_more elements i e there))
    (row_push library chosen plan (take i elements) e old new h k)

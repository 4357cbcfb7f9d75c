-- What copies of a structure are made of.
use Rattle.std.proofs.Common.{◌≡◌, ℕ, zero, ◌^◌, inl, inr, Result, Ok, Err, OnOk, List, [], ◌∷◌, ◌++◌, Contains, refl, ap, ap₂, sym, ◌∙◌, subst, arith}
use Rattle.std.specs.List.{flat_map}
use Rattle.std.proofs.lemmas.Int.{ints}
use Rattle.std.proofs.lemmas.List.{append-nil}
use Rattle.std.proofs.Math.Path.{fun_ext}
use Rattle.gds_model.specs.declared.position.Position.{Position}
use Rattle.gds_model.specs.declared.reference.Reference.{Reference}
use Rattle.gds_model.specs.Placement.{IsPositionWithin}
use Rattle.gds_model.specs.PlacedList.{Mapped, copy_maps, moved}
use Rattle.gds_expand.specs.declared.copies.Base.{Base}
use Rattle.gds_expand.specs.declared.placement.Placement.{Placement}
use Rattle.gds_expand.specs.declared.walk.Step.{Step}
use Rattle.gds_expand.specs.declared.walk.Step.TheVariants.{Copy}
use Rattle.gds_expand.specs.Bases.{AddsReference, IsBaseFor}
use Rattle.gds_expand.specs.Copies.{AddsCopies}
use Rattle.gds_expand.specs.Placement.{placed}
use Rattle.gds_expand.specs.Steps.{step_places}
use Rattle.gds_expand.proofs.WalkLemmas.{placed-unmoved, unmoved}

moved_nowhere : (f : Position → Position) (xs : List Mapped) → ((p : Position) → f p ≡ p) → moved f xs ≡ xs
moved_nowhere f [] still = refl
moved_nowhere f (x ∷ xs) still =
    let same : (λ p. f (x.1 p)) ≡ x.1 = fun_ext (λ (p : Position). still (x.1 p)) in
    ap₂ (λ (g : Position → Position) (ys : List Mapped). (x.0, g) ∷ ys) same (moved_nowhere f xs still)

-- a row of one copy
pub base_through : (row : List Step) (target t : ℕ) (m : Placement) → row ≡ Copy t m ∷ [] → IsBaseFor row target (record { target = t; placement = m })
base_through row target t m lone = record {
  places = λ inner means. sym (append-nil (moved (placed m) (inner t))) ∙ ap (flat_map (step_places inner)) (sym lone) ∙ means;
  source = inr (subst (λ (xs : List Step). Contains xs (Copy t m)) (sym lone) (zero, omega arith, refl));
}

-- the structure itself
pub base_itself : (row : List Step) (target : ℕ) (m : Placement) → unmoved m → IsBaseFor row target (record { target = target; placement = m })
base_itself row target m still = record {
  places = λ inner means. moved_nowhere (placed m) (inner target) (λ p. placed-unmoved m p still);
  source = inl (refl, record { x = rw still.2 (omega (arith, ints)); y = rw still.3 (omega (arith, ints)) });
}

no_copies : (maps : List (Position → Position)) (xs : List Mapped) → xs ≡ [] → flat_map (λ f. moved f xs) maps ≡ []
no_copies [] xs none = refl
no_copies (f ∷ maps) xs none = ap₂ (λ (a b : List Mapped). a ++ b) (ap (moved f) none) (no_copies maps xs none)

-- a structure that places nothing
pub adds_nothing : (r : Reference) (target : ℕ) (row steps : List Step) → row ≡ [] → AddsReference r target row steps steps
adds_nothing r target row steps none = record {
  places = λ inner means.
      sym (ap (λ (xs : List Mapped). flat_map (step_places inner) steps ++ xs)
      (no_copies (copy_maps r) (inner target) (sym means ∙ ap (flat_map (step_places inner)) none))
      ∙ append-nil (flat_map (step_places inner) steps));
  copies = λ t m there. inl there;
}

pub adds_reference : (r : Reference) (target : ℕ) (row old new : List Step) (base : Base) → IsBaseFor row target base →
    AddsCopies (copy_maps r) base old new → AddsReference r target row old new
adds_reference r target row old new base from h = record {
  places = λ inner means.
      h.places inner
      ∙ ap (λ (xs : List Mapped). flat_map (step_places inner) old ++ flat_map (λ f. moved f xs) (copy_maps r)) (from.places inner means);
  copies = λ t m there. elim (h.copies t m there) [
    | inl early ↦ inl early
    | inr copy ↦ inr (record { base = base; source = from.source; copy = copy })
  ];
}

-- the base is near where the row's copies are
pub near_base : (row : List Step) (target : ℕ) (base : Base) → ((t : ℕ) (m : Placement) → Contains row (Copy t m) → IsPositionWithin (2 ^ 61) m.shift) →
    IsBaseFor row target base → IsPositionWithin (2 ^ 61) base.placement.shift
near_base row target base near h = elim h.source [
  | inl own ↦
      let x = own.1.x in
      let y = own.1.y in
      record { x = omega (arith, x); y = omega (arith, y) }
  | inr there ↦ near base.target base.placement there
]

pub on_ok : {T E : Type 0} (r : Result T E) (A B : Type 0) → (A → B) → OnOk r A → OnOk r B
on_ok (Ok x) A B f h = f h
on_ok (Err e) A B f h = h

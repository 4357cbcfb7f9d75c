-- Copies that are added to steps.
use Rattle.std.proofs.Common.{◌≡◌, ℕ, zero, suc, ◌+◌, ◌^◌, inl, inr, List, [], ◌∷◌, ◌++◌, map, refl, ap, ap₂, sym, ◌∙◌, subst, arith, append_assoc}
use Rattle.std.specs.List.{flat_map, range_with_len}
use Rattle.std.proofs.lemmas.List.{append-nil, map_push}
use Rattle.std.proofs.lemmas.List.Elements.{Contains-push_cases}
use Rattle.gds_model.specs.declared.position.Position.{Position}
use Rattle.gds_model.specs.Placement.{IsPositionWithin}
use Rattle.gds_model.specs.PlacedList.{moved}
use Rattle.gds_expand.specs.declared.copies.Base.{Base}
use Rattle.gds_expand.specs.declared.placement.Placement.{Placement}
use Rattle.gds_expand.specs.declared.walk.Step.{Step}
use Rattle.gds_expand.specs.declared.walk.Step.TheVariants.{Copy}
use Rattle.gds_expand.specs.Copies.{AddsCopies, IsCopyOf, base_places}
use Rattle.gds_expand.specs.Placement.{placed}
use Rattle.gds_expand.specs.Steps.{step_places}
use Rattle.gds_expand.proofs.WalkLemmas.{moved-moved}

flat_map-append : {A B : Type 0} (f : A → List B) (xs ys : List A) → flat_map f (xs ++ ys) ≡ flat_map f xs ++ flat_map f ys
flat_map-append f [] ys = refl
flat_map-append f (x ∷ xs) ys = ap (λ bs. f x ++ bs) (flat_map-append f xs ys) ∙ sym (append_assoc (f x) (flat_map f xs) (flat_map f ys))

pub flat_map-push : {A B : Type 0} (f : A → List B) (xs : List A) (y : A) → flat_map f (xs ++ y ∷ []) ≡ flat_map f xs ++ f y
flat_map-push f xs y = flat_map-append f xs (y ∷ []) ∙ ap (λ bs. flat_map f xs ++ bs) (append-nil (f y))

pub range_more : (a n : ℕ) → range_with_len a (n + 1) ≡ range_with_len a n ++ (a + n) ∷ []
range_more a zero = let e : a ≡ a + zero = omega arith in ap (λ (x : ℕ). x ∷ []) e
range_more a (suc n) =
    let size : suc n + 1 ≡ suc (n + 1) = omega arith in
    let last : a + 1 + n ≡ a + suc n = omega arith in
    ap (range_with_len a) size ∙ ap (λ (xs : List ℕ). a ∷ xs) (range_more (a + 1) n) ∙ ap (λ (x : ℕ). (a ∷ range_with_len (a + 1) n) ++ x ∷ []) last

pub adds_none : (base : Base) (steps : List Step) → AddsCopies [] base steps steps
adds_none base steps = record { places = λ inner. sym (append-nil (flat_map (step_places inner) steps)); copies = λ t m there. inl there }

pub adds_one : (maps : List (Position → Position)) (f : Position → Position) (base : Base) (old mid : List Step) (m : Placement) →
    ((p : Position) → placed m p ≡ f (placed base.placement p)) → ((n : ℕ) → IsPositionWithin n base.placement.shift → IsPositionWithin (2 ^ 34 + n) m.shift) →
    AddsCopies maps base old mid → AddsCopies (maps ++ f ∷ []) base old (mid ++ Copy base.target m ∷ [])
adds_one maps f base old mid m composed near h = record {
  places = λ inner.
      let by = λ (g : Position → Position). moved g (base_places inner base) in
      flat_map-push (step_places inner) mid (Copy base.target m)
      ∙ ap₂ (λ xs ys. xs ++ ys) (h.places inner) (moved-moved f (placed base.placement) (placed m) (inner base.target) composed)
      ∙ append_assoc (flat_map (step_places inner) old) (flat_map by maps) (by f)
      ∙ ap (λ xs. flat_map (step_places inner) old ++ xs) (sym (flat_map-push by maps f));
  copies = λ t n there. elim (Contains-push_cases mid (Copy base.target m) (Copy t n) there) [
    | inl early ↦ h.copies t n early
    | inr last ↦ inr (is_copy t n last)
  ];
}
  where
    is_copy : (t : ℕ) (n : Placement) → Copy base.target m ≡ Copy t n → IsCopyOf base t n
    is_copy t n e =
        let target : t ≡ base.target = cc in
        let same : m ≡ n = cc in
        record { target = target; near = λ k within. subst (λ (x : Placement). IsPositionWithin (2 ^ 34 + k) x.shift) same (near k within) }

pub adds_both : (first second : List (Position → Position)) (base : Base) (old mid new : List Step) →
    AddsCopies first base old mid → AddsCopies second base mid new → AddsCopies (first ++ second) base old new
adds_both first second base old mid new h k = record {
  places = λ inner.
      let by = λ (g : Position → Position). moved g (base_places inner base) in
      k.places inner
      ∙ ap (λ xs. xs ++ flat_map by second) (h.places inner)
      ∙ append_assoc (flat_map (step_places inner) old) (flat_map by first) (flat_map by second)
      ∙ ap (λ xs. flat_map (step_places inner) old ++ xs) (sym (flat_map-append by first second));
  copies = λ t m there. elim (k.copies t m there) [
    | inl early ↦ h.copies t m early
    | inr last ↦ inr last
  ];
}

-- one more column
pub adds_column : (g : ℕ → Position → Position) (column : ℕ) (base : Base) (old mid : List Step) (m : Placement) →
    ((p : Position) → placed m p ≡ g column (placed base.placement p)) → ((n : ℕ) → IsPositionWithin n base.placement.shift → IsPositionWithin (2 ^ 34 + n) m.shift) →
    AddsCopies (map g (range_with_len 0 column)) base old mid → AddsCopies (map g (range_with_len 0 (column + 1))) base old (mid ++ Copy base.target m ∷ [])
adds_column g column base old mid m composed near h =
    let last : 0 + column ≡ column = omega arith in
    subst (λ (maps : List (Position → Position)). AddsCopies maps base old (mid ++ Copy base.target m ∷ []))
    (sym (ap (map g) (range_more 0 column ∙ ap (λ (x : ℕ). range_with_len 0 column ++ x ∷ []) last) ∙ map_push g (range_with_len 0 column) column))
    (adds_one (map g (range_with_len 0 column)) (g column) base old mid m composed near h)

-- one more row
pub adds_row : (g : ℕ → List (Position → Position)) (row : ℕ) (base : Base) (old mid new : List Step) →
    AddsCopies (flat_map g (range_with_len 0 row)) base old mid → AddsCopies (g row) base mid new → AddsCopies (flat_map g (range_with_len 0 (row + 1))) base old new
adds_row g row base old mid new h k =
    let last : 0 + row ≡ row = omega arith in
    subst (λ (maps : List (Position → Position)). AddsCopies maps base old new)
    (sym (ap (flat_map g) (range_more 0 row ∙ ap (λ (x : ℕ). range_with_len 0 row ++ x ∷ []) last) ∙ flat_map-push g (range_with_len 0 row) row))
    (adds_both (flat_map g (range_with_len 0 row)) (g row) base old mid new h k)

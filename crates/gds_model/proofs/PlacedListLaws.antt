-- The bound on the depth of the placed list is never hit.
use Rattle.std.proofs.Common.{◌≡◌, ℕ, zero, suc, ◌+◌, ◌<◌, ◌≤◌, inl, inr, List, [], ◌∷◌, ◌++◌, length, Option, Some, None, Bool, Contains, refl, ap, ap₂, sym, ◌∙◌, arith}
use Rattle.std.specs.List.{flat_map}
use Rattle.std.proofs.lemmas.Bool.{cases_lt}
use Rattle.gds_model.specs.declared.elements.Element.{Element}
use Rattle.gds_model.specs.declared.elements.Element.TheVariants.{Shape as shape, Reference as reference}
use Rattle.gds_model.specs.declared.shape.Shape.{Shape}
use Rattle.gds_model.specs.declared.elements.Structure.{Structure}
use Rattle.gds_model.specs.declared.position.Position.{Position}
use Rattle.gds_model.specs.Reach.{elements_at, number_of, Chain, References, Reaches}
use Rattle.gds_model.specs.PlacedList.{Mapped, moved, copies_of, copy_maps, placed_by, placed_in, placed_list}
use Rattle.gds_model.specs.PlaceFaults.{HasNoCycle}
use Rattle.gds_model.proofs.Chains.{chain_short, elements_past}

-- each reference of a reached structure goes to one of a lower rank
pub record FallsBy (library : List Structure) (top : ℕ) (rank : ℕ → ℕ) : Type 0 where
  pub lower : (s t : ℕ) → Reaches library top s → References library s t → rank t < rank s

each_same : (f h : Element → List Mapped) (elements : List Element) → ((e : Element) → Contains elements e → f e ≡ h e) →
    flat_map f elements ≡ flat_map h elements
each_same f h [] same = refl
each_same f h (x ∷ elements) same =
    ap₂ (λ xs ys. xs ++ ys) (same x (zero, omega arith, refl)) (each_same f h elements (λ e there. same e (in_rest e there)))
  where
    in_rest : (e : Element) → Contains elements e → Contains (x ∷ elements) e
    in_rest e (k, below, is) = (suc k, omega arith, is)

copies_of-same : (inner inner' : ℕ → List Mapped) (maps : List (Position → Position)) (named : Option ℕ) →
    ((t : ℕ) → named ≡ Some t → inner t ≡ inner' t) → copies_of inner maps named ≡ copies_of inner' maps named
copies_of-same inner inner' maps None same = refl
copies_of-same inner inner' maps (Some t) same = ap (λ xs. flat_map (λ f. moved f xs) maps) (same t refl)

placed_in-next : (library : List Structure) (chosen : Shape → Bool) (depth s : ℕ) →
    placed_in library chosen (suc depth) s ≡ flat_map (placed_by library chosen (placed_in library chosen depth)) (elements_at library s)
unfolding placed_in
placed_in-next library chosen depth s = refl

elements_same : (library : List Structure) (chosen : Shape → Bool) (s : ℕ) (inner inner' : ℕ → List Mapped) →
    ((t : ℕ) → References library s t → inner t ≡ inner' t) →
    flat_map (placed_by library chosen inner) (elements_at library s) ≡ flat_map (placed_by library chosen inner') (elements_at library s)
elements_same library chosen s inner inner' same = each_same (placed_by library chosen inner) (placed_by library chosen inner') (elements_at library s) each
  where
    each : (e : Element) → Contains (elements_at library s) e → placed_by library chosen inner e ≡ placed_by library chosen inner' e
    each (shape x) there = refl
    each (reference r) there =
        copies_of-same inner inner' (copy_maps r) (number_of library r.name) (λ t named. same t (r, there, named))

pub placed_in-same : (library : List Structure) (chosen : Shape → Bool) (top : ℕ) (rank : ℕ → ℕ) → FallsBy library top rank →
    (d e s : ℕ) → Reaches library top s → rank s < d → rank s < e → placed_in library chosen d s ≡ placed_in library chosen e s
placed_in-same library chosen top rank falls zero e s reached below below' = absurd (omega arith)
placed_in-same library chosen top rank falls (suc d) zero s reached below below' = absurd (omega arith)
placed_in-same library chosen top rank falls (suc d) (suc e) s reached below below' =
    placed_in-next library chosen d s
    ∙ elements_same library chosen s (placed_in library chosen d) (placed_in library chosen e) (λ t named.
    let lower : rank t < rank s = falls.lower s t reached named in
    let there : Reaches library top t = (suc reached.0, (s, reached.1, named)) in
    placed_in-same library chosen top rank falls d e t there (omega arith) (omega arith))
    ∙ sym (placed_in-next library chosen e s)

-- ---- without a cycle nothing is left out

-- where the chains end before either depth is used up
same_after : (library : List Structure) (chosen : Shape → Bool) (top : ℕ) → HasNoCycle library top → top < length library →
    (d e n s : ℕ) → Chain library top s n → length library ≤ d + n → length library ≤ e + n → placed_in library chosen d s ≡ placed_in library chosen e s
same_after library chosen top acyclic inside zero e n s chain left left' =
    let short : n < length library = chain_short library top n s acyclic inside chain in absurd (omega arith)
same_after library chosen top acyclic inside (suc d) zero n s chain left left' =
    let short : n < length library = chain_short library top n s acyclic inside chain in absurd (omega arith)
same_after library chosen top acyclic inside (suc d) (suc e) n s chain left left' =
    placed_in-next library chosen d s
    ∙ elements_same library chosen s (placed_in library chosen d) (placed_in library chosen e) (λ t named.
    same_after library chosen top acyclic inside d e (suc n) t (s, chain, named) (omega arith) (omega arith))
    ∙ sym (placed_in-next library chosen e s)

-- what is no structure places nothing
placed_past : (library : List Structure) (chosen : Shape → Bool) (d s : ℕ) → length library ≤ s → placed_in library chosen d s ≡ []
unfolding placed_in
placed_past library chosen zero s past = refl
placed_past library chosen (suc d) s past = ap (flat_map (placed_by library chosen (placed_in library chosen d))) (elements_past library s past)

-- without a cycle a greater depth places no more
pub placed_in-whole : (library : List Structure) (chosen : Shape → Bool) (top d : ℕ) → HasNoCycle library top → length library ≤ d →
    placed_in library chosen d top ≡ placed_list library chosen top
placed_in-whole library chosen top d acyclic deep = elim (cases_lt top (length library)) [
  | inl inside ↦ same_after library chosen top acyclic inside d (length library) 0 top refl (omega arith) (omega arith)
  | inr past ↦ placed_past library chosen d top past ∙ sym (placed_past library chosen (length library) top past)
]

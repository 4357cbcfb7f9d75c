-- A plan that is made from the bottom up.
use Rattle.std.proofs.Common.{◌≡◌, ℕ, zero, suc, ◌+◌, ◌-◌, ◌*◌, ◌^◌, ◌<◌, ◌≤◌, inl, inr, Bool, List, [], ◌∷◌, ◌++◌, length, take, set, slice_index, Contains, Vec, refl, ap, sym, ◌∙◌, subst, arith}
use Rattle.std.specs.List.{flat_map}
use Rattle.std.specs.declared.alloc.Global.{Global}
use Rattle.std.proofs.lemmas.Bool.{cases_eq}
use Rattle.std.proofs.lemmas.List.{length-set, take_all, take_more}
use Rattle.std.proofs.lemmas.List.Elements.{All-contains, Contains-append_left, Contains-get_or, Contains-push_cases}
use Rattle.gds_model.specs.declared.elements.Structure.{Structure}
use Rattle.gds_model.specs.declared.shape.Shape.{Shape}
use Rattle.gds_model.specs.Placement.{IsPositionWithin}
use Rattle.gds_model.specs.PlacedList.{placed_by, placed_list}
use Rattle.gds_model.specs.Reach.{elements_at, References}
use Rattle.gds_expand.specs.Bases.{IsCopyFrom}
use Rattle.gds_expand.specs.declared.placement.Placement.{Placement}
use Rattle.gds_expand.specs.declared.walk.Step.{Step}
use Rattle.gds_expand.specs.declared.walk.Step.TheVariants.{Copy}
use Rattle.gds_expand.specs.Orders.{IsOrder, IsPlanOf}
use Rattle.gds_expand.specs.Rows.{IsRow}
use Rattle.gds_expand.specs.Steps.{Plan, IsRanked, steps_of, step_places}
use Rattle.gds_model.proofs.Chains.{number_below}
use Rattle.gds_expand.proofs.PlanLaws.{IsPlanFor, Means, plan_places-is}
use Rattle.gds_expand.proofs.RankLemmas.{place_in, place_below, place_most, place_falls, falls_by_place}
use Rattle.gds_expand.proofs.RowRanks.{IsRankedCopy, named_reference, placed_by_elements, ranked_copy, row_means}
use Rattle.gds_expand.proofs.SetLemmas.{ranked_set, steps_of-set_same, steps_of-set_other}
use Rattle.gds_expand.proofs.WalkLemmas.{IsPositionWithin-le}

-- the rows of the first structures of the order are made
pub record IsMade (library : List Structure) (chosen : Shape → Bool) (order : List ℕ) (i : ℕ) (plan : Plan) : Type 0 where
  pub sized : length plan ≡ length library
  pub ranked : IsRanked plan (place_in order)
  pub means : (s : ℕ) → Contains (take i order) s → Means plan (placed_list library chosen) s
  pub closed : (s t : ℕ) (m : Placement) → Contains (take i order) s → Contains (steps_of plan s) (Copy t m) → Contains (take i order) t

no_step : (steps : List Step) (step : Step) → steps ≡ [] → Contains steps step → ⊥
no_step steps step none there =
    let h : Contains [] step = subst (λ (xs : List Step). Contains xs step) none there in
    let below = h.1 in
    omega arith

pub made_none : (library : List Structure) (chosen : Shape → Bool) (order : List ℕ) (plan : Plan) → length plan ≡ length library →
    ((s : ℕ) → steps_of plan s ≡ []) → IsMade library chosen order 0 plan
made_none library chosen order plan sized none = record {
  sized = sized;
  ranked = record {
    lower = λ s t m copied. absurd (no_step (steps_of plan s) (Copy t m) (none s) copied);
    in_range = λ s t m copied. absurd (no_step (steps_of plan s) (Copy t m) (none s) copied);
    near = λ s t m copied. absurd (no_step (steps_of plan s) (Copy t m) (none s) copied);
  };
  means = λ s listed. absurd (not_yet s order listed);
  closed = λ s t m listed copied. absurd (not_yet s order listed);
}
  where
    not_yet : (s : ℕ) (xs : List ℕ) → Contains (take 0 xs) s → ⊥
    not_yet s [] (k, below, e) = omega arith
    not_yet s (x ∷ xs) (k, below, e) = omega arith

-- the copies of a made plan are near
pub made_near : (library : List Structure) (chosen : Shape → Bool) (order : List ℕ) (i : ℕ) (plan : Plan) → length order ≤ 65535 →
    IsMade library chosen order i plan → (s t : ℕ) (m : Placement) → Contains (steps_of plan s) (Copy t m) → IsPositionWithin (2 ^ 61) m.shift
made_near library chosen order i plan few h s t m copied =
    let most : place_in order s ≤ length order = place_most order s in
    let enough : (place_in order s - place_in order t) * 2 ^ 34 ≤ 2 ^ 61 = omega arith in
    IsPositionWithin-le ((place_in order s - place_in order t) * 2 ^ 34) (2 ^ 61) m.shift enough (h.ranked.near s t m copied)

-- the row of the next structure
pub made_more : (library : List Structure) (chosen : Shape → Bool) (order : List ℕ) (i v : ℕ) (plan : Plan) (row : Vec Step Global) → IsOrder library order →
    i < length order → v ≡ slice_index order i → IsMade library chosen order i plan → IsRow library chosen plan (elements_at library v) row.items →
    IsMade library chosen order (i + 1) (set plan v row)
made_more library chosen order i v plan row o there is h r = record {
  sized = length-set plan v row ∙ h.sized;
  ranked = ranked_set plan (place_in order) v row h.ranked in_plan fits;
  means = λ s now. elim (cases_eq s v) [
    | inl same ↦ subst (Means (set plan v row) (placed_list library chosen)) (sym same) means_here
    | inr other ↦
        ap (flat_map (step_places (placed_list library chosen))) (steps_of-set_other plan v s row other) ∙ h.means s (earlier s now other)
  ];
  closed = λ s t m now copied. elim (cases_eq s v) [
    | inl same ↦
        wider t (closed_here t m
        (subst (λ (xs : List Step). Contains xs (Copy t m)) (ap (steps_of (set plan v row)) same ∙ steps_of-set_same plan v row in_plan) copied))
    | inr other ↦
        wider t (h.closed s t m (earlier s now other)
        (subst (λ (xs : List Step). Contains xs (Copy t m)) (steps_of-set_other plan v s row other) copied))
  ];
}
  where
    listed : Contains order v
    listed = subst (Contains order) (sym is) (Contains-get_or order i 0 there)

    in_plan : v < length plan
    in_plan =
        let below : v < length library = All-contains (λ (s : ℕ). s < length library) order v o.in_range listed in
        let sized : length plan ≡ length library = h.sized in
        omega arith

    named : (u : ℕ) → References library v u → Contains (take i order) u
    named u r = o.up i u there (subst (λ (x : ℕ). References library x u) is r)

    wider : (t : ℕ) → Contains (take i order) t → Contains (take (i + 1) order) t
    wider t early =
        subst (λ (xs : List ℕ). Contains xs t) (sym (take_more order i 0 there))
        (Contains-append_left (take i order) (slice_index order i ∷ []) t early)

    earlier : (s : ℕ) → Contains (take (i + 1) order) s → (s ≡ v → ⊥) → Contains (take i order) s
    earlier s now other = elim (Contains-push_cases (take i order) (slice_index order i) s (subst (λ (xs : List ℕ). Contains xs s) (take_more order i 0 there) now)) [
      | inl early ↦ early
      | inr last ↦ absurd (other (sym last ∙ sym is))
    ]

    fits : (t : ℕ) (m : Placement) → Contains row.items (Copy t m) → IsRankedCopy plan (place_in order) (place_in order v) t m
    fits t m copied =
        let from = r.copies t m copied in
        let u : ℕ = from.1 in
        let reference = named_reference library v u from.0 from.2 from.3 in
        let below : u < length library = number_below library _ u reference.2 in
        let inside : u < length plan = let sized : length plan ≡ length library = h.sized in omega arith in
        ranked_copy plan (place_in order) u t m (place_in order v) h.ranked (place_falls library order v u o listed reference) inside from.4

    fixed : placed_list library chosen v ≡ flat_map (placed_by library chosen (placed_list library chosen)) (elements_at library v)
    fixed =
        let below : place_in order v < length order = place_below order v listed in
        let few : length order ≤ length library = o.few in
        placed_by_elements library chosen v (place_in order) (length library) v (falls_by_place library order v o listed) (zero, refl) (omega arith)

    means_here : Means (set plan v row) (placed_list library chosen) v
    means_here =
        ap (flat_map (step_places (placed_list library chosen))) (steps_of-set_same plan v row in_plan)
        ∙ row_means library chosen plan (placed_list library chosen) v row.items r (λ u reference. h.means u (named u reference)) fixed

    closed_here : (t : ℕ) (m : Placement) → Contains row.items (Copy t m) → Contains (take i order) t
    closed_here t m copied =
        let from = r.copies t m copied in
        let u : ℕ = from.1 in
        let early = named u (named_reference library v u from.0 from.2 from.3) in
        let copy : IsCopyFrom (steps_of plan u) u t m = from.4 in
        elim copy.source [
          | inl own ↦ subst (Contains (take i order)) (sym (copy.copy.target ∙ own.0)) early
          | inr far ↦
              subst (Contains (take i order)) (sym copy.copy.target) (h.closed u copy.base.target copy.base.placement early far)
        ]

-- the whole plan
pub made_all : (library : List Structure) (chosen : Shape → Bool) (order : List ℕ) (i : ℕ) (plan : Plan) → length order ≤ 65535 → length order ≤ i →
    IsMade library chosen order i plan → IsPlanOf library chosen order plan
made_all library chosen order i plan few past h = record {
  sized = h.sized;
  ranked = (place_in order, h.ranked, deep);
  places = λ s listed. plan_places-is plan (place_in order) (Contains order) (placed_list library chosen) h.ranked made (2 ^ 16) s listed (deep s);
}
  where
    whole : take i order ≡ order
    whole = take_all _ _ past

    deep : (s : ℕ) → place_in order s < 2 ^ 16
    deep s = let most : place_in order s ≤ length order = place_most order s in omega arith

    made : IsPlanFor plan (Contains order) (placed_list library chosen)
    made = record {
      means = λ s listed. h.means s (subst (λ (xs : List ℕ). Contains xs s) (sym whole) listed);
      closed = λ s t m listed copied.
          subst (λ (xs : List ℕ). Contains xs t) whole (h.closed s t m (subst (λ (xs : List ℕ). Contains xs s) (sym whole) listed) copied);
    }

-- one more structure that places nothing
pub empty_more : (plan : Plan) (row : Vec Step Global) → row.items ≡ [] → ((s : ℕ) → steps_of plan s ≡ []) → (s : ℕ) → steps_of (plan ++ row ∷ []) s ≡ []
empty_more [] row none h zero = none
empty_more [] row none h (suc s) = refl
empty_more (x ∷ plan) row none h zero = h zero
empty_more (x ∷ plan) row none h (suc s) = empty_more plan row none (λ k. h (suc k)) s

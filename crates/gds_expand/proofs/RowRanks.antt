-- A row gives what its structure places, and ranks its copies.
use Rattle.std.proofs.Common.{◌≡◌, ℕ, suc, ◌+◌, ◌-◌, ◌*◌, ◌^◌, ◌<◌, ◌≤◌, inl, inr, Bool, List, length, Contains, refl, ap, sym, ◌∙◌, arith}
use Rattle.std.specs.List.{flat_map}
use Rattle.gds_model.specs.declared.elements.Element.{Element}
use Rattle.gds_model.specs.declared.elements.Element.TheVariants.{Shape as shape, Reference as reference}
use Rattle.gds_model.specs.declared.elements.Structure.{Structure}
use Rattle.gds_model.specs.declared.shape.Shape.{Shape}
use Rattle.gds_model.specs.Placement.{IsPositionWithin}
use Rattle.gds_model.specs.PlacedList.{Mapped, placed_by, placed_in}
use Rattle.gds_model.specs.Reach.{elements_at, Reaches, References}
use Rattle.gds_model.proofs.PlacedListLaws.{FallsBy, placed_in-same}
use Rattle.gds_expand.specs.Bases.{IsCopyFrom}
use Rattle.gds_expand.specs.declared.placement.Placement.{Placement}
use Rattle.gds_expand.specs.declared.walk.Step.{Step}
use Rattle.gds_expand.specs.Rows.{IsRow, Names}
use Rattle.gds_expand.specs.Steps.{Plan, IsRanked, steps_of, step_places}
use Rattle.gds_expand.proofs.PlanLaws.{Means}
use Rattle.gds_expand.proofs.WalkLemmas.{IsPositionWithin-le}

placed_in-next : (library : List Structure) (chosen : Shape → Bool) (depth s : ℕ) →
    placed_in library chosen (suc depth) s ≡ flat_map (placed_by library chosen (placed_in library chosen depth)) (elements_at library s)
unfolding placed_in
placed_in-next library chosen depth s = refl

-- beyond its rank a structure places what its elements place at the same depth
pub placed_by_elements : (library : List Structure) (chosen : Shape → Bool) (top : ℕ) (rank : ℕ → ℕ) (depth s : ℕ) → FallsBy library top rank →
    Reaches library top s → rank s < depth →
    placed_in library chosen depth s ≡ flat_map (placed_by library chosen (placed_in library chosen depth)) (elements_at library s)
placed_by_elements library chosen top rank depth s falls reached below =
    placed_in-same library chosen top rank falls depth (suc depth) s reached below (omega arith) ∙ placed_in-next library chosen depth s

-- a name among the elements of a structure is a reference of it
pub named_reference : (library : List Structure) (s t : ℕ) (e : Element) → Contains (elements_at library s) e → Names library e t → References library s t
named_reference library s t (shape x) there named = absurd named
named_reference library s t (reference r) there named = (r, there, named)

-- the row of a structure means what the structure places, where those of the structures that it references do
pub row_means : (library : List Structure) (chosen : Shape → Bool) (plan : Plan) (places : ℕ → List Mapped) (s : ℕ) (row : List Step) →
    IsRow library chosen plan (elements_at library s) row → ((t : ℕ) → References library s t → Means plan places t) →
    places s ≡ flat_map (placed_by library chosen places) (elements_at library s) → flat_map (step_places places) row ≡ places s
row_means library chosen plan places s row h means fixed =
    h.places places (λ e t there named. means t (named_reference library s t e there named)) ∙ sym fixed

-- where a copy in the row of a structure of this rank may go
pub record IsRankedCopy (plan : Plan) (rank : ℕ → ℕ) (above t : ℕ) (m : Placement) : Type 0 where
  pub lower : rank t < above
  pub in_range : t < length plan
  pub near : IsPositionWithin ((above - rank t) * 2 ^ 34) m.shift

-- a copy of what an earlier row places is of a lower rank, and near enough
pub ranked_copy : (plan : Plan) (rank : ℕ → ℕ) (u t : ℕ) (m : Placement) (above : ℕ) → IsRanked plan rank → rank u < above → u < length plan →
    IsCopyFrom (steps_of plan u) u t m → IsRankedCopy plan rank above t m
ranked_copy plan rank u t m above ranked lower there h = elim h.source [
  | inl own ↦
      let same : t ≡ u = h.copy.target ∙ own.0 in
      let equal : rank t ≡ rank u = ap rank same in
      let enough : 2 ^ 34 + 0 ≤ (above - rank t) * 2 ^ 34 = omega (arith, lower, equal) in
      record {
        lower = omega (arith, lower, equal);
        in_range = omega (arith, there, same);
        near = IsPositionWithin-le (2 ^ 34 + 0) ((above - rank t) * 2 ^ 34) m.shift enough (h.copy.near 0 own.1);
      }
  | inr copied ↦
      let below : rank h.base.target < rank u = ranked.lower u h.base.target h.base.placement copied in
      let inside : h.base.target < length plan = ranked.in_range u h.base.target h.base.placement copied in
      let equal : rank t ≡ rank h.base.target = ap rank h.copy.target in
      let same : t ≡ h.base.target = h.copy.target in
      let enough : 2 ^ 34 + (rank u - rank h.base.target) * 2 ^ 34 ≤ (above - rank t) * 2 ^ 34 = omega (arith, lower, below, equal) in
      record {
        lower = omega (arith, lower, below, equal);
        in_range = omega (arith, inside, same);
        near = IsPositionWithin-le (2 ^ 34 + (rank u - rank h.base.target) * 2 ^ 34) ((above - rank t) * 2 ^ 34) m.shift enough
            (h.copy.near ((rank u - rank h.base.target) * 2 ^ 34) (ranked.near u h.base.target h.base.placement copied));
      }
]

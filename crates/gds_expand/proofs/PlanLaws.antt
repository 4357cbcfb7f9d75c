-- A plan places what its rows mean.
use Rattle.std.proofs.Common.{◌≡◌, ℕ, zero, suc, ◌<◌, List, [], ◌∷◌, ◌++◌, map, Contains, refl, ap, sym, ◌∙◌, arith}
use Rattle.std.specs.List.{flat_map}
use Rattle.std.proofs.lemmas.List.{append-nil}
use Rattle.gds_model.specs.declared.position.Position.{Position}
use Rattle.gds_model.specs.PlacedList.{Mapped, moved}
use Rattle.gds_expand.specs.declared.placement.Placement.{Placement}
use Rattle.gds_expand.specs.declared.walk.Step.TheVariants.{Copy}
use Rattle.gds_expand.specs.Placement.{placed}
use Rattle.gds_expand.specs.Steps.{Plan, steps_of, step_places, plan_places, IsRanked}
use Rattle.gds_expand.proofs.WalkLemmas.{moved-moved, plan_places-next, step_places-respects, steps_same}

-- the row of a structure gives what the structure places, where each structure places what `places` says
abbrev pub Means : Plan → (ℕ → List Mapped) → ℕ → Type 0
Means plan places s = flat_map (step_places places) (steps_of plan s) ≡ places s

-- the structures that a plan is made for: their rows are right, and copy none but them
pub record IsPlanFor (plan : Plan) (Made : ℕ → Type 0) (places : ℕ → List Mapped) : Type 1 where
  pub means : (s : ℕ) → Made s → Means plan places s
  pub closed : (s t : ℕ) (m : Placement) → Made s → Contains (steps_of plan s) (Copy t m) → Made t

-- beyond its rank a structure places what its row means
pub plan_places-is : (plan : Plan) (rank : ℕ → ℕ) (Made : ℕ → Type 0) (places : ℕ → List Mapped) → IsRanked plan rank → IsPlanFor plan Made places →
    (depth s : ℕ) → Made s → rank s < depth → plan_places plan depth s ≡ places s
plan_places-is plan rank Made places ranked made zero s here below = absurd (omega arith)
plan_places-is plan rank Made places ranked made (suc depth) s here below =
    plan_places-next plan depth s
    ∙ steps_same step_places step_places-respects (plan_places plan depth) places (steps_of plan s) (λ t m there.
    let lower : rank t < rank s = ranked.lower s t m there in
    plan_places-is plan rank Made places ranked made depth t (made.closed s t m here there) (omega arith))
    ∙ made.means s here

-- a structure that only copies another places what that places, moved
pub lone_copy : (plan : Plan) (places : ℕ → List Mapped) (s t : ℕ) (m : Placement) → Means plan places s → steps_of plan s ≡ Copy t m ∷ [] →
    places s ≡ moved (placed m) (places t)
lone_copy plan places s t m means lone =
    sym means ∙ ap (flat_map (step_places places)) lone ∙ append-nil (moved (placed m) (places t))

-- a copy of such a structure is a copy of the other
pub copy_through : (plan : Plan) (places : ℕ → List Mapped) (s t : ℕ) (m n both : Placement) → Means plan places s → steps_of plan s ≡ Copy t m ∷ [] →
    ((p : Position) → placed both p ≡ placed n (placed m p)) → step_places places (Copy s n) ≡ step_places places (Copy t both)
copy_through plan places s t m n both means lone composed =
    ap (moved (placed n)) (lone_copy plan places s t m means lone) ∙ sym (moved-moved (placed n) (placed m) (placed both) (places t) composed)

-- copies of a structure, one by one
pub copies_of_each : (places : ℕ → List Mapped) (t : ℕ) (placements : List Placement) →
    flat_map (step_places places) (map (λ m. Copy t m) placements) ≡ flat_map (λ f. moved f (places t)) (map placed placements)
copies_of_each places t [] = refl
copies_of_each places t (m ∷ placements) = ap (λ (xs : List Mapped). moved (placed m) (places t) ++ xs) (copies_of_each places t placements)

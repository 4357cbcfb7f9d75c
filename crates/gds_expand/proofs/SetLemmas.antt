-- A plan in which a row is set.
use Rattle.std.proofs.Common.{◌≡◌, ℕ, zero, suc, ◌<◌, inl, inr, List, [], ◌∷◌, length, set, Contains, Vec, refl, ap, sym, ◌∙◌, subst, arith}
use Rattle.std.specs.declared.alloc.Global.{Global}
use Rattle.std.proofs.lemmas.Bool.{cases_eq}
use Rattle.std.proofs.lemmas.List.{length-set}
use Rattle.gds_expand.specs.declared.placement.Placement.{Placement}
use Rattle.gds_expand.specs.declared.walk.Step.{Step}
use Rattle.gds_expand.specs.declared.walk.Step.TheVariants.{Copy}
use Rattle.gds_expand.specs.Steps.{Plan, IsRanked, steps_of}
use Rattle.gds_expand.proofs.RowRanks.{IsRankedCopy}

pub steps_of-set_same : (plan : Plan) (v : ℕ) (row : Vec Step Global) → v < length plan → steps_of (set plan v row) v ≡ row.items
steps_of-set_same [] v row there = absurd (omega arith)
steps_of-set_same (x ∷ plan) zero row there = refl
steps_of-set_same (x ∷ plan) (suc v) row there = let below : v < length plan = omega arith in steps_of-set_same plan v row below

pub steps_of-set_other : (plan : Plan) (v s : ℕ) (row : Vec Step Global) → (s ≡ v → ⊥) → steps_of (set plan v row) s ≡ steps_of plan s
steps_of-set_other [] v s row other = refl
steps_of-set_other (x ∷ plan) zero zero row other = absurd (other refl)
steps_of-set_other (x ∷ plan) zero (suc s) row other = refl
steps_of-set_other (x ∷ plan) (suc v) zero row other = refl
steps_of-set_other (x ∷ plan) (suc v) (suc s) row other = steps_of-set_other plan v s row (λ e. other (ap suc e))

copy_in_set : (plan : Plan) (rank : ℕ → ℕ) (v s t : ℕ) (m : Placement) (row : Vec Step Global) → IsRanked plan rank → v < length plan →
    ((t : ℕ) (m : Placement) → Contains row.items (Copy t m) → IsRankedCopy plan rank (rank v) t m) →
    Contains (steps_of (set plan v row) s) (Copy t m) → IsRankedCopy plan rank (rank s) t m
copy_in_set plan rank v s t m row ranked there fits copied = elim (cases_eq s v) [
  | inl same ↦
      subst (λ (x : ℕ). IsRankedCopy plan rank (rank x) t m) (sym same)
      (fits t m
      (subst (λ (xs : List Step). Contains xs (Copy t m)) (ap (steps_of (set plan v row)) same ∙ steps_of-set_same plan v row there) copied))
  | inr other ↦
      let kept = subst (λ (xs : List Step). Contains xs (Copy t m)) (steps_of-set_other plan v s row other) copied in
      record { lower = ranked.lower s t m kept; in_range = ranked.in_range s t m kept; near = ranked.near s t m kept }
]

-- a row of ranked copies keeps the plan ranked
pub ranked_set : (plan : Plan) (rank : ℕ → ℕ) (v : ℕ) (row : Vec Step Global) → IsRanked plan rank → v < length plan →
    ((t : ℕ) (m : Placement) → Contains row.items (Copy t m) → IsRankedCopy plan rank (rank v) t m) → IsRanked (set plan v row) rank
ranked_set plan rank v row ranked there fits = record {
  lower = λ s t m copied. (copy_in_set plan rank v s t m row ranked there fits copied).lower;
  in_range = λ s t m copied.
      subst (λ (n : ℕ). t < n) (sym (length-set plan v row)) (copy_in_set plan rank v s t m row ranked there fits copied).in_range;
  near = λ s t m copied. (copy_in_set plan rank v s t m row ranked there fits copied).near;
}

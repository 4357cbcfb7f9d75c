-- What the structures place, as lists of steps.
use Rattle.std.specs.Prelude.{ℕ, zero, suc, ◌-◌, ◌*◌, ◌^◌, ◌<◌, List, [], ◌∷◌, length, Contains, Vec}
use Rattle.std.specs.List.{flat_map}
use Rattle.std.specs.declared.alloc.Global.{Global}
use Rattle.gds_model.specs.Placement.{IsPositionWithin}
use Rattle.gds_model.specs.PlacedList.{Mapped, moved}
use Rattle.gds_expand.specs.declared.placement.Placement.{Placement}
use Rattle.gds_expand.specs.declared.walk.Step.{Step}
use Rattle.gds_expand.specs.declared.walk.Step.TheVariants.{Shape, Copy}
use Rattle.gds_expand.specs.declared.walk.PlacedShape.{PlacedShape}
use Rattle.gds_expand.specs.Placement.{placed}

-- by structure its steps
abbrev pub Plan : Type 0
Plan = List (Vec Step Global)

-- what a structure places, in order
abbrev pub steps_of : Plan → ℕ → List Step
steps_of [] s = []
steps_of (row ∷ rows) zero = row.items
steps_of (row ∷ rows) (suc s) = steps_of rows s

-- the shapes of a step, where each structure places these
abbrev pub step_places : (ℕ → List Mapped) → Step → List Mapped
step_places inner (Shape shape) = (shape.now, λ p. p) ∷ []
step_places inner (Copy s placement) = moved (placed placement) (inner s)

-- the shapes that a structure places through chains of fewer copies than the depth
unfoldable pub plan_places : Plan → ℕ → ℕ → List Mapped
plan_places plan zero s = []
plan_places plan (suc depth) s = flat_map (step_places (plan_places plan depth)) (steps_of plan s)

-- each copied structure has a lower rank, and the fewer ranks are between, the nearer its copy lies
pub record IsRanked (plan : Plan) (rank : ℕ → ℕ) : Type 0 where
  pub lower : (s t : ℕ) (m : Placement) → Contains (steps_of plan s) (Copy t m) → rank t < rank s
  pub in_range : (s t : ℕ) (m : Placement) → Contains (steps_of plan s) (Copy t m) → t < length plan
  pub near : (s t : ℕ) (m : Placement) → Contains (steps_of plan s) (Copy t m) → IsPositionWithin ((rank s - rank t) * 2 ^ 34) m.shift

-- a shape, and where its chain puts its points
abbrev pub mapped : PlacedShape → Mapped
mapped x = (x.shape.now, placed x.placement)

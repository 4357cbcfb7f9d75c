-- Lists of steps that copies are added to.
use Rattle.std.specs.Prelude.{◌≡◌, ℕ, ◌+◌, ◌^◌, ◌⊎◌, List, ◌++◌, Contains}
use Rattle.std.specs.List.{flat_map}
use Rattle.gds_model.specs.declared.position.Position.{Position}
use Rattle.gds_model.specs.Placement.{IsPositionWithin}
use Rattle.gds_model.specs.PlacedList.{Mapped, moved}
use Rattle.gds_expand.specs.declared.copies.Base.{Base}
use Rattle.gds_expand.specs.declared.placement.Placement.{Placement}
use Rattle.gds_expand.specs.declared.walk.Step.{Step}
use Rattle.gds_expand.specs.declared.walk.Step.TheVariants.{Copy}
use Rattle.gds_expand.specs.Placement.{placed}
use Rattle.gds_expand.specs.Steps.{step_places}

-- what the base places, where each structure places these
abbrev pub base_places : (ℕ → List Mapped) → Base → List Mapped
base_places inner base = moved (placed base.placement) (inner base.target)

-- a copy of the base's structure, not far from where the base has it
pub record IsCopyOf (base : Base) (t : ℕ) (m : Placement) : Type 0 where
  pub target : t ≡ base.target
  pub near : (n : ℕ) → IsPositionWithin n base.placement.shift → IsPositionWithin (2 ^ 34 + n) m.shift

-- the new steps are the old ones and, by these maps, copies of what the base places
pub record AddsCopies (maps : List (Position → Position)) (base : Base) (old new : List Step) : Type 0 where
  pub places : (inner : ℕ → List Mapped) →
      flat_map (step_places inner) new ≡ flat_map (step_places inner) old ++ flat_map (λ f. moved f (base_places inner base)) maps
  pub copies : (t : ℕ) (m : Placement) → Contains new (Copy t m) → Contains old (Copy t m) ⊎ IsCopyOf base t m

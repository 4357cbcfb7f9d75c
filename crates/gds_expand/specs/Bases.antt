-- What copies of a structure are made of.
use Rattle.std.specs.Prelude.{◌≡◌, ℕ, ◌⊎◌, List, ◌++◌, Contains}
use Rattle.std.specs.List.{flat_map}
use Rattle.gds_model.specs.declared.reference.Reference.{Reference}
use Rattle.gds_model.specs.Placement.{IsPositionWithin}
use Rattle.gds_model.specs.PlacedList.{Mapped, copy_maps, moved}
use Rattle.gds_expand.specs.declared.copies.Base.{Base}
use Rattle.gds_expand.specs.declared.placement.Placement.{Placement}
use Rattle.gds_expand.specs.declared.walk.Step.{Step}
use Rattle.gds_expand.specs.declared.walk.Step.TheVariants.{Copy}
use Rattle.gds_expand.specs.Copies.{IsCopyOf, base_places}
use Rattle.gds_expand.specs.Steps.{step_places}

-- the base is the structure where it is, or a copy in its row
abbrev pub IsFrom : List Step → ℕ → Base → Type 0
IsFrom row target base = ((base.target ≡ target) × IsPositionWithin 0 base.placement.shift) ⊎ Contains row (Copy base.target base.placement)

-- it places what the structure places, where the row does
pub record IsBaseFor (row : List Step) (target : ℕ) (base : Base) : Type 0 where
  pub places : (inner : ℕ → List Mapped) → flat_map (step_places inner) row ≡ inner target → base_places inner base ≡ inner target
  pub source : IsFrom row target base

-- a copy of what the structure with this row places
pub record IsCopyFrom (row : List Step) (target t : ℕ) (m : Placement) : Type 0 where
  pub base : Base
  pub source : IsFrom row target base
  pub copy : IsCopyOf base t m

-- the new steps are the old ones and what the copies of a reference place
pub record AddsReference (r : Reference) (target : ℕ) (row old new : List Step) : Type 0 where
  pub places : (inner : ℕ → List Mapped) → flat_map (step_places inner) row ≡ inner target →
      flat_map (step_places inner) new ≡ flat_map (step_places inner) old ++ flat_map (λ f. moved f (inner target)) (copy_maps r)
  pub copies : (t : ℕ) (m : Placement) → Contains new (Copy t m) → Contains old (Copy t m) ⊎ IsCopyFrom row target t m

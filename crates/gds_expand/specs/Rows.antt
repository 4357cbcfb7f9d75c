-- What the row of a structure means.
use Rattle.std.specs.Prelude.{◌≡◌, ℕ, ◌⊎◌, Bool, None, Some, List, ◌++◌, Contains}
use Rattle.std.specs.List.{flat_map}
use Rattle.gds_model.specs.declared.elements.Element.{Element}
use Rattle.gds_model.specs.declared.elements.Element.TheVariants.{Shape as shape, Reference as reference}
use Rattle.gds_model.specs.declared.elements.Structure.{Structure}
use Rattle.gds_model.specs.declared.shape.Shape.{Shape}
use Rattle.gds_model.specs.PlacedList.{Mapped, placed_by}
use Rattle.gds_model.specs.PlaceFaults.{reference_fault}
use Rattle.gds_model.specs.Reach.{number_of}
use Rattle.gds_expand.specs.Bases.{IsCopyFrom}
use Rattle.gds_expand.specs.declared.placement.Placement.{Placement}
use Rattle.gds_expand.specs.declared.walk.Step.{Step}
use Rattle.gds_expand.specs.declared.walk.Step.TheVariants.{Copy}
use Rattle.gds_expand.specs.Steps.{Plan, steps_of, step_places}

-- the element is a reference to this structure
abbrev pub Names : List Structure → Element → ℕ → Type 0
Names library (shape s) t = ⊥
Names library (reference r) t = number_of library r.name ≡ Some t

-- nothing is wrong with the element, if it is a reference
abbrev pub IsRight : List Structure → Element → Type 0
IsRight library (shape s) = Unit {0}
IsRight library (reference r) = reference_fault library r ≡ None

-- the new steps are the old ones and what an element places
pub record AddsElement (library : List Structure) (chosen : Shape → Bool) (plan : Plan) (e : Element) (old new : List Step) : Type 0 where
  pub places : (inner : ℕ → List Mapped) → ((t : ℕ) → Names library e t → flat_map (step_places inner) (steps_of plan t) ≡ inner t) →
      flat_map (step_places inner) new ≡ flat_map (step_places inner) old ++ placed_by library chosen inner e
  pub copies : (t : ℕ) (m : Placement) → Contains new (Copy t m) →
      Contains old (Copy t m) ⊎ ((u : ℕ) × Names library e u × IsCopyFrom (steps_of plan u) u t m)

-- the row has what the elements place, and copies what they reference
pub record IsRow (library : List Structure) (chosen : Shape → Bool) (plan : Plan) (elements : List Element) (row : List Step) : Type 0 where
  pub places : (inner : ℕ → List Mapped) →
      ((e : Element) (t : ℕ) → Contains elements e → Names library e t → flat_map (step_places inner) (steps_of plan t) ≡ inner t) →
      flat_map (step_places inner) row ≡ flat_map (placed_by library chosen inner) elements
  pub copies : (t : ℕ) (m : Placement) → Contains row (Copy t m) →
      (e : Element) × (u : ℕ) × Contains elements e × Names library e u × IsCopyFrom (steps_of plan u) u t m

-- What a draft holds.
use Rattle.std.specs.Prelude.{◌≡◌}
use Rattle.gds_library.specs.declared.draft.Draft.{Draft}
use Rattle.gds_library.specs.Gathered.{Gathered}
use Rattle.gds_library.specs.OpenElement.{Holds}

-- the draft holds what was gathered
pub record HoldsGathered (draft : Draft) (gathered : Gathered) : Type 0 where
  pub head : draft.head ≡ gathered.library.head
  pub structures : draft.structures.items ≡ gathered.library.structures
  pub name : draft.name ≡ gathered.name
  pub elements : draft.elements.items ≡ gathered.elements
  pub element : Holds draft.element gathered.open_records

-- Layouts of which nothing is wrong, the program's limits aside.
use Rattle.std.specs.Prelude.{◌≡◌, ℕ, ℤ, List, Some, IfSome, All}
use Rattle.gds_model.specs.declared.place_fault.PlaceFault.TheVariants.{OutOfRange}
use Rattle.gds_model.specs.Faults.{HasNoFault}
use Rattle.gds_model.specs.Library.{StreamLibrary, IsLibraryOf}
use Rattle.gds_model.specs.PlacedList.{Mapped, is_on, placed_list}
use Rattle.gds_model.specs.PlaceFaults.{AreReferencesRight, HasNoCycle, shape_fault}
use Rattle.gds_model.specs.Reach.{number_of}

-- nothing is wrong with a placed shape, but that it may lie far away
abbrev pub IsRightShape : ℤ → Mapped → Type 0
IsRightShape grid x = IfSome (shape_fault grid x) (λ fault. fault ≡ OutOfRange x.0.offset)

-- These bytes are a layout file without fault, its first structure has this name, and nothing is wrong with what it
-- references and with the shapes that it places on the layer and datatype.
pub record IsFaultless (bytes name : List ℕ) (layer datatype : ℕ) (grid : ℤ) : Type 0 where
  pub file : HasNoFault bytes
  pub layout : StreamLibrary
  pub reading : IsLibraryOf bytes layout
  pub top : number_of layout.structures name ≡ Some 0
  pub references : AreReferencesRight layout.structures 0
  pub cycles : HasNoCycle layout.structures 0
  pub shapes : All (IsRightShape grid) (placed_list layout.structures (is_on layer datatype) 0)

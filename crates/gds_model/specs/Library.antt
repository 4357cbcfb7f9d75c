-- The library that a sentence describes.
use Rattle.std.specs.Prelude.{◌≡◌, ℕ, ◌<◌, ◌≤◌, All, AllPairs, MatchOption, slice_index_or, List, [], length, map}
use Rattle.std.specs.List.{flat_map}
use Rattle.gds_records.specs.declared.library_head.Head.{Head}
use Rattle.gds_records.specs.Records.{records_from}
use Rattle.gds_model.specs.declared.elements.Element.{Element}
use Rattle.gds_model.specs.declared.elements.Element.TheVariants as element
use Rattle.gds_model.specs.declared.elements.Structure.{Structure}
use Rattle.gds_model.specs.Names.{name_of}
use Rattle.gds_model.specs.Grammar.{Tree, records_of}
use Rattle.gds_model.specs.StreamFile as file
use Rattle.gds_model.specs.Elements.{elements_in}

-- a layout: its head, and its structures in file order
pub record StreamLibrary : Type 0 where
  pub head : Head
  pub structures : List Structure

-- a shape has a point, a reference has one point, and with a grid three
abbrev pub HasItsPoints : Element → Type 0
HasItsPoints (element.Shape shape) = 1 ≤ length shape.points
HasItsPoints (element.Reference reference) = MatchOption reference.array (length reference.points ≡ 1) (λ grid. length reference.points ≡ 3)

abbrev pub names : List Structure → List (List ℕ)
names structures = map (λ structure. structure.name) structures

-- no two structures have the same name
abbrev pub HasDistinctNames : List Structure → Type 0
HasDistinctNames structures =
    (i j : ℕ) → i < length structures → j < length structures
    → slice_index_or (names structures) i [] ≡ slice_index_or (names structures) j [] → i ≡ j

-- where the first record of an element stands in the file
abbrev pub offset_of : Element → ℕ
offset_of (element.Shape shape) = shape.offset
offset_of (element.Reference reference) = reference.offset

-- the elements of all structures, in file order
abbrev pub all_elements : List Structure → List Element
all_elements structures = flat_map (λ structure. structure.elements) structures

-- no two elements have the same offset: it ascends in file order
abbrev pub HasAscendingOffsets : List Structure → Type 0
HasAscendingOffsets structures = AllPairs (λ e f. offset_of e < offset_of f) (all_elements structures)

-- what is true of the library of every file
pub record IsLayout (layout : StreamLibrary) : Type 0 where
  pub points : All (λ structure. All HasItsPoints structure.elements) layout.structures
  pub distinct : HasDistinctNames layout.structures
  pub offsets : HasAscendingOffsets layout.structures
  pub few : length layout.structures ≤ 65535

abbrev pub elements_of : Tree file.element → List Element
elements_of t = elements_in (records_of file.element t)

abbrev pub structure_of : Tree file.structure → Structure
structure_of (begin, (name, (class, (elements, end)))) = record {
  name = name_of name.body;
  elements = flat_map elements_of elements;
}

abbrev pub library_of : Tree file.library → StreamLibrary
library_of (header, (dates, (first_options, (name, (options, (units, (structures, end))))))) = record {
  head = record { header = header.body; dates = dates.body; name = name.body; units = units.body };
  structures = map structure_of structures;
}

-- this is the library of a file: its records are the sentence of some tree, and the tree describes the library
pub record IsLibraryOf (bytes : List ℕ) (described : StreamLibrary) : Type 0 where
  pub tree : Tree file.library
  pub spelled : records_of file.library tree ≡ records_from bytes 0
  pub same : described ≡ library_of tree

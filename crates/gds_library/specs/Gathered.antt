-- What a reader has gathered between two records.
use Rattle.std.specs.Prelude.{ℕ, ◌==◌, List, [], ◌∷◌, ◌++◌, if◌then◌else◌}
use Rattle.gds_records.specs.Records.{StreamRecord}
use Rattle.gds_records.specs.declared.library_head.Head.{Head}
use Rattle.gds_model.specs.declared.record_kind.RecordKind.{RecordKind}
use Rattle.gds_model.specs.declared.record_kind.RecordKind.TheVariants.{Header, BgnLib, LibName, Units, EndLib, BgnStr, StrName, EndStr, EndEl}
use Rattle.gds_model.specs.declared.elements.Element.{Element}
use Rattle.gds_model.specs.RecordKind.{code_of}
use Rattle.gds_model.specs.Names.{name_of}
use Rattle.gds_model.specs.Body.{element_kinds, is_one_of}
use Rattle.gds_model.specs.Elements.{elements_in}
use Rattle.gds_model.specs.Library.{StreamLibrary}

-- the library so far, the open structure's name and elements, and the open element's records
pub record Gathered : Type 0 where
  pub library : StreamLibrary
  pub name : List ℕ
  pub elements : List Element
  pub open_records : List StreamRecord

-- the records that do more than add to the open element
abbrev pub outer_kinds : List RecordKind
outer_kinds = Header ∷ BgnLib ∷ LibName ∷ Units ∷ EndLib ∷ BgnStr ∷ StrName ∷ EndStr ∷ EndEl ∷ element_kinds

abbrev pub with_head : Gathered → Head → Gathered
with_head g head = record g { library = record g.library { head = head } }

-- the element that these records spell is closed
abbrev pub with_element : Gathered → List StreamRecord → Gathered
with_element g rs = record g { elements = g.elements ++ elements_in rs }

-- the open structure is closed
abbrev pub with_structure : Gathered → Gathered
with_structure g = record {
  library = record g.library { structures = g.library.structures ++ record { name = g.name; elements = g.elements } ∷ [] };
  name = [];
  elements = [];
  open_records = g.open_records;
}

abbrev pub with_outer : Gathered → StreamRecord → Gathered
with_outer g r =
    if is_one_of element_kinds r.code then record g { open_records = r ∷ [] }
    else if r.code == code_of EndEl then with_element g (g.open_records ++ r ∷ [])
    else if r.code == code_of BgnStr then record g { elements = [] }
    else if r.code == code_of StrName then record g { name = name_of r.body }
    else if r.code == code_of EndStr then with_structure g
    else if r.code == code_of Header then with_head g (record g.library.head { header = r.body })
    else if r.code == code_of BgnLib then with_head g (record g.library.head { dates = r.body })
    else if r.code == code_of LibName then with_head g (record g.library.head { name = r.body })
    else if r.code == code_of Units then with_head g (record g.library.head { units = r.body })
    else g

-- one more record
abbrev pub with_record : Gathered → StreamRecord → Gathered
with_record g r =
    if is_one_of outer_kinds r.code then with_outer g r else record g { open_records = g.open_records ++ r ∷ [] }

abbrev pub with_records : Gathered → List StreamRecord → Gathered
with_records g [] = g
with_records g (r ∷ rs) = with_records (with_record g r) rs

abbrev pub nothing_gathered : Gathered
nothing_gathered = record {
  library = record { head = record { header = []; dates = []; name = []; units = [] }; structures = [] };
  name = [];
  elements = [];
  open_records = [];
}

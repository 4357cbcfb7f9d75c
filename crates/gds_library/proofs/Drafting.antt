-- What is gathered of the records of a sentence is its library.
use Rattle.std.proofs.Common.{◌≡◌, ℕ, ◌&&◌, Bool, true, false, cond, refl, List, [], ◌∷◌, ◌++◌, Some, None, inl, inr, ap, sym, ◌∙◌, append_assoc, map, not}
use Rattle.std.specs.List.{flat_map}
use Rattle.std.proofs.lemmas.List.{append-nil}
use Rattle.std.proofs.lemmas.List.Concat.{flat_map-cons}
use Rattle.gds_records.specs.Records.{StreamRecord}
use Rattle.gds_model.specs.declared.record_kind.RecordKind.{RecordKind}
use Rattle.gds_model.specs.declared.record_kind.RecordKind.TheVariants.{Boundary, Path, Sref, Aref, Text, Node, Box, EndStr, EndEl, StrClass, LibName, Units, EndLib}
use Rattle.gds_model.specs.RecordKind.{code_of}
use Rattle.gds_model.specs.Grammar.{Grammar, never, empty, one, ◌⨾◌, ◌∣◌, optional, many, Content, Tree, records_of}
use Rattle.gds_model.specs.StreamFile.{library_option, property, boundary, path, sref, aref, text, node, box, element, structure, library}
use Rattle.gds_model.specs.declared.elements.Element.{Element}
use Rattle.gds_model.specs.declared.elements.Structure.{Structure}
use Rattle.gds_model.specs.Names.{name_of}
use Rattle.gds_model.specs.Elements.{elements_in}
use Rattle.gds_model.specs.Library.{elements_of, structure_of, library_of}
use Rattle.gds_model.specs.Body.{is_one_of}
use Rattle.gds_library.specs.Gathered.{Gathered, outer_kinds, with_outer, with_record, with_records, nothing_gathered}
use Rattle.gds_library.proofs.Language.{entry, both_true}

pub with_records-append : (d : Gathered) (rs ss : List StreamRecord) → with_records d (rs ++ ss) ≡ with_records (with_records d rs) ss
with_records-append d [] ss = refl
with_records-append d (r ∷ rs) ss = with_records-append (with_record d r) rs ss

abbrev with_open : Gathered → List StreamRecord → Gathered
with_open d rs = record d { open_records = rs }

-- no record of the grammar does more than add to the open element
abbrev has_only_details : Grammar → Bool
has_only_details never = true
has_only_details empty = true
has_only_details (one k) = not (is_one_of outer_kinds (code_of k))
has_only_details (g ⨾ h) = has_only_details g && has_only_details h
has_only_details (g ∣ h) = has_only_details g && has_only_details h
has_only_details (optional g) = has_only_details g
has_only_details (many g) = has_only_details g

detail : (b : Bool) (d o : Gathered) → not b ≡ true → cond b o d ≡ d
detail true d o e = cc
detail false d o e = refl

more_details : (d : Gathered) (rs ss : List StreamRecord) (all : List StreamRecord) → all ≡ rs ++ ss
    → with_records d rs ≡ with_open d (d.open_records ++ rs)
    → with_records (with_open d (d.open_records ++ rs)) ss ≡ with_open d ((d.open_records ++ rs) ++ ss)
    → with_records d all ≡ with_open d (d.open_records ++ all)
more_details d rs ss all e first second =
    ap (λ l. with_records d l) e ∙ with_records-append d rs ss ∙ ap (λ x. with_records x ss) first ∙ second
    ∙ ap (λ l. with_open d l) (append_assoc d.open_records rs ss) ∙ ap (λ l. with_open d (d.open_records ++ l)) (sym e)

no_details : (d : Gathered) → d ≡ with_open d (d.open_records ++ [])
no_details d = ap (λ l. with_open d l) (sym (append-nil d.open_records))

all_details : (g : Grammar) → ((t : Tree g) (d : Gathered) → with_records d (records_of g t) ≡ with_open d (d.open_records ++ records_of g t))
    → (ts : List (Tree g)) (d : Gathered) → with_records d (records_of (many g) ts) ≡ with_open d (d.open_records ++ records_of (many g) ts)
all_details g h [] d = no_details d
all_details g h (t ∷ ts) d =
    more_details d (records_of g t) (records_of (many g) ts) (records_of (many g) (t ∷ ts)) (flat_map-cons (λ u. records_of g u) t ts)
    (h t d) (all_details g h ts (with_open d (d.open_records ++ records_of g t)))

details : (g : Grammar) → has_only_details g ≡ true → (t : Tree g) (d : Gathered)
    → with_records d (records_of g t) ≡ with_open d (d.open_records ++ records_of g t)
details never e t d = absurd t
details empty e t d = no_details d
details (one k) e t d =
    detail (is_one_of outer_kinds (code_of k)) (with_open d (d.open_records ++ entry (code_of k) t ∷ [])) (with_outer d (entry (code_of k) t)) e
details (g ⨾ h) e t d =
    let parts = both_true (has_only_details g) (has_only_details h) e in
    more_details d (records_of g t.0) (records_of h t.1) (records_of (g ⨾ h) t) refl (details g parts.0 t.0 d)
    (details h parts.1 t.1 (with_open d (d.open_records ++ records_of g t.0)))
details (g ∣ h) e (inl t) d = details g (both_true (has_only_details g) (has_only_details h) e).0 t d
details (g ∣ h) e (inr t) d = details h (both_true (has_only_details g) (has_only_details h) e).1 t d
details (optional g) e None d = no_details d
details (optional g) e (Some t) d = details g e t d
details (many g) e ts d = all_details g (λ t d. details g e t d) ts d

-- an element up to its properties: its first record opens it
opened : (k : RecordKind) (g : Grammar) → has_only_details g ≡ true
    → ((d : Gathered) (c : Content) → with_record d (entry (code_of k) c) ≡ with_open d (entry (code_of k) c ∷ []))
    → (t : Tree (one k ⨾ g)) (d : Gathered) → with_records d (records_of (one k ⨾ g) t) ≡ with_open d (records_of (one k ⨾ g) t)
opened k g e h t d =
    let first = entry (code_of k) t.0 in
    ap (λ x. with_records x (records_of g t.1)) (h d t.0) ∙ details g e t.1 (with_open d (first ∷ []))

abbrev rest_part : Grammar → Grammar
rest_part (g ⨾ h) = h
rest_part g = g

abbrev any_element : Grammar
any_element = boundary ∣ path ∣ sref ∣ aref ∣ text ∣ node ∣ box

opened_any : (t : Tree any_element) (d : Gathered) → with_records d (records_of any_element t) ≡ with_open d (records_of any_element t)
opened_any (inl t) d = opened Boundary (rest_part boundary) refl (λ d c. refl) t d
opened_any (inr (inl t)) d = opened Path (rest_part path) refl (λ d c. refl) t d
opened_any (inr (inr (inl t))) d = opened Sref (rest_part sref) refl (λ d c. refl) t d
opened_any (inr (inr (inr (inl t)))) d = opened Aref (rest_part aref) refl (λ d c. refl) t d
opened_any (inr (inr (inr (inr (inl t))))) d = opened Text (rest_part text) refl (λ d c. refl) t d
opened_any (inr (inr (inr (inr (inr (inl t)))))) d = opened Node (rest_part node) refl (λ d c. refl) t d
opened_any (inr (inr (inr (inr (inr (inr t)))))) d = opened Box (rest_part box) refl (λ d c. refl) t d

-- what is gathered with these elements, whatever it holds of the open one
abbrev HasElements : Gathered → List Element → Gathered → Type 0
HasElements d es e = (o : List StreamRecord) × (e ≡ record d { elements = es; open_records = o })

element_taken : (t : Tree element) (d : Gathered) → HasElements d (d.elements ++ elements_of t) (with_records d (records_of element t))
element_taken (t, (properties, end)) d =
    let first = records_of any_element t in
    let middle = records_of (many property) properties in
    let last = entry (code_of EndEl) end in (
      first ++ middle,
      with_records-append d first (middle ++ last ∷ [])
          ∙ ap (λ x. with_records x (middle ++ last ∷ [])) (opened_any t d)
          ∙ with_records-append (with_open d first) middle (last ∷ [])
          ∙ ap (λ x. with_record x last) (details (many property) refl properties (with_open d first))
          ∙ ap (λ l. record d { elements = d.elements ++ elements_in l; open_records = first ++ middle })
          (append_assoc first middle (last ∷ [])),
    )

elements_taken : (ts : List (Tree element)) (d : Gathered)
    → HasElements d (d.elements ++ flat_map elements_of ts) (with_records d (records_of (many element) ts))
elements_taken [] d = (d.open_records, ap (λ es. record d { elements = es }) (sym (append-nil d.elements)))
elements_taken (t ∷ ts) d =
    let first = element_taken t d in
    let then_gathered : Gathered = record d { elements = d.elements ++ elements_of t; open_records = first.0 } in
    let rest = elements_taken ts then_gathered in (
      rest.0,
      ap (λ l. with_records d l) (flat_map-cons (λ u. records_of element u) t ts)
          ∙ with_records-append d (records_of element t) (records_of (many element) ts)
          ∙ ap (λ x. with_records x (records_of (many element) ts)) first.1
          ∙ rest.1
          ∙ ap (λ es. record d { elements = es; open_records = rest.0 })
          (append_assoc d.elements (elements_of t) (flat_map elements_of ts)
          ∙ ap (λ es. d.elements ++ es) (sym (flat_map-cons elements_of t ts))),
    )

abbrev with_structures : Gathered → List Structure → Gathered
with_structures d ss = record d { library = record d.library { structures = ss } }

-- what is gathered with these structures, whatever it holds of the open one
abbrev HasStructures : Gathered → List Structure → Gathered → Type 0
HasStructures d ss e =
    (n : List ℕ) × ((es : List Element) × ((o : List StreamRecord)
    × (e ≡ record { library = record d.library { structures = ss }; name = n; elements = es; open_records = o })))

structure_taken : (t : Tree structure) (d : Gathered)
    → HasStructures d (d.library.structures ++ structure_of t ∷ []) (with_records d (records_of structure t))
structure_taken (begin, (name, (class, (elements, end)))) d =
    let class_records = records_of (optional (one StrClass)) class in
    let element_records = records_of (many element) elements in
    let last = entry (code_of EndStr) end in
    let named : Gathered = record d { name = name_of name.body; elements = [] } in
    let classed : Gathered = with_open named (named.open_records ++ class_records) in
    let taken = elements_taken elements classed in (
      [],
      (
        [],
        (
          taken.0,
          with_records-append named class_records (element_records ++ last ∷ [])
              ∙ ap (λ x. with_records x (element_records ++ last ∷ [])) (details (optional (one StrClass)) refl class named)
              ∙ with_records-append classed element_records (last ∷ [])
              ∙ ap (λ x. with_record x last) taken.1,
        ),
      ),
    )

structures_taken : (ts : List (Tree structure)) (d : Gathered)
    → HasStructures d (d.library.structures ++ map structure_of ts) (with_records d (records_of (many structure) ts))
structures_taken [] d = (
  d.name,
  (
    d.elements,
    (d.open_records, ap (λ ss. record d { library = record d.library { structures = ss } }) (sym (append-nil d.library.structures))),
  ),
)
structures_taken (t ∷ ts) d =
    let first = structure_taken t d in
    let then_gathered : Gathered = record {
      library = record d.library { structures = d.library.structures ++ structure_of t ∷ [] };
      name = first.0;
      elements = first.1.0;
      open_records = first.1.1.0;
    } in
    let rest = structures_taken ts then_gathered in (
      rest.0,
      (
        rest.1.0,
        (
          rest.1.1.0,
          ap (λ l. with_records d l) (flat_map-cons (λ u. records_of structure u) t ts)
              ∙ with_records-append d (records_of structure t) (records_of (many structure) ts)
              ∙ ap (λ x. with_records x (records_of (many structure) ts)) first.1.1.1
              ∙ rest.1.1.1
              ∙ ap (λ ss. record {
                library = record d.library { structures = ss };
                name = rest.0;
                elements = rest.1.0;
                open_records = rest.1.1.0;
              }) (append_assoc d.library.structures (structure_of t ∷ []) (map structure_of ts)),
        ),
      ),
    )

pub library_taken : (t : Tree library) → (with_records nothing_gathered (records_of library t)).library ≡ library_of t
library_taken (header, (dates, (first_options, (name, (options, (units, (structures, end))))))) =
    let first_option_records = records_of (many library_option) first_options in
    let option_records = records_of (many library_option) options in
    let structure_records = records_of (many structure) structures in
    let from_end = entry (code_of EndLib) end ∷ [] in
    let from_units = entry (code_of Units) units ∷ (structure_records ++ from_end) in
    let from_name = entry (code_of LibName) name ∷ (option_records ++ from_units) in
    let dated : Gathered = record {
      library = record { head = record { header = header.body; dates = dates.body; name = []; units = [] }; structures = [] };
      name = [];
      elements = [];
      open_records = [];
    } in
    let named : Gathered = record {
      library = record { head = record { header = header.body; dates = dates.body; name = name.body; units = [] }; structures = [] };
      name = [];
      elements = [];
      open_records = first_option_records;
    } in
    let measured : Gathered = record {
      library = record { head = record { header = header.body; dates = dates.body; name = name.body; units = units.body }; structures = [] };
      name = [];
      elements = [];
      open_records = first_option_records ++ option_records;
    } in
    ap (λ x. x.library)
    (with_records-append dated first_option_records from_name
    ∙ ap (λ x. with_records x from_name) (details (many library_option) refl first_options dated)
    ∙ with_records-append named option_records from_units
    ∙ ap (λ x. with_records x from_units) (details (many library_option) refl options named)
    ∙ with_records-append measured structure_records from_end
    ∙ ap (λ x. with_records x from_end) (structures_taken structures measured).1.1.1)

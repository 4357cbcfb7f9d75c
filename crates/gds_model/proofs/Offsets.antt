-- The offsets of a file's elements ascend: records stand one after another, and an element has the offset of its first.
use Rattle.std.proofs.Common.{◌≡◌, ℕ, zero, suc, ◌+◌, ◌<◌, ◌≤◌, Bool, true, false, ◌==◌, Option, Some, None, List, [], ◌∷◌, ◌++◌, AllPairs, Contains, length, map, get_or, refl, sym, ap, ◌∙◌, subst, inl, inr, arith}
use Rattle.std.specs.Prelude.{◌⊎◌, if◌then◌else◌}
use Rattle.std.specs.List.{flat_map}
use Rattle.std.proofs.lemmas.List.{get_or_default, map-append}
use Rattle.std.proofs.lemmas.List.Concat.{flat_map-cons}
use Rattle.std.proofs.lemmas.Bool.{cases_order}
use Rattle.std.proofs.lemmas.List.Elements.{Contains-append_left, Contains-append_right, Contains-get_or}
use Rattle.std.proofs.lemmas.List.Kept.{AllPairs-cons}
use Rattle.std.proofs.lemmas.Option.{cond_some}
use Rattle.gds_records.specs.Records.{StreamRecord, record_at, end_of, ENDLIB, record_and, at_most_records, records_from}
use Rattle.gds_model.specs.declared.elements.Element.{Element}
use Rattle.gds_model.specs.declared.elements.Element.TheVariants.{Shape, Reference}
use Rattle.gds_model.specs.declared.elements.Structure.{Structure}
use Rattle.gds_model.specs.declared.record_kind.RecordKind.TheVariants as kind
use Rattle.gds_model.specs.declared.shape.ShapeKind.TheVariants as shape_kind
use Rattle.gds_model.specs.RecordKind.{code_of}
use Rattle.gds_model.specs.Grammar.{Grammar, ◌⨾◌, Tree, records_of}
use Rattle.gds_model.specs.StreamFile as file
use Rattle.gds_model.specs.Elements.{elements_in, shape_of, path_kind, reference_of}
use Rattle.gds_model.specs.Library.{StreamLibrary, IsLibraryOf, HasAscendingOffsets, all_elements, elements_of, offset_of, structure_of, library_of}
use Rattle.gds_model.specs.Reach.{elements_at}
use Rattle.gds_model.proofs.PlaceLaws.{HasDistinctOffsets}

-- ---- ascending numbers

-- the numbers ascend, from low on and below high
abbrev Ascend : ℕ → ℕ → List ℕ → Type 0
Ascend low high [] = low ≤ high
Ascend low high (n ∷ ns) = (low ≤ n) × Ascend (n + 1) high ns

in_order : (low high : ℕ) (ns : List ℕ) → Ascend low high ns → low ≤ high
in_order low high [] h = h
in_order low high (n ∷ ns) h = let rest = in_order (n + 1) high ns h.1 in let first = h.0 in omega arith

wider : (low high low' high' : ℕ) (ns : List ℕ) → low' ≤ low → high ≤ high' → Ascend low high ns → Ascend low' high' ns
wider low high low' high' [] a b h = omega arith
wider low high low' high' (n ∷ ns) a b h = let first = h.0 in (omega arith, wider (n + 1) high (n + 1) high' ns (omega arith) b h.1)

-- two lists, one after the other
record AreSplit (low high : ℕ) (ns ms : List ℕ) : Type 0 where
  middle : ℕ
  left : Ascend low middle ns
  right : Ascend middle high ms

split : (low high : ℕ) (ns ms : List ℕ) → Ascend low high (ns ++ ms) → AreSplit low high ns ms
split low high [] ms h = record { middle = low; left = omega arith; right = h }
split low high (n ∷ ns) ms h =
    let rest = split (n + 1) high ns ms h.1 in
    record { middle = rest.middle; left = (h.0, rest.left); right = rest.right }

join : (low middle high : ℕ) (ns ms : List ℕ) → Ascend low middle ns → Ascend middle high ms → Ascend low high (ns ++ ms)
join low middle high [] ms a b = wider middle high low high ms a (omega arith) b
join low middle high (n ∷ ns) ms a b = (a.0, join (n + 1) middle high ns ms a.1 b)

front : (low high : ℕ) (ns ms : List ℕ) → Ascend low high (ns ++ ms) → Ascend low high ns
front low high ns ms h = let s = split low high ns ms h in wider low s.middle low high ns (omega arith) (in_order s.middle high ms s.right) s.left

rest : (low high : ℕ) (ns ms : List ℕ) → Ascend low high (ns ++ ms) → Ascend low high ms
rest low high ns ms h = let s = split low high ns ms h in wider s.middle high low high ms (in_order low s.middle ns s.left) (omega arith) s.right

-- ---- records

abbrev offsets : List StreamRecord → List ℕ
offsets rs = map (λ r. r.offset) rs

abbrev element_offsets : List Element → List ℕ
element_offsets es = map offset_of es

-- the record at an offset has that offset
at_offset : (bytes : List ℕ) (at : ℕ) (r : StreamRecord) → record_at bytes at ≡ Some r → at ≡ r.offset
unfolding record_at
at_offset bytes at r e = ap (λ x. x.offset) (cond_some _ _ r e).1

-- the records of a file ascend
abbrev AscendTo : ℕ → List StreamRecord → Type 0
AscendTo at rs = (high : ℕ) × Ascend at high (offsets rs)

after_one : (bytes : List ℕ) (at : ℕ) (o : Option StreamRecord) (f : StreamRecord → List StreamRecord) → record_at bytes at ≡ o
    → ((r : StreamRecord) → AscendTo (end_of r) (f r)) → AscendTo at (record_and o f)
after_one bytes at None f is each = (at, omega arith)
after_one bytes at (Some r) f is each = by (r.code == ENDLIB)
  where
    by : (b : Bool) → AscendTo at (r ∷ (if b then [] else f r))
    by true = let same = at_offset bytes at r is in (r.offset + 1, (omega arith, omega arith))
    by false =
        let same = at_offset bytes at r is in
        let more = each r in
        (more.0, (omega arith, wider (end_of r) more.0 (r.offset + 1) more.0 (offsets (f r)) (omega arith) (omega arith) more.1))

some_records : (n : ℕ) (bytes : List ℕ) (at : ℕ) → AscendTo at (at_most_records n bytes at)
some_records zero bytes at = (at, omega arith)
some_records (suc n) bytes at = after_one bytes at (record_at bytes at) _ refl (λ r. some_records n bytes (end_of r))

all_records : (bytes : List ℕ) (at : ℕ) → AscendTo at (records_from bytes at)
unfolding records_from
all_records bytes at = some_records (length bytes) bytes at

-- ---- elements

abbrev Are : ℕ → ℕ → List Element → Type 0
Are low high es = Ascend low high (element_offsets es)

-- the element that records spell
element_spelled : (low high : ℕ) (rs : List StreamRecord) → Ascend low high (offsets rs) → Are low high (elements_in rs)
element_spelled low high [] h = h
element_spelled low high (r ∷ rs) h =
    by (r.code == code_of kind.Boundary) (r.code == code_of kind.Path) (r.code == code_of kind.Box) (r.code == code_of kind.Sref)
    (r.code == code_of kind.Aref) (h.0, in_order (r.offset + 1) high (offsets rs) h.1) (in_order low high (r.offset ∷ offsets rs) h)
  where
    by : (a b c d e : Bool) → Ascend low high (r.offset ∷ []) → low ≤ high → Are low high (
        if a then Shape (shape_of r.offset shape_kind.Boundary kind.Datatype (r ∷ rs)) ∷ []
        else if b then Shape (shape_of r.offset (path_kind (r ∷ rs)) kind.Datatype (r ∷ rs)) ∷ []
        else if c then Shape (shape_of r.offset shape_kind.Box kind.BoxType (r ∷ rs)) ∷ []
        else if d then Reference (reference_of r.offset (r ∷ rs)) ∷ []
        else if e then Reference (reference_of r.offset (r ∷ rs)) ∷ []
        else [])
    by true b c d e some none = some
    by false true c d e some none = some
    by false false true d e some none = some
    by false false false true e some none = some
    by false false false false true some none = some
    by false false false false false some none = none

-- the records of a tree ascend
record Spells (low high : ℕ) (g : Grammar) (t : Tree g) : Type 0 where
  spelled : Ascend low high (offsets (records_of g t))

apart : (low high : ℕ) (rs ss : List StreamRecord) → Ascend low high (offsets (rs ++ ss)) → Ascend low high (offsets rs ++ offsets ss)
apart low high rs ss h = subst (Ascend low high) (map-append (λ r. r.offset) rs ss) h

first : {low high : ℕ} {g h : Grammar} {t : Tree (g ⨾ h)} → Spells low high (g ⨾ h) t → Spells low high g t.0
first {low} {high} {g} {h} {t} s = record {
  spelled = front low high (offsets (records_of g t.0)) (offsets (records_of h t.1)) (apart low high (records_of g t.0) (records_of h t.1) s.spelled);
}

later : {low high : ℕ} {g h : Grammar} {t : Tree (g ⨾ h)} → Spells low high (g ⨾ h) t → Spells low high h t.1
later {low} {high} {g} {h} {t} s = record {
  spelled = rest low high (offsets (records_of g t.0)) (offsets (records_of h t.1)) (apart low high (records_of g t.0) (records_of h t.1) s.spelled);
}

-- what parts spell, part after part
parts_spelled : {A : Type 0} (records : A → List StreamRecord) (elements : A → List Element)
    → ((low high : ℕ) (t : A) → Ascend low high (offsets (records t)) → Are low high (elements t))
    → (ts : List A) (low high : ℕ) → Ascend low high (offsets (flat_map records ts)) → Are low high (flat_map elements ts)
parts_spelled records elements each [] low high h = h
parts_spelled records elements each (t ∷ ts) low high h =
    let parts = split low high (offsets (records t)) (offsets (flat_map records ts))
    (apart low high (records t) (flat_map records ts) (subst (λ rs. Ascend low high (offsets rs)) (flat_map-cons records t ts) h)) in
    subst (Ascend low high) (sym (ap element_offsets (flat_map-cons elements t ts) ∙ map-append offset_of (elements t) (flat_map elements ts)))
    (join low parts.middle high (element_offsets (elements t)) (element_offsets (flat_map elements ts))
    (each low parts.middle t parts.left) (parts_spelled records elements each ts parts.middle high parts.right))

structure_spelled : (low high : ℕ) (t : Tree file.structure) → Ascend low high (offsets (records_of file.structure t))
    → Are low high (structure_of t).elements
structure_spelled low high t h =
    let all : Spells low high file.structure t = record { spelled = h } in
    parts_spelled (records_of file.element) elements_of (λ l u e. element_spelled l u (records_of file.element e)) t.1.1.1.0 low high
    (first (later (later (later all)))).spelled

structures_spelled : (low high : ℕ) (ts : List (Tree file.structure)) → Ascend low high (offsets (flat_map (records_of file.structure) ts))
    → Are low high (all_elements (map structure_of ts))
structures_spelled low high ts h =
    subst (Are low high) (over ts) (parts_spelled (records_of file.structure) (λ t. (structure_of t).elements) structure_spelled ts low high h)
  where
    over : (ts : List (Tree file.structure)) → flat_map (λ t. (structure_of t).elements) ts ≡ all_elements (map structure_of ts)
    over [] = refl
    over (t ∷ ts) =
        flat_map-cons (λ t. (structure_of t).elements) t ts ∙ ap (λ es. (structure_of t).elements ++ es) (over ts)
        ∙ sym (flat_map-cons (λ s. s.elements) (structure_of t) (map structure_of ts))

library_spelled : (low high : ℕ) (t : Tree file.library) → Ascend low high (offsets (records_of file.library t))
    → Are low high (all_elements (library_of t).structures)
library_spelled low high t h =
    let all : Spells low high file.library t = record { spelled = h } in
    structures_spelled low high t.1.1.1.1.1.1.0 (first (later (later (later (later (later (later all))))))).spelled

-- ---- distinct offsets

one_or_rest : (e : Element) (es : List Element) (x : Element) → Contains (e ∷ es) x → (e ≡ x) ⊎ Contains es x
one_or_rest e es x (zero, there, is) = inl is
one_or_rest e es x (suc k, there, is) = inr (k, omega arith, is)

-- an element of the list is no lower
no_lower : (low high : ℕ) (es : List Element) (x : Element) → Are low high es → Contains es x → low ≤ offset_of x
no_lower low high [] x h (k, there, is) = absurd (omega arith)
no_lower low high (e ∷ es) x h among = elim (one_or_rest e es x among) [
  | inl same ↦ subst (λ y. low ≤ offset_of y) same h.0
  | inr later ↦ let first = h.0 in let above = no_lower (offset_of e + 1) high es x h.1 later in omega arith
]

pairs_ascend : (low high : ℕ) (es : List Element) → Are low high es → AllPairs (λ e f. offset_of e < offset_of f) es
pairs_ascend low high [] h = λ i j d before below. absurd (omega arith)
pairs_ascend low high (e ∷ es) h =
    AllPairs-cons (λ e f. offset_of e < offset_of f) e es
    (λ k d below. let above = no_lower (offset_of e + 1) high es (get_or es k d) h.1 (Contains-get_or es k d below) in omega arith)
    (pairs_ascend (offset_of e + 1) high es h.1)

-- the offsets of the library that a file's records spell
pub ascending_offsets : (bytes : List ℕ) (t : Tree file.library) → records_of file.library t ≡ records_from bytes 0
    → HasAscendingOffsets (library_of t).structures
ascending_offsets bytes t spelled =
    let all = all_records bytes 0 in
    pairs_ascend 0 all.0 (all_elements (library_of t).structures)
    (library_spelled 0 all.0 t (subst (λ rs. Ascend 0 all.0 (offsets rs)) (sym spelled) all.1))

among_all : (library : List Structure) (s : ℕ) (x : Element) → Contains (elements_at library s) x → Contains (all_elements library) x
among_all [] s x (k, there, is) = absurd (omega arith)
among_all (structure ∷ library) zero x among =
    subst (λ es. Contains es x) (sym (flat_map-cons (λ s. s.elements) structure library))
    (Contains-append_left structure.elements (all_elements library) x among)
among_all (structure ∷ library) (suc s) x among =
    subst (λ es. Contains es x) (sym (flat_map-cons (λ s. s.elements) structure library))
    (Contains-append_right structure.elements (all_elements library) x (among_all library s x among))

-- one element has an offset
one_at_offset : (es : List Element) (x y : Element) → AllPairs (λ e f. offset_of e < offset_of f) es
    → Contains es x → Contains es y → offset_of x ≡ offset_of y → x ≡ y
one_at_offset es x y pairs (i, i_below, x_is) (j, j_below, y_is) same = elim (cases_order i j) [
  | inl one ↦ sym x_is ∙ get_or_default es i x y i_below ∙ ap (λ k. get_or es k y) one ∙ y_is
  | inr other ↦ elim other [
    | inl before ↦ (let less = pairs i j y before j_below in
        let first : offset_of (get_or es i y) ≡ offset_of x = ap offset_of (get_or_default es i y x i_below ∙ x_is) in
        let second : offset_of (get_or es j y) ≡ offset_of y = ap offset_of y_is in
        absurd (omega arith))
    | inr after ↦ (let less = pairs j i x after i_below in
        let first : offset_of (get_or es i x) ≡ offset_of x = ap offset_of x_is in
        let second : offset_of (get_or es j x) ≡ offset_of y = ap offset_of (get_or_default es j x y j_below ∙ y_is) in
        absurd (omega arith))
  ]
]

pub distinct_from_ascending : (structures : List Structure) → HasAscendingOffsets structures → HasDistinctOffsets structures
distinct_from_ascending structures ascend top r q (s, reaches, among) (t, reaches', among') same =
    let one : Reference r ≡ Reference q
    = one_at_offset (all_elements structures) (Reference r) (Reference q) ascend
    (among_all structures s (Reference r) among) (among_all structures t (Reference q) among') same in
    cc

-- the references of a file's library have distinct offsets
pub distinct_offsets : (bytes : List ℕ) (library : StreamLibrary) → IsLibraryOf bytes library → HasDistinctOffsets library.structures
distinct_offsets bytes library is =
    distinct_from_ascending library.structures
    (subst (λ (l : StreamLibrary). HasAscendingOffsets l.structures) (sym is.same) (ascending_offsets bytes is.tree is.spelled))

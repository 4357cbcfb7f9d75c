-- Nothing is wrong with a mask file.
use Rattle.std.proofs.Common.{◌≡◌, ◌≢◌, ℕ, ◌+◌, ◌/◌, ◌%◌, ◌≤◌, ◌==◌, ◌&&◌, nat_le, le-leb, Bool, true, false, cond, List, [], ◌∷◌, ◌++◌, length, All, refl, ap, sym, ◌∙◌, subst, arith, append_assoc, length-append}
use Rattle.std.specs.Prelude.{ℤ, IsTrue, if◌then◌else◌}
use Rattle.std.specs.Int.{w16, to_be_bytes}
use Rattle.std.specs.List.{Contains, flat_map}
use Rattle.std.proofs.Math.Bool.{or-true}
use Rattle.std.proofs.lemmas.Bool.{eq-eqb, ne_eqb, true≢false}
use Rattle.std.proofs.lemmas.List.{append-nil}
use Rattle.std.proofs.lemmas.List.Elements.{All-head, All-tail}
use Rattle.std.proofs.lemmas.List.Sums.{fold-append}
use Rattle.opc_base.specs.declared.plane.Pix.{Pix}
use Rattle.opc_base.specs.declared.rules.OutPick.{OutPick}
use Rattle.opc_base.specs.Ranges.{is_name_byte}
use Rattle.gds_records.specs.declared.library_head.Head.{Head}
use Rattle.gds_records.specs.Records.{StreamRecord, ENDLIB, records_from, stop_after}
use Rattle.gds_records.specs.Written.{record_bytes}
use Rattle.gds_model.specs.declared.record_kind.RecordKind.{RecordKind}
use Rattle.gds_model.specs.declared.record_kind.RecordKind.TheVariants.{Header, BgnLib, LibName, Units, EndLib, BgnStr, StrName, EndStr, Boundary, Layer, Datatype, Xy, EndEl}
use Rattle.gds_model.specs.RecordKind.{code_of}
use Rattle.gds_model.specs.Body.{body_of_kind, fits, element_kinds, is_one_of}
use Rattle.gds_model.specs.Names.{has_nonzero, name_of}
use Rattle.gds_model.specs.StreamFile.{IsSentence, IsPrefix}
use Rattle.gds_model.specs.Faults.{unexpected, one_too_many, bad_body, duplicate, IsFine, AllFine, HasNoFaultOf, HasNoFault, structure_count, element_of, names_of, has_end}
use Rattle.gds_writer.specs.MaskFile.{MaskRecord, bytes_of, point_bytes, boundary, opening, closing, outline_records, outline_file, standing}
use Rattle.gds_writer.proofs.ReadBack.{length-points}
use Rattle.gds_writer.proofs.KindCodes.{code_same}
use Rattle.gds_writer.proofs.Sentence.{after, standing-append, mask_tree, mask-spelled}

-- nothing but the grammar can be wrong at a record of this kind with this body
record IsRight (before : List StreamRecord) (kind : RecordKind) (body : List ℕ) : Type 0 where
  few : code_of kind ≡ code_of BgnStr → structure_count before ≡ 0
  fit : fits (body_of_kind kind) (element_of before) body ≡ true
  new : code_of kind ≡ code_of StrName → names_of before ≡ []

abbrev AreRight : List StreamRecord → ℕ → List MaskRecord → Type 0
AreRight before at [] = Unit {0}
AreRight before at (r ∷ rs) =
    IsRight before r.kind r.body
    × AreRight (before ++ record { offset = at; code = code_of r.kind; body = r.body } ∷ []) (at + 4 + length r.body) rs

AreRight-append : (before : List StreamRecord) (at : ℕ) (xs ys : List MaskRecord) → AreRight before at xs
    → AreRight (before ++ standing at xs) (after at xs) ys → AreRight before at (xs ++ ys)
AreRight-append before at [] ys p q =
    let P : List StreamRecord → Type 0 = λ l. AreRight l at ys in
    subst P (append-nil before) q
AreRight-append before at (x ∷ xs) ys p q =
    let r : StreamRecord = record { offset = at; code = code_of x.kind; body = x.body } in
    let P : List StreamRecord → Type 0 = λ l. AreRight l (after (at + 4 + length x.body) xs) ys in
    (p.0, AreRight-append (before ++ r ∷ []) (at + 4 + length x.body) xs ys p.1 (subst P (sym (append_assoc before (r ∷ []) (standing (at + 4 + length x.body) xs))) q))

-- a right record that a sentence has is fine
fine_at : (before : List StreamRecord) (r : StreamRecord) (kind : RecordKind) → r.code ≡ code_of kind → IsRight before kind r.body
    → IsPrefix (before ++ r ∷ []) → IsFine before r
fine_at before r kind is right prefix unexpected wrong = wrong.1 prefix
fine_at before r kind is right prefix one_too_many wrong =
    let none = right.few (sym is ∙ wrong.0) in
    absurd (omega (arith, none, wrong.1))
fine_at before r kind is right prefix bad_body wrong =
    let same = code_same wrong.0 kind (wrong.1.0 ∙ is) in
    let unfit : fits (body_of_kind kind) (element_of before) r.body ≡ false = subst (λ k. fits (body_of_kind k) (element_of before) r.body ≡ false) same wrong.1.1 in
    true≢false (sym right.fit ∙ unfit)
fine_at before r kind is right prefix duplicate wrong =
    let none = right.new (sym is ∙ wrong.0) in
    let there : Contains [] (name_of r.body) = subst (λ l. Contains l (name_of r.body)) none wrong.1 in
    absurd (omega (arith, there.1))

all_fine : (before : List StreamRecord) (at : ℕ) (rs : List MaskRecord) → AreRight before at rs → IsSentence (before ++ standing at rs)
    → AllFine before (standing at rs)
all_fine before at [] p s = tt
all_fine before at (x ∷ rs) p s =
    let r : StreamRecord = record { offset = at; code = code_of x.kind; body = x.body } in
    let next = at + 4 + length x.body in
    let sentence : IsSentence ((before ++ r ∷ []) ++ standing next rs) = subst IsSentence (sym (append_assoc before (r ∷ []) (standing next rs))) s in
    (fine_at before r x.kind refl p.0 (record { more = standing next rs; sentence = sentence }), all_fine (before ++ r ∷ []) next rs p.1 sentence)

-- ---- the records of a mask file

name-nonzero : (name : List ℕ) → 1 ≤ length name → All (λ b. IsTrue (is_name_byte b)) name → (more : List ℕ) → has_nonzero (name ++ more) ≡ true
name-nonzero [] some plain more = absurd (omega arith)
name-nonzero (b ∷ name) some plain more =
    let is_plain : is_name_byte b ≡ true = All-head (λ b. IsTrue (is_name_byte b)) b name plain in
    let zero_is_not : b ≢ 0 = λ e. (let wrong : false ≡ true = subst (λ n. is_name_byte n ≡ true) e is_plain in cc) in
    rw (ne_eqb b 0 zero_is_not) refl

padded-nonzero : (name : List ℕ) (even : Bool) → 1 ≤ length name → All (λ b. IsTrue (is_name_byte b)) name
    → has_nonzero (cond even name (name ++ 0 ∷ [])) ≡ true
padded-nonzero name true some plain =
    ap has_nonzero (sym (append-nil name)) ∙ name-nonzero name some plain []
padded-nonzero name false some plain = name-nonzero name some plain (0 ∷ [])

-- a record of a kind that neither begins nor names a structure
other_right : (before : List StreamRecord) (kind : RecordKind) (body : List ℕ) → code_of kind ≢ code_of BgnStr → code_of kind ≢ code_of StrName
    → fits (body_of_kind kind) (element_of before) body ≡ true → IsRight before kind body
other_right before kind body begins names fit = record { few = λ e. absurd (begins e); fit = fit; new = λ e. absurd (names e) }

opening-right : (head : Head) (out : OutPick) → length head.header ≡ 2 → length head.dates ≡ 24 → length head.units ≡ 16
    → AreRight [] 0 (opening head out)
opening-right head out header dates units = (
  other_right _ Header head.header (omega arith) (omega arith) (eq-eqb (length head.header) 2 header),
  (
    other_right _ BgnLib head.dates (omega arith) (omega arith) (eq-eqb (length head.dates) 24 dates),
    (
      other_right _ LibName head.name (omega arith) (omega arith) refl,
      (
        other_right _ Units head.units (omega arith) (omega arith) (eq-eqb (length head.units) 16 units),
        (
          record { few = λ _. refl; fit = eq-eqb (length head.dates) 24 dates; new = λ e. absurd (omega arith) },
          (
            record {
              few = λ e. absurd (omega arith);
              fit = padded-nonzero out.name (length out.name % 2 == 0) out.name_in_range.0 out.name_is_plain;
              new = λ _. refl;
            },
            tt,
          ),
        ),
      ),
    ),
  ),
)

-- the element that goes on after one more record
element_after : (before : List StreamRecord) (r : StreamRecord)
    → element_of (before ++ r ∷ []) ≡ (if is_one_of element_kinds r.code then r.code else element_of before)
element_after before r = fold-append _ 0 before (r ∷ [])

points-fit : (grid : ℤ) (outline : List Pix) → 1 ≤ length outline → (nat_le 8 (length (flat_map (point_bytes grid) outline)) && (length (flat_map (point_bytes grid) outline) % 8 == 0)) ≡ true
points-fit grid outline some =
    let size = length-points grid outline in
    let rest : length (flat_map (point_bytes grid) outline) % 8 ≡ 0 = omega arith in
    let enough : 8 ≤ length (flat_map (point_bytes grid) outline) = omega arith in
    rw (le-leb _ _ enough, eq-eqb _ _ rest) refl

boundary-right : (before : List StreamRecord) (at : ℕ) (out : OutPick) (grid : ℤ) (outline : List Pix) → 1 ≤ length outline
    → AreRight before at (boundary out grid outline)
boundary-right before at out grid outline some =
    let a : StreamRecord = record { offset = at; code = code_of Boundary; body = [] } in
    let b : StreamRecord = record { offset = at + 4 + 0; code = code_of Layer; body = to_be_bytes w16 out.layer } in
    let c : StreamRecord = record { offset = at + 4 + 0 + 4 + 2; code = code_of Datatype; body = to_be_bytes w16 out.datatype } in
    let body = flat_map (point_bytes grid) outline in
    let element : element_of (((before ++ a ∷ []) ++ b ∷ []) ++ c ∷ []) ≡ code_of Boundary =
    element_after ((before ++ a ∷ []) ++ b ∷ []) c ∙ element_after (before ++ a ∷ []) b ∙ element_after before a in (
      other_right _ Boundary [] (omega arith) (omega arith) refl,
      (
        other_right _ Layer _ (omega arith) (omega arith) refl,
        (
          other_right _ Datatype _ (omega arith) (omega arith) refl,
          (
            other_right _ Xy body (omega arith) (omega arith) (ap (λ n. fits (body_of_kind Xy) n body) element ∙ points-fit grid outline some),
            (other_right _ EndEl [] (omega arith) (omega arith) refl, tt),
          ),
        ),
      ),
    )

elements-right : (before : List StreamRecord) (at : ℕ) (out : OutPick) (grid : ℤ) (outlines : List (List Pix)) → All (λ outline. 1 ≤ length outline) outlines
    → AreRight before at (flat_map (boundary out grid) outlines)
elements-right before at out grid [] some = tt
elements-right before at out grid (outline ∷ outlines) some =
    AreRight-append before at (boundary out grid outline) (flat_map (boundary out grid) outlines)
    (boundary-right before at out grid outline (All-head (λ outline. 1 ≤ length outline) outline outlines some))
    (elements-right (before ++ standing at (boundary out grid outline)) (after at (boundary out grid outline)) out grid outlines (All-tail (λ outline. 1 ≤ length outline) outline outlines some))

closing-right : (before : List StreamRecord) (at : ℕ) → AreRight before at closing
closing-right before at =
    (other_right _ EndStr [] (omega arith) (omega arith) refl, (other_right _ EndLib [] (omega arith) (omega arith) refl, tt))

records-right : (head : Head) (out : OutPick) (grid : ℤ) (outlines : List (List Pix)) → length head.header ≡ 2 → length head.dates ≡ 24
    → length head.units ≡ 16 → All (λ outline. 1 ≤ length outline) outlines → AreRight [] 0 (outline_records head out grid outlines)
records-right head out grid outlines header dates units some =
    let elements = flat_map (boundary out grid) outlines in
    let before = standing 0 (opening head out) in
    let at = after 0 (opening head out) in
    AreRight-append [] 0 (opening head out) (elements ++ closing) (opening-right head out header dates units)
    (AreRight-append before at elements closing (elements-right before at out grid outlines some)
    (closing-right (before ++ standing at elements) (after at elements)))

-- ---- behind the records

has_end-append : (rs ss : List StreamRecord) → has_end ss ≡ true → has_end (rs ++ ss) ≡ true
has_end-append [] ss e = e
has_end-append (r ∷ rs) ss e = rw (has_end-append rs ss e) (or-true (r.code == ENDLIB))

ended : (at : ℕ) (rs : List MaskRecord) → has_end (standing at (rs ++ closing)) ≡ true
ended at rs = rw (standing-append at rs closing) (has_end-append (standing at rs) (standing (after at rs) closing) refl)

-- the records take all bytes
stop-after : (at : ℕ) (rs : List MaskRecord) → stop_after at (standing at rs) ≡ at + length (bytes_of rs)
stop-after at [] = omega arith
stop-after at (r ∷ rs) =
    let rest = stop-after (at + 4 + length r.body) rs in
    let size = length-append (record_bytes (code_of r.kind / 256) (code_of r.kind % 256) r.body) (bytes_of rs) in
    omega (arith, rest, size)

pub mask-no_fault : (head : Head) (out : OutPick) (grid : ℤ) (outlines : List (List Pix)) → length head.header ≡ 2 → length head.dates ≡ 24
    → length head.units ≡ 16 → All (λ outline. 1 ≤ length outline) outlines → records_from (outline_file head out grid outlines) 0 ≡ standing 0 (outline_records head out grid outlines)
    → HasNoFault (outline_file head out grid outlines)
mask-no_fault head out grid outlines header dates units some read =
    let records = outline_records head out grid outlines in
    let bytes = outline_file head out grid outlines in
    let same : (opening head out ++ flat_map (boundary out grid) outlines) ++ closing ≡ records =
    append_assoc (opening head out) (flat_map (boundary out grid) outlines) closing in
    let sentence : IsSentence (standing 0 records) = (mask_tree head out grid outlines, mask-spelled head out grid outlines) in
    let stop = stop-after 0 records in
    let no_fault : HasNoFaultOf bytes (standing 0 records) = (
      all_fine [] 0 records (records-right head out grid outlines header dates units some) sentence,
      subst (λ l. has_end (standing 0 l) ≡ true) same (ended 0 (opening head out ++ flat_map (boundary out grid) outlines)),
      λ i behind within. absurd (omega (arith, stop)),
    ) in
    let P : List StreamRecord → Type 0 = λ rs. HasNoFaultOf bytes rs in
    subst P (sym read) no_fault

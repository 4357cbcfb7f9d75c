-- Records that were written are read back.
use Rattle.std.proofs.Common.{◌≡◌, ◌≢◌, ℕ, ◌+◌, ◌*◌, ◌/◌, ◌%◌, List, [], ◌∷◌, ◌++◌, Bool, true, false, cond, length, refl, ap, sym, ◌∙◌, subst, arith, append_assoc, length-append}
use Rattle.std.specs.Prelude.{ℤ, ◌==◌, if◌then◌else◌}
use Rattle.std.specs.List.{flat_map}
use Rattle.std.proofs.lemmas.Bool.{ne_eqb, eqb-false}
use Rattle.std.proofs.lemmas.Bool.Decides.{nat_tests}
use Rattle.opc_base.specs.declared.plane.Pix.{Pix}
use Rattle.opc_base.specs.declared.rules.OutPick.{OutPick}
use Rattle.gds_records.specs.declared.library_head.Head.{Head}
use Rattle.gds_records.specs.Records.{StandsAt, ENDLIB, records_from}
use Rattle.gds_records.specs.Written.{record_bytes}
use Rattle.gds_records.proofs.RecordsLemmas.{record_at-some, records_from-some}
use Rattle.gds_records.proofs.WrittenLemmas.{written_stands}
use Rattle.gds_model.specs.declared.record_kind.RecordKind.TheVariants.{EndStr, EndLib}
use Rattle.gds_model.specs.RecordKind.{code_of}
use Rattle.gds_writer.specs.MaskFile.{MaskRecord, record_of, bytes_of, padded, point_bytes, boundary, opening, outline_records, outline_file, standing}

-- each body has an even length, and no record is ENDLIB
abbrev pub CanGoOn : List MaskRecord → Type 0
CanGoOn [] = Unit {0}
CanGoOn (r ∷ rs) = (length r.body % 2 ≡ 0) × (code_of r.kind ≢ ENDLIB) × CanGoOn rs

pub CanGoOn-append : (xs ys : List MaskRecord) → CanGoOn xs → CanGoOn ys → CanGoOn (xs ++ ys)
CanGoOn-append [] ys p q = q
CanGoOn-append (x ∷ xs) ys (even, other, p) q = (even, other, CanGoOn-append xs ys p q)

-- what stands at an offset, with what is read behind it
first_read : (before more : List ℕ) (r : MaskRecord) → length r.body % 2 ≡ 0
    → records_from (before ++ (record_bytes (code_of r.kind / 256) (code_of r.kind % 256) r.body ++ more)) (length before)
    ≡ record { offset = length before; code = code_of r.kind; body = r.body }
    ∷ (if code_of r.kind == ENDLIB then []
    else records_from (before ++ (record_bytes (code_of r.kind / 256) (code_of r.kind % 256) r.body ++ more)) (length before + 4 + length r.body))
first_read before more r even =
    let code = code_of r.kind in
    let bytes = before ++ (record_bytes (code / 256) (code % 256) r.body ++ more) in
    let split : 256 * (code / 256) + code % 256 ≡ code = omega arith in
    let stands : StandsAt bytes (length before) (record { offset = length before; code = code; body = r.body }) =
    subst (λ n. StandsAt bytes (length before) (record { offset = length before; code = n; body = r.body })) split
    (written_stands before more (code / 256) (code % 256) r.body even) in
    records_from-some bytes (length before) _ (record_at-some bytes (length before) _ stands)

-- records with ENDLIB behind them
pub read_back : (before : List ℕ) (rs : List MaskRecord) → CanGoOn rs
    → records_from (before ++ bytes_of (rs ++ record_of EndLib [] ∷ [])) (length before)
    ≡ standing (length before) (rs ++ record_of EndLib [] ∷ [])
read_back before [] p = first_read before [] (record_of EndLib []) refl
read_back before (r ∷ rs) (even, other, p) =
    let code = code_of r.kind in
    let written = record_bytes (code / 256) (code % 256) r.body in
    let more = bytes_of (rs ++ record_of EndLib [] ∷ []) in
    let size : length (before ++ written) ≡ length before + 4 + length r.body = length-append before written ∙ (omega arith) in
    let rest = read_back (before ++ written) rs p in
    first_read before more r even
    ∙ ap (λ b. record { offset = length before; code = code; body = r.body }
    ∷ cond b [] (records_from (before ++ (written ++ more)) (length before + 4 + length r.body))) (ne_eqb code ENDLIB other)
    ∙ ap (λ l. record { offset = length before; code = code; body = r.body } ∷ l)
    (ap (λ n. records_from (before ++ (written ++ more)) n) (sym size)
    ∙ ap (λ l. records_from l (length (before ++ written))) (sym (append_assoc before written more)) ∙ rest
    ∙ ap (λ n. standing n (rs ++ record_of EndLib [] ∷ [])) size)

padded-case : (name : List ℕ) (b : Bool) → (length name % 2 == 0) ≡ b → length (cond b name (name ++ 0 ∷ [])) % 2 ≡ 0
padded-case name true e = grind (arith, nat_tests)
padded-case name false e =
    let odd = eqb-false (length name % 2) 0 e in
    let long : length (name ++ 0 ∷ []) ≡ length name + 1 = length-append name (0 ∷ []) in
    omega (arith, odd, long)

padded-even : (name : List ℕ) → length (padded name) % 2 ≡ 0
padded-even name = padded-case name (length name % 2 == 0) refl

-- each point takes eight bytes
pub length-points : (grid : ℤ) (points : List Pix) → length (flat_map (point_bytes grid) points) ≡ 8 * length points
length-points grid [] = refl
length-points grid (p ∷ points) = let rest = length-points grid points in omega arith

elements-go_on : (out : OutPick) (grid : ℤ) (outlines : List (List Pix)) → CanGoOn (flat_map (boundary out grid) outlines)
elements-go_on out grid [] = tt
elements-go_on out grid (points ∷ outlines) =
    let size = length-points grid points in
    let even : length (flat_map (point_bytes grid) points) % 2 ≡ 0 = omega arith in
    CanGoOn-append (boundary out grid points) (flat_map (boundary out grid) outlines)
    (refl, omega arith, (refl, omega arith, (refl, omega arith, (even, omega arith, (refl, omega arith, tt)))))
    (elements-go_on out grid outlines)

-- the mask file has exactly its records
pub mask_read_back : (head : Head) (out : OutPick) (grid : ℤ) (outlines : List (List Pix)) → length head.header ≡ 2 → length head.dates ≡ 24
    → length head.name % 2 ≡ 0 → length head.units ≡ 16
    → records_from (outline_file head out grid outlines) 0 ≡ standing 0 (outline_records head out grid outlines)
mask_read_back head out grid outlines header dates name units =
    let elements = flat_map (boundary out grid) outlines in
    let records : List MaskRecord = opening head out ++ (elements ++ record_of EndStr [] ∷ []) in
    let last : List MaskRecord = record_of EndLib [] ∷ [] in
    let same : records ++ last ≡ outline_records head out grid outlines =
    ap (λ l. opening head out ++ l) (append_assoc elements (record_of EndStr [] ∷ []) last) in
    let opened : CanGoOn (opening head out) = (
      omega (arith, header),
      omega arith,
      (
        omega (arith, dates),
        omega arith,
        (
          name,
          omega arith,
          (
            omega (arith, units),
            omega arith,
            (omega (arith, dates), omega arith, (padded-even out.name, omega arith, tt)),
          ),
        ),
      ),
    ) in
    let go_on = CanGoOn-append (opening head out) (elements ++ record_of EndStr [] ∷ []) opened
    (CanGoOn-append elements (record_of EndStr [] ∷ []) (elements-go_on out grid outlines) (refl, omega arith, tt)) in
    subst (λ l. records_from (bytes_of l) 0 ≡ standing 0 l) same (read_back [] records go_on)

-- Which records do more than add to the open element.
use Rattle.std.proofs.Common.{◌≡◌, ℕ, ◌==◌, ◌||◌, true, false, cond, refl, List, [], ◌∷◌, ◌++◌, ap, sym, ◌∙◌}
use Rattle.std.proofs.Math.Bool.{or-true}
use Rattle.std.proofs.lemmas.List.Folds.{list_any-append}
use Rattle.gds_records.specs.Records.{StreamRecord}
use Rattle.gds_model.specs.declared.record_kind.RecordKind.{RecordKind}
use Rattle.gds_model.specs.declared.record_kind.RecordKind.TheVariants.{Header, BgnLib, LibName, Units, EndLib, BgnStr, StrName, EndStr, EndEl}
use Rattle.gds_model.specs.RecordKind.{code_of}
use Rattle.gds_model.specs.Body.{element_kinds, is_one_of}
use Rattle.gds_library.specs.Gathered.{Gathered, outer_kinds, with_outer, with_record}
use Rattle.gds_library.proofs.Firsts.{Differs, not_one_of}

abbrev other_outer : List RecordKind
other_outer = Header ∷ BgnLib ∷ LibName ∷ Units ∷ EndLib ∷ BgnStr ∷ StrName ∷ EndStr ∷ EndEl ∷ []

outer_split : (code : ℕ) → is_one_of outer_kinds code ≡ (is_one_of other_outer code || is_one_of element_kinds code)
outer_split code = list_any-append (λ k. code == code_of k) other_outer element_kinds

-- the first record of an element opens it
pub with_record-begin : (g : Gathered) (r : StreamRecord) → is_one_of element_kinds r.code ≡ true
    → with_record g r ≡ record g { open_records = r ∷ [] }
with_record-begin g r begins =
    let outer : is_one_of outer_kinds r.code ≡ true =
    outer_split r.code ∙ ap (λ b. is_one_of other_outer r.code || b) begins ∙ or-true (is_one_of other_outer r.code) in
    ap (λ b. cond b (with_outer g r) (record g { open_records = g.open_records ++ r ∷ [] })) outer ∙ rw begins refl

-- a record of none of these kinds adds to it
pub with_record-detail : (g : Gathered) (r : StreamRecord) (k : RecordKind) → code_of k ≡ r.code → Differs k other_outer
    → is_one_of element_kinds r.code ≡ false → with_record g r ≡ record g { open_records = g.open_records ++ r ∷ [] }
with_record-detail g r k same differs other =
    let outer : is_one_of outer_kinds r.code ≡ false =
    outer_split r.code ∙ ap (λ b. is_one_of other_outer r.code || b) other
    ∙ ap (λ c. is_one_of other_outer c || false) (sym same) ∙ ap (λ b. b || false) (not_one_of k other_outer differs) in
    ap (λ b. cond b (with_outer g r) (record g { open_records = g.open_records ++ r ∷ [] })) outer

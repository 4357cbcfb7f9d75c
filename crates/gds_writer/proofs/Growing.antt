-- Texts that grow by the bytes of records.
use Rattle.std.proofs.Common.{◌≡◌, ℕ, ◌+◌, ◌<◌, ◌/◌, ◌%◌, List, [], ◌∷◌, ◌++◌, length, take, get_or, ap, sym, ◌∙◌, append_assoc, add-one}
use Rattle.std.proofs.Math.Seq.{take-suc}
use Rattle.std.specs.List.{flat_map}
use Rattle.std.proofs.lemmas.List.{append-nil}
use Rattle.std.proofs.lemmas.Grind.{flat_map-append}
use Rattle.gds_records.specs.Written.{record_bytes}
use Rattle.gds_model.specs.declared.record_kind.RecordKind.{RecordKind}
use Rattle.gds_model.specs.RecordKind.{code_of}
use Rattle.gds_writer.specs.MaskFile.{MaskRecord, record_of, bytes_of}

-- the new text is the old one and then the bytes of these records
pub record Grew (old new : List ℕ) (xs : List MaskRecord) : Type 0 where
  pub by : new ≡ old ++ bytes_of xs

pub grew_nothing : (old : List ℕ) → Grew old old []
grew_nothing old = record { by = sym (append-nil old) }

pub bytes-append : (xs ys : List MaskRecord) → bytes_of (xs ++ ys) ≡ bytes_of xs ++ bytes_of ys
bytes-append xs ys = flat_map-append (λ r. record_bytes (code_of r.kind / 256) (code_of r.kind % 256) r.body) xs ys

-- first by some records and then by others
pub grew_again : (old new newer : List ℕ) (xs ys : List MaskRecord) → Grew old new xs → Grew new newer ys → Grew old newer (xs ++ ys)
grew_again old new newer xs ys before after = record {
  by =
      after.by ∙ ap (λ l. l ++ bytes_of ys) before.by ∙ append_assoc old (bytes_of xs) (bytes_of ys)
      ∙ ap (λ l. old ++ l) (sym (bytes-append xs ys));
}

-- by one more record
pub one_more : {old new : List ℕ} {xs : List MaskRecord} (newer : List ℕ) (kind : RecordKind) (body : List ℕ) {put : List ℕ}
    → Grew old new xs → put ≡ body → newer ≡ new ++ record_bytes (code_of kind / 256) (code_of kind % 256) put
    → Grew old newer (xs ++ record_of kind body ∷ [])
one_more {old = old} {new = new} {xs = xs} newer kind body {put = put} before same after =
    let bytes : List ℕ → List ℕ = λ l. record_bytes (code_of kind / 256) (code_of kind % 256) l in
    grew_again old new newer xs (record_of kind body ∷ []) before
    (record { by = after ∙ ap (λ l. new ++ bytes l) same ∙ ap (λ l. new ++ l) (sym (append-nil (bytes body))) })

-- by the records of the next of some items
pub one_item_more : {X : Type 0} (f : X → List MaskRecord) (old new newer : List ℕ) (xs : List X) (i : ℕ) (d : X) → i < length xs
    → Grew old new (flat_map f (take i xs)) → Grew new newer (f (get_or xs i d)) → Grew old newer (flat_map f (take (i + 1) xs))
one_item_more f old new newer xs i d h before after =
    let more = grew_again old new newer _ (f (get_or xs i d)) before after in
    let records : flat_map f (take i xs) ++ f (get_or xs i d) ≡ flat_map f (take (i + 1) xs) =
    ap (λ l. flat_map f (take i xs) ++ l) (sym (append-nil (f (get_or xs i d))))
    ∙ sym (flat_map-append f (take i xs) (get_or xs i d ∷ [])) ∙ ap (flat_map f) (sym (ap (λ n. take n xs) (add-one i) ∙ take-suc xs i d h)) in
    record { by = more.by ∙ ap (λ l. old ++ bytes_of l) records }

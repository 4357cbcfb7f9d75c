-- A record that was written stands where it was written.
use Rattle.std.proofs.Common.{◌≡◌, ℕ, ◌+◌, ◌-◌, ◌*◌, ◌/◌, ◌%◌, List, [], ◌++◌, length, take, drop, refl, ap, sym, ◌∙◌, arith, subst, length-append}
use Rattle.std.specs.Prelude.{slice_index}
use Rattle.std.proofs.Math.Seq.{get_or-append_seam, drop-append-add, take-append_seam}
use Rattle.std.proofs.lemmas.List.{get_or-append-add, append-nil}
use Rattle.gds_records.specs.Records.{StandsAt, length_at}
use Rattle.gds_records.specs.Written.{record_bytes}

-- whatever stands before it and behind it
pub written_stands : (out more : List ℕ) (kind data_type : ℕ) (body : List ℕ) → length body % 2 ≡ 0
    → StandsAt (out ++ (record_bytes kind data_type body ++ more)) (length out)
    (record { offset = length out; code = 256 * kind + data_type; body = body })
written_stands out more kind data_type body even =
    let written = record_bytes kind data_type body ++ more in
    let bytes = out ++ written in
    let at = length out in
    let high : slice_index bytes at ≡ (length body + 4) / 256 = get_or-append_seam out _ _ 0 in
    let low : slice_index bytes (at + 1) ≡ (length body + 4) % 256 = get_or-append-add out written 1 0 in
    let kind_is : slice_index bytes (at + 2) ≡ kind = get_or-append-add out written 2 0 in
    let data_type_is : slice_index bytes (at + 3) ≡ data_type = get_or-append-add out written 3 0 in
    let long : length_at bytes at ≡ length body + 4 = omega (arith, high, low) in
    let all : length bytes ≡ at + (length (record_bytes kind data_type body) + length more) =
    length-append out written ∙ ap (λ n. at + n) (length-append (record_bytes kind data_type body) more) in
    let count : length (record_bytes kind data_type body) ≡ 4 + length body = omega arith in
    let rest : drop (at + 4) bytes ≡ body ++ more = drop-append-add out written 4 in
    let size : (at + length_at bytes at) - (at + 4) ≡ length body = omega (arith, long) in
    record {
      header = omega (arith, all, count);
      even_length = omega (arith, long, even);
      long = omega (arith, long);
      fits = omega (arith, all, count, long);
      offset = refl;
      code = ap (λ n. 256 * n + data_type) (sym kind_is) ∙ ap (λ n. 256 * slice_index bytes (at + 2) + n) (sym data_type_is);
      body =
          sym
          (ap (λ l. take ((at + length_at bytes at) - (at + 4)) l) rest ∙ ap (λ n. take n (body ++ more)) size
          ∙ take-append_seam body more);
    }

-- at the end of a text
pub written_last : (out : List ℕ) (kind data_type : ℕ) (body : List ℕ) → length body % 2 ≡ 0
    → StandsAt (out ++ record_bytes kind data_type body) (length out)
    (record { offset = length out; code = 256 * kind + data_type; body = body })
written_last out kind data_type body even =
    let P : List ℕ → Type 0 = λ l. StandsAt (out ++ l) (length out) (record { offset = length out; code = 256 * kind + data_type; body = body }) in
    subst P (append-nil (record_bytes kind data_type body)) (written_stands out [] kind data_type body even)

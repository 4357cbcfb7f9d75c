-- A stream file is a list of records: a length, a record type, a data type and a body.
use Rattle.std.specs.Prelude.{◌≡◌, ◌≢◌, ℕ, zero, suc, ◌+◌, ◌*◌, ◌%◌, ◌<◌, ◌≤◌, ◌⊎◌, Bool, ◌==◌, ◌&&◌, nat_le, if◌then◌else◌, Option, Some, None, List, [], ◌∷◌, ◌++◌, length, slice_index, slice_range}
use Rattle.gds_records.specs.Numbers.{two_bytes}

-- a record as it stands in the file; the code is the record type and the data type
pub record StreamRecord : Type 0 where
  pub offset : ℕ
  pub code : ℕ
  pub body : List ℕ

-- the length field at an offset, which counts its own four header bytes
abbrev pub length_at : List ℕ → ℕ → ℕ
length_at bytes at = two_bytes bytes at

-- the record type times 256 and the data type, which stand behind the length
abbrev pub code_at : List ℕ → ℕ → ℕ
code_at bytes at = 256 * slice_index bytes (at + 2) + slice_index bytes (at + 3)

-- the four header bytes are there
abbrev pub HasHeader : List ℕ → ℕ → Type 0
HasHeader bytes at = at + 4 ≤ length bytes

-- even, and no less than the header
abbrev pub IsLength : ℕ → Type 0
IsLength n = (n % 2 ≡ 0) × (4 ≤ n)

-- a record stands at the offset
pub record StandsAt (bytes : List ℕ) (at : ℕ) (r : StreamRecord) : Type 0 where
  pub header : HasHeader bytes at
  pub even_length : length_at bytes at % 2 ≡ 0
  pub long : 4 ≤ length_at bytes at
  pub fits : at + length_at bytes at ≤ length bytes
  pub offset : r.offset ≡ at
  pub code : r.code ≡ code_at bytes at
  pub body : r.body ≡ slice_range bytes (at + 4) (at + length_at bytes at)

-- the bytes end within a record
abbrev pub IsCut : List ℕ → ℕ → Type 0
IsCut bytes at =
    ((at < length bytes) × (length bytes < at + 4))
    ⊎ (HasHeader bytes at × IsLength (length_at bytes at) × (length bytes < at + length_at bytes at))

-- no record has this length
abbrev pub IsBadLength : List ℕ → ℕ → Type 0
IsBadLength bytes at = HasHeader bytes at × ((length_at bytes at % 2 ≡ 1) ⊎ (length_at bytes at < 4))

abbrev pub stands_at : List ℕ → ℕ → Bool
stands_at bytes at =
    nat_le (at + 4) (length bytes)
    && (length_at bytes at % 2 == 0)
    && nat_le 4 (length_at bytes at)
    && nat_le (at + length_at bytes at) (length bytes)

-- the record at an offset, if one stands there
unfoldable pub record_at : List ℕ → ℕ → Option StreamRecord
record_at bytes at =
    if stands_at bytes at
    then Some (record { offset = at; code = code_at bytes at; body = slice_range bytes (at + 4) (at + length_at bytes at) })
    else None

-- the offset after a record
abbrev pub end_of : StreamRecord → ℕ
end_of r = r.offset + 4 + length r.body

abbrev pub ENDLIB : ℕ
ENDLIB = 0x0400

-- a record and those that follow it, of which ENDLIB has none
abbrev pub record_and : Option StreamRecord → (StreamRecord → List StreamRecord) → List StreamRecord
record_and None following = []
record_and (Some r) following = r ∷ (if r.code == ENDLIB then [] else following r)

-- at most n records from an offset on, without gaps
abbrev pub at_most_records : ℕ → List ℕ → ℕ → List StreamRecord
at_most_records zero bytes at = []
at_most_records (suc n) bytes at = record_and (record_at bytes at) (λ r. at_most_records n bytes (end_of r))

-- all records from an offset on; a file has fewer records than bytes
unfoldable pub records_from : List ℕ → ℕ → List StreamRecord
records_from bytes at = at_most_records (length bytes) bytes at

-- the offset after these records, which begin at an offset
abbrev pub stop_after : ℕ → List StreamRecord → ℕ
stop_after at [] = at
stop_after at (r ∷ rs) = stop_after (end_of r) rs

-- these records stand one after another from an offset on, with ENDLIB as the last of them at most
abbrev pub Stand : List ℕ → ℕ → List StreamRecord → Type 0
Stand bytes at [] = Unit {0}
Stand bytes at (r ∷ []) = StandsAt bytes at r
Stand bytes at (r ∷ s ∷ rs) = StandsAt bytes at r × (r.code ≢ ENDLIB) × Stand bytes (end_of r) (s ∷ rs)

-- these records stand so, and each list of records that does is the front of them
abbrev pub AreLongest : List ℕ → ℕ → List StreamRecord → Type 0
AreLongest bytes at longest = Stand bytes at longest
    × ((rs : List StreamRecord) → Stand bytes at rs → (more : List StreamRecord) × (rs ++ more ≡ longest))

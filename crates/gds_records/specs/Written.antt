-- The bytes of a record.
use Rattle.std.specs.Prelude.{ℕ, ◌+◌, ◌/◌, ◌%◌, List, ◌∷◌, length}

-- its length with the four header bytes, its record type and data type, and its body
abbrev pub record_bytes : ℕ → ℕ → List ℕ → List ℕ
record_bytes kind data_type body = ((length body + 4) / 256) ∷ ((length body + 4) % 256) ∷ kind ∷ data_type ∷ body

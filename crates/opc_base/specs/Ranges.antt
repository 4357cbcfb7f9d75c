-- Ranges of numbers and of names.
use Rattle.std.specs.Prelude.{ℕ, ℤ, ◌≤ℤ◌, ◌==◌, Bool, ◌||◌}
use Rattle.std.specs.Char.{is_ascii_alphanumeric}

-- the number is from low to high, both included
abbrev pub IsBetween : ℤ → ℤ → ℤ → Type 0
IsBetween low high n = (low ≤ℤ n) × (n ≤ℤ high)

-- a byte that a structure's name may have: a letter, a digit, `_`, `?` or `$` (Stream Format Manual 6.0, STRNAME)
abbrev pub is_name_byte : ℕ → Bool
is_name_byte b = is_ascii_alphanumeric b || (b == 95) || (b == 63) || (b == 36)

-- The numbers of a stream file: the high byte first, signed ones in two's complement.
use Rattle.std.specs.Prelude.{ℕ, ℤ, ◌+◌, ◌*◌, List, slice_index}
use Rattle.std.specs.Int.{w16, w32, cast_signed}

-- the number in the two bytes from a place on
abbrev pub two_bytes : List ℕ → ℕ → ℕ
two_bytes bytes at = 256 * slice_index bytes at + slice_index bytes (at + 1)

-- the number in the four bytes from a place on
abbrev pub four_bytes : List ℕ → ℕ → ℕ
four_bytes bytes at = 65536 * two_bytes bytes at + two_bytes bytes (at + 2)

-- the two-byte signed number from a place on
abbrev pub signed_two : List ℕ → ℕ → ℤ
signed_two bytes at = cast_signed w16 (two_bytes bytes at)

-- the four-byte signed number from a place on
abbrev pub signed_four : List ℕ → ℕ → ℤ
signed_four bytes at = cast_signed w32 (four_bytes bytes at)

-- The numbers of a kernel file, by their places.
use Rattle.std.specs.Prelude.{ℕ, ◌+◌, ◌*◌, ℤ, List, slice_index}
use Rattle.std.specs.Int.{w16, cast_signed}
use Rattle.opc_base.specs.declared.kernels.Entry.{Entry}

-- the number in the two bytes from this place, the higher first
unfoldable pub number_at : List ℕ → ℕ → ℕ
number_at bytes place = slice_index bytes place * 256 + slice_index bytes (place + 1)

-- the same two bytes as a signed number, in two's complement
abbrev pub signed_at : List ℕ → ℕ → ℤ
signed_at bytes place = cast_signed w16 (number_at bytes place)

-- a real and an imaginary part, one after the other
abbrev pub complex_at : List ℕ → ℕ → Entry
complex_at bytes place = record { re = signed_at bytes place; im = signed_at bytes (place + 2) }

-- How large the coordinates of a mask are: those of a layout, and 128 more, by which an edge moves at most.
use Rattle.std.specs.Prelude.{ℕ, ℤ}
use Rattle.outline_model.specs.Ranges.{IsWithin}

abbrev pub mask_limit : ℕ
mask_limit = 1048128

abbrev pub IsInMask : ℤ → Type 0
IsInMask z = IsWithin mask_limit z

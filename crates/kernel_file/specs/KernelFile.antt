-- The kernel set that a file spells, as a function of its bytes by their places.
use Rattle.std.specs.Prelude.{ℕ, ◌+◌, ◌*◌, pos, Bool, ◌||◌, nat_eq, List, map, codes, if◌then◌else◌}
use Rattle.std.specs.List.{range_with_len, starts_with}
use Rattle.opc_base.specs.declared.kernels.Entry.{Entry}
use Rattle.opc_base.specs.declared.kernels.Kernel.{Kernel}
use Rattle.opc_base.specs.declared.kernels.KernelSet.{KernelSet}
use Rattle.opc_base.specs.Optics.{nothing}
use Rattle.kernel_file.specs.declared.format.Format.{Format}
use Rattle.kernel_file.specs.declared.format.Format.TheVariants.{OneTransmission, TwoTransmissions}
use Rattle.kernel_file.specs.Numbers.{number_at, complex_at}

-- ---- the two formats

unfoldable pub begins_with : List ℕ → List ℕ → Bool
begins_with magic bytes = starts_with nat_eq bytes magic

-- the file begins with the four bytes of one of the formats
abbrev pub has_magic : List ℕ → Bool
has_magic bytes = begins_with (codes "OPK1") bytes || begins_with (codes "OPK2") bytes

abbrev pub format_of : List ℕ → Format
format_of bytes = if begins_with (codes "OPK2") bytes then TwoTransmissions else OneTransmission

-- how many bytes stand before the first kernel
abbrev pub head_len : Format → ℕ
head_len OneTransmission = 8
head_len TwoTransmissions = 16

-- how far from 0 a part of an entry may be
abbrev pub part_limit : Format → ℕ
part_limit OneTransmission = 2048
part_limit TwoTransmissions = 128

-- ---- the head

abbrev pub count_of : List ℕ → ℕ
count_of bytes = number_at bytes 4

abbrev pub reach_of : List ℕ → ℕ
reach_of bytes = number_at bytes 6

-- what a covered pixel lets through
abbrev pub covered_of : Format → List ℕ → Entry
covered_of OneTransmission bytes = record { re = pos 1; im = pos 0 }
covered_of TwoTransmissions bytes = complex_at bytes 8

-- what any other pixel lets through
abbrev pub uncovered_of : Format → List ℕ → Entry
uncovered_of OneTransmission bytes = nothing
uncovered_of TwoTransmissions bytes = complex_at bytes 12

-- ---- the kernels

-- how many entries a kernel of this reach has: one for each u and v from -r to r
abbrev pub entry_count : ℕ → ℕ
entry_count reach = (2 * reach + 1) * (2 * reach + 1)

-- how many bytes a kernel of this reach has: a weight of two, and four for each entry
abbrev pub kernel_len : ℕ → ℕ
kernel_len reach = 2 + 4 * entry_count reach

-- where kernel j stands, the kernels counted from 0
abbrev pub kernel_place : List ℕ → ℕ → ℕ
kernel_place bytes j = head_len (format_of bytes) + j * kernel_len (reach_of bytes)

-- how many bytes the file has, by its head
abbrev pub file_len : List ℕ → ℕ
file_len bytes = kernel_place bytes (count_of bytes)

-- so many entries from this place: rows v from -r to r, in each u from -r to r
unfoldable pub entries_at : List ℕ → ℕ → ℕ → List Entry
entries_at bytes place count = map (λ k. complex_at bytes (place + 4 * k)) (range_with_len 0 count)

-- kernel j: its weight, and then its entries
abbrev pub kernel_at : List ℕ → ℕ → Kernel
kernel_at bytes j = record {
  weight = number_at bytes (kernel_place bytes j);
  entries = entries_at bytes (kernel_place bytes j + 2) (entry_count (reach_of bytes));
}

unfoldable pub kernels_of : List ℕ → List Kernel
kernels_of bytes = map (kernel_at bytes) (range_with_len 0 (count_of bytes))

-- the kernel set that the file spells
abbrev pub kernel_set : List ℕ → KernelSet
kernel_set bytes = record {
  reach = reach_of bytes;
  covered = covered_of (format_of bytes) bytes;
  uncovered = uncovered_of (format_of bytes) bytes;
  kernels = kernels_of bytes;
}

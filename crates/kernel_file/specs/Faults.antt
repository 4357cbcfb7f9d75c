-- What is wrong with a kernel file: the first thing, in a stated order.
use Rattle.std.specs.Prelude.{◌≡◌, ◌⊎◌, ℕ, ◌+◌, ◌*◌, ◌==◌, nat_lt, Bool, ◌||◌, not, unsigned_abs, Option, Some, None, List, [], ◌∷◌, length, map, find, sum_by, if◌then◌else◌}
use Rattle.std.specs.List.{range_with_len}
use Rattle.std.specs.Option.{option_or, option_map}
use Rattle.kernel_file.specs.declared.format.Format.{Format}
use Rattle.kernel_file.specs.declared.format.Format.TheVariants.{OneTransmission, TwoTransmissions}
use Rattle.kernel_file.specs.declared.fault.KernelFault.{KernelFault}
use Rattle.kernel_file.specs.declared.fault.KernelFault.TheVariants.{BadMagic, WrongLength, BadCount, BadReach, BadTransmission, BadWeight, BadEntry, WeightSum, NoMemory}
use Rattle.kernel_file.specs.Numbers.{number_at, signed_at}
use Rattle.kernel_file.specs.KernelFile.{has_magic, format_of, head_len, part_limit, count_of, reach_of, entry_count, kernel_place, file_len, kernels_of}

-- the first answer that is there
unfoldable pub first_some : {X : Type 0} → List (Option X) → Option X
first_some [] = None
first_some (answer ∷ answers) = option_or answer (first_some answers)

-- the fault, where it is one
abbrev pub fault_if : Bool → KernelFault → Option KernelFault
fault_if wrong fault = if wrong then Some fault else None

-- ---- the head

-- the magic, the count and the reach, and the length of the whole
unfoldable pub head_fault : List ℕ → Option KernelFault
head_fault bytes = first_some (
    fault_if (not (has_magic bytes)) BadMagic
    ∷ fault_if (nat_lt (length bytes) (head_len (format_of bytes))) WrongLength
    ∷ fault_if (count_of bytes == 0 || nat_lt 16 (count_of bytes)) BadCount
    ∷ fault_if (nat_lt 64 (reach_of bytes)) BadReach
    ∷ fault_if (not (length bytes == file_len bytes)) WrongLength
    ∷ [])

-- ---- signed numbers within a limit

-- the signed number at this place is further than `limit` from 0
unfoldable pub is_beyond : ℕ → List ℕ → ℕ → Bool
is_beyond limit bytes place = nat_lt limit (unsigned_abs (signed_at bytes place))

-- of so many signed numbers from this place, where the first stands that is further than `limit` from 0
unfoldable pub bad_part : ℕ → List ℕ → ℕ → ℕ → Option ℕ
bad_part limit bytes place count = find (is_beyond limit bytes) (map (λ i. place + 2 * i) (range_with_len 0 count))

-- the two parts of the covered and of the uncovered transmission
abbrev pub transmission_fault : Format → List ℕ → Option KernelFault
transmission_fault OneTransmission bytes = None
transmission_fault TwoTransmissions bytes = option_map BadTransmission (bad_part 8 bytes 8 4)

-- ---- the kernels

-- kernel j: its weight, and then the two parts of each entry
abbrev pub kernel_fault_at : List ℕ → ℕ → Option KernelFault
kernel_fault_at bytes j =
    option_or (fault_if (number_at bytes (kernel_place bytes j) == 0) (BadWeight j))
    (option_map BadEntry (bad_part (part_limit (format_of bytes)) bytes (kernel_place bytes j + 2) (2 * entry_count (reach_of bytes))))

-- the kernels below `count`, in the order of the file
unfoldable pub kernels_fault : List ℕ → ℕ → Option KernelFault
kernels_fault bytes count = first_some (map (kernel_fault_at bytes) (range_with_len 0 count))

-- ---- the whole

-- the first fault of the file, where it has one
unfoldable pub kernel_fault : List ℕ → Option KernelFault
kernel_fault bytes = first_some (
    head_fault bytes
    ∷ transmission_fault (format_of bytes) bytes
    ∷ kernels_fault bytes (count_of bytes)
    ∷ fault_if (nat_lt 2048 (sum_by (λ k. k.weight) (kernels_of bytes))) WeightSum
    ∷ [])

-- this fault is the one that was found, unless memory ran out
abbrev pub IsFound : Option KernelFault → KernelFault → Type 0
IsFound found fault = (fault ≡ NoMemory) ⊎ (found ≡ Some fault)

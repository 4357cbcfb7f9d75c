-- Which fault the checks of a file make, one after the other.
use Rattle.std.proofs.Common.{◌≡◌, ◌⊎◌, ℕ, ◌<◌, ◌≤◌, Bool, true, false, Option, Some, None, List, length, ap, ◌∙◌, arith, inl, inr}
use Rattle.std.specs.Prelude.{codes, not, ◌||◌, ◌==◌, nat_lt, sum_by}
use Rattle.std.specs.Option.{option_or, option_map}
use Rattle.std.proofs.lemmas.Bool.{lt-ltb, le-ltb, eq-eqb, ne_eqb}
use Rattle.std.proofs.lemmas.Bool.Decides.{nat_tests}
use Rattle.kernel_file.specs.declared.fault.KernelFault.{KernelFault}
use Rattle.kernel_file.specs.declared.fault.KernelFault.TheVariants.{BadMagic, WrongLength, BadCount, BadReach, BadTransmission, WeightSum}
use Rattle.kernel_file.specs.declared.format.Format.{Format}
use Rattle.kernel_file.specs.declared.format.Format.TheVariants.{OneTransmission, TwoTransmissions}
use Rattle.kernel_file.specs.KernelFile.{begins_with, has_magic, format_of, head_len, count_of, reach_of, file_len, kernels_of}
use Rattle.kernel_file.specs.Faults.{first_some, fault_if, head_fault, bad_part, transmission_fault, kernels_fault, kernel_fault, IsFound}
use Rattle.kernel_file.specs.Heads.{FitsHead}
use Rattle.kernel_file.proofs.Firsts.{bad_part-add, map_first}

-- ---- the magic

pub second_format : (bytes : List ℕ) → begins_with (codes "OPK2") bytes ≡ true → (has_magic bytes ≡ true) × (TwoTransmissions ≡ format_of bytes)
second_format bytes second = grind (arith, second)

pub first_format : (bytes : List ℕ) → begins_with (codes "OPK2") bytes ≡ false → begins_with (codes "OPK1") bytes ≡ true →
    (has_magic bytes ≡ true) × (OneTransmission ≡ format_of bytes)
first_format bytes second first = grind (arith, second, first)

pub no_format : (bytes : List ℕ) → begins_with (codes "OPK2") bytes ≡ false → begins_with (codes "OPK1") bytes ≡ false → has_magic bytes ≡ false
no_format bytes second first = grind (arith, second, first)

-- ---- one check of several

pub passes : (wrong : Bool) (fault : KernelFault) (rest : Option KernelFault) → wrong ≡ false → option_or (fault_if wrong fault) rest ≡ rest
passes wrong fault rest e = ap (λ w. option_or (fault_if w fault) rest) e

pub fails : (wrong : Bool) (fault : KernelFault) (rest : Option KernelFault) → wrong ≡ true → option_or (fault_if wrong fault) rest ≡ Some fault
fails wrong fault rest e = ap (λ w. option_or (fault_if w fault) rest) e

-- ---- the head

pub no_magic : (bytes : List ℕ) → has_magic bytes ≡ false → head_fault bytes ≡ Some BadMagic
unfolding head_fault first_some
no_magic bytes magic = fails (not (has_magic bytes)) BadMagic _ (ap not magic)

pub ends_in_head : (bytes : List ℕ) → has_magic bytes ≡ true → length bytes < head_len (format_of bytes) → head_fault bytes ≡ Some WrongLength
unfolding head_fault first_some
ends_in_head bytes magic short =
    passes (not (has_magic bytes)) BadMagic _ (ap not magic)
    ∙ fails (nat_lt (length bytes) (head_len (format_of bytes))) WrongLength _ (lt-ltb (length bytes) (head_len (format_of bytes)) short)

count_fails : (n : ℕ) → (n ≡ 0) ⊎ (16 < n) → (n == 0 || nat_lt 16 n) ≡ true
count_fails n wrong = grind (arith, nat_tests)

count_passes : (n : ℕ) → 1 ≤ n → n ≤ 16 → (n == 0 || nat_lt 16 n) ≡ false
count_passes n some few = grind (arith, nat_tests)

-- the file doesn't end in its head
record HasHead (bytes : List ℕ) : Type 0 where
  magic : has_magic bytes ≡ true
  long : head_len (format_of bytes) ≤ length bytes

head_begins : (bytes : List ℕ) (rest : Option KernelFault) → HasHead bytes →
    option_or (fault_if (not (has_magic bytes)) BadMagic) (option_or (fault_if (nat_lt (length bytes) (head_len (format_of bytes))) WrongLength) rest) ≡ rest
head_begins bytes rest head =
    passes (not (has_magic bytes)) BadMagic (option_or (fault_if (nat_lt (length bytes) (head_len (format_of bytes))) WrongLength) rest) (ap not head.magic)
    ∙ passes (nat_lt (length bytes) (head_len (format_of bytes))) WrongLength rest (le-ltb (length bytes) (head_len (format_of bytes)) head.long)

pub count_is_bad : (bytes : List ℕ) → has_magic bytes ≡ true → head_len (format_of bytes) ≤ length bytes →
    (count_of bytes ≡ 0) ⊎ (16 < count_of bytes) → head_fault bytes ≡ Some BadCount
unfolding head_fault first_some
count_is_bad bytes magic long wrong =
    head_begins bytes _ (record { magic = magic; long = long })
    ∙ fails (count_of bytes == 0 || nat_lt 16 (count_of bytes)) BadCount _ (count_fails (count_of bytes) wrong)

pub reach_is_bad : (bytes : List ℕ) → has_magic bytes ≡ true → head_len (format_of bytes) ≤ length bytes →
    1 ≤ count_of bytes → count_of bytes ≤ 16 → 64 < reach_of bytes → head_fault bytes ≡ Some BadReach
unfolding head_fault first_some
reach_is_bad bytes magic long some few far =
    head_begins bytes _ (record { magic = magic; long = long })
    ∙ passes (count_of bytes == 0 || nat_lt 16 (count_of bytes)) BadCount _ (count_passes (count_of bytes) some few)
    ∙ fails (nat_lt 64 (reach_of bytes)) BadReach _ (lt-ltb 64 (reach_of bytes) far)

pub length_is_bad : (bytes : List ℕ) → has_magic bytes ≡ true → head_len (format_of bytes) ≤ length bytes →
    1 ≤ count_of bytes → count_of bytes ≤ 16 → reach_of bytes ≤ 64 → (length bytes ≡ file_len bytes → ⊥) → head_fault bytes ≡ Some WrongLength
unfolding head_fault first_some
length_is_bad bytes magic long some few near other =
    head_begins bytes _ (record { magic = magic; long = long })
    ∙ passes (count_of bytes == 0 || nat_lt 16 (count_of bytes)) BadCount _ (count_passes (count_of bytes) some few)
    ∙ passes (nat_lt 64 (reach_of bytes)) BadReach _ (le-ltb 64 (reach_of bytes) near)
    ∙ fails (not (length bytes == file_len bytes)) WrongLength _ (ap not (ne_eqb (length bytes) (file_len bytes) other))

-- a head that fits has no fault
FitsHead-no_fault : (bytes : List ℕ) → FitsHead bytes → head_fault bytes ≡ None
unfolding head_fault first_some
FitsHead-no_fault bytes fits =
    head_begins bytes _ (record { magic = fits.magic; long = omega (arith, fits.length_is) })
    ∙ passes (count_of bytes == 0 || nat_lt 16 (count_of bytes)) BadCount _ (count_passes (count_of bytes) fits.some fits.few)
    ∙ passes (nat_lt 64 (reach_of bytes)) BadReach _ (le-ltb 64 (reach_of bytes) fits.near)
    ∙ passes (not (length bytes == file_len bytes)) WrongLength None (ap not (eq-eqb (length bytes) (file_len bytes) fits.length_is))

-- ---- the transmissions

pub covered_is_bad : (format : Format) (bytes : List ℕ) (fault : KernelFault) → format ≡ TwoTransmissions →
    option_map BadTransmission (bad_part 8 bytes 8 2) ≡ Some fault → transmission_fault format bytes ≡ Some fault
covered_is_bad format bytes fault second found =
    rw second (ap (option_map BadTransmission) (bad_part-add 8 bytes 8 2 2) ∙ map_first BadTransmission (bad_part 8 bytes 8 2) (bad_part 8 bytes 12 2) fault found)

pub uncovered_is_bad : (format : Format) (bytes : List ℕ) (fault : KernelFault) → format ≡ TwoTransmissions →
    bad_part 8 bytes 8 2 ≡ None → option_map BadTransmission (bad_part 8 bytes 12 2) ≡ Some fault → transmission_fault format bytes ≡ Some fault
uncovered_is_bad format bytes fault second none found =
    rw second (ap (option_map BadTransmission) (bad_part-add 8 bytes 8 2 2 ∙ ap (λ a. option_or a (bad_part 8 bytes 12 2)) none) ∙ found)

pub transmissions_pass : (format : Format) (bytes : List ℕ) → format ≡ TwoTransmissions →
    bad_part 8 bytes 8 2 ≡ None → bad_part 8 bytes 12 2 ≡ None → transmission_fault format bytes ≡ None
transmissions_pass format bytes second none also =
    rw second (ap (option_map BadTransmission) (bad_part-add 8 bytes 8 2 2 ∙ ap (λ a. option_or a (bad_part 8 bytes 12 2)) none ∙ also))

-- ---- the whole

found_first : {X : Type 0} (a rest : Option X) (x : X) → a ≡ Some x → option_or a rest ≡ Some x
found_first a rest x e = ap (λ b. option_or b rest) e

found_later : {X : Type 0} (a rest : Option X) → a ≡ None → option_or a rest ≡ rest
found_later a rest e = ap (λ b. option_or b rest) e

pub kernel_fault-head : (bytes : List ℕ) (fault : KernelFault) → head_fault bytes ≡ Some fault → kernel_fault bytes ≡ Some fault
unfolding kernel_fault first_some
kernel_fault-head bytes fault found = found_first (head_fault bytes) _ fault found

pub kernel_fault-transmission : (bytes : List ℕ) (fault : KernelFault) → FitsHead bytes → transmission_fault (format_of bytes) bytes ≡ Some fault → kernel_fault bytes ≡ Some fault
unfolding kernel_fault first_some
kernel_fault-transmission bytes fault fits found =
    found_later (head_fault bytes) _ (FitsHead-no_fault bytes fits) ∙ found_first (transmission_fault (format_of bytes) bytes) _ fault found

kernel_fault-kernels : (bytes : List ℕ) (fault : KernelFault) → FitsHead bytes → transmission_fault (format_of bytes) bytes ≡ None →
    kernels_fault bytes (count_of bytes) ≡ Some fault → kernel_fault bytes ≡ Some fault
unfolding kernel_fault first_some
kernel_fault-kernels bytes fault fits lets found =
    found_later (head_fault bytes) _ (FitsHead-no_fault bytes fits)
    ∙ found_later (transmission_fault (format_of bytes) bytes) _ lets
    ∙ found_first (kernels_fault bytes (count_of bytes)) _ fault found

pub kernel_fault-found : (bytes : List ℕ) (fault : KernelFault) → FitsHead bytes → transmission_fault (format_of bytes) bytes ≡ None →
    IsFound (kernels_fault bytes (count_of bytes)) fault → IsFound (kernel_fault bytes) fault
kernel_fault-found bytes fault fits lets (inl e) = inl e
kernel_fault-found bytes fault fits lets (inr e) = inr (kernel_fault-kernels bytes fault fits lets e)

-- before the sum of the weights nothing is wrong
kernel_fault-last : (bytes : List ℕ) → FitsHead bytes → transmission_fault (format_of bytes) bytes ≡ None → kernels_fault bytes (count_of bytes) ≡ None →
    kernel_fault bytes ≡ option_or (fault_if (nat_lt 2048 (sum_by (λ k. k.weight) (kernels_of bytes))) WeightSum) None
unfolding kernel_fault first_some
kernel_fault-last bytes fits lets each =
    found_later (head_fault bytes) _ (FitsHead-no_fault bytes fits)
    ∙ found_later (transmission_fault (format_of bytes) bytes) _ lets
    ∙ found_later (kernels_fault bytes (count_of bytes)) _ each

pub kernel_fault-weights : (bytes : List ℕ) → FitsHead bytes → transmission_fault (format_of bytes) bytes ≡ None → kernels_fault bytes (count_of bytes) ≡ None →
    2048 < sum_by (λ k. k.weight) (kernels_of bytes) → kernel_fault bytes ≡ Some WeightSum
kernel_fault-weights bytes fits lets each heavy =
    kernel_fault-last bytes fits lets each ∙ fails _ WeightSum None (lt-ltb 2048 (sum_by (λ k. k.weight) (kernels_of bytes)) heavy)

pub kernel_fault-none : (bytes : List ℕ) → FitsHead bytes → transmission_fault (format_of bytes) bytes ≡ None → kernels_fault bytes (count_of bytes) ≡ None →
    sum_by (λ k. k.weight) (kernels_of bytes) ≤ 2048 → kernel_fault bytes ≡ None
kernel_fault-none bytes fits lets each light =
    kernel_fault-last bytes fits lets each ∙ passes _ WeightSum None (le-ltb 2048 (sum_by (λ k. k.weight) (kernels_of bytes)) light)

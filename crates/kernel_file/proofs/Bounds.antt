-- A file without a fault spells a set that keeps the bounds.
use Rattle.std.proofs.Common.{◌≡◌, ℕ, ◌+◌, ◌*◌, ◌<◌, ◌≤◌, Bool, true, false, Option, Some, None, List, [], length, map, refl, sym, ap, ◌∙◌, subst, arith, inl, inr}
use Rattle.std.specs.Prelude.{All, unsigned_abs, ◌==◌, sum_by}
use Rattle.std.specs.List.{range_with_len}
use Rattle.std.specs.Option.{option_map}
use Rattle.std.proofs.lemmas.Bool.{eqb-false}
use Rattle.std.proofs.lemmas.List.Elements.{All-from_get_or}
use Rattle.std.proofs.lemmas.List.FromFn.{get_or-map-range_with_len, length-map-range_with_len}
use Rattle.opc_base.specs.declared.kernels.Kernel.{Kernel}
use Rattle.opc_base.specs.declared.kernels.KernelSet.{KernelSet}
use Rattle.opc_base.specs.Optics.{nothing, IsEntryWithin, IsKernelWithin, AreKernelsWithin, KeepsBounds}
use Rattle.kernel_file.specs.declared.fault.KernelFault.{KernelFault}
use Rattle.kernel_file.specs.declared.fault.KernelFault.TheVariants.{BadWeight, BadEntry, BadTransmission}
use Rattle.kernel_file.specs.declared.format.Format.{Format}
use Rattle.kernel_file.specs.declared.format.Format.TheVariants.{OneTransmission, TwoTransmissions}
use Rattle.kernel_file.specs.Numbers.{number_at, signed_at, complex_at}
use Rattle.kernel_file.specs.KernelFile.{format_of, part_limit, count_of, reach_of, covered_of, uncovered_of, entry_count, kernel_place, entries_at, kernel_at, kernels_of, kernel_set}
use Rattle.kernel_file.specs.Faults.{fault_if, bad_part, transmission_fault, kernel_fault_at, kernels_fault}
use Rattle.kernel_file.specs.declared.head.Head.{Head}
use Rattle.kernel_file.specs.Heads.{FitsHead, head_of}
use Rattle.kernel_file.proofs.Firsts.{neither, bad_part-add, bad_part-none_at, kernels_fault-none_at}

map_none : {X Y : Type 0} (g : X → Y) (a : Option X) → option_map g a ≡ None → a ≡ None
map_none g None e = refl
map_none g (Some x) e = cc

fault_if-none : (wrong : Bool) (fault : KernelFault) → fault_if wrong fault ≡ None → wrong ≡ false
fault_if-none false fault e = refl
fault_if-none true fault e = cc

some_weight : (n : ℕ) → (n ≡ 0 → ⊥) → 1 ≤ n
some_weight n other = omega (arith, other)

-- no part of a complex number is out of range
complex_within : (limit : ℕ) (bytes : List ℕ) (place : ℕ) → bad_part limit bytes place 2 ≡ None → IsEntryWithin limit (complex_at bytes place)
complex_within limit bytes place none =
    let second = bad_part-none_at limit bytes place 2 1 (omega arith) none in
    let first = bad_part-none_at limit bytes place 2 0 (omega arith) none in
    let here : place + 2 * 0 ≡ place = omega arith in
    (subst (λ p. unsigned_abs (signed_at bytes p) ≤ limit) here first, second)

entry_within : (limit : ℕ) (bytes : List ℕ) (place count k : ℕ) → k < count → bad_part limit bytes place (2 * count) ≡ None →
    IsEntryWithin limit (complex_at bytes (place + 4 * k))
entry_within limit bytes place count k below none =
    let first = bad_part-none_at limit bytes place (2 * count) (2 * k) (omega arith) none in
    let second = bad_part-none_at limit bytes place (2 * count) (2 * k + 1) (omega arith) none in
    let here : place + 2 * (2 * k) ≡ place + 4 * k = omega arith in
    let there : place + 2 * (2 * k + 1) ≡ place + 4 * k + 2 = omega arith in
    (subst (λ p. unsigned_abs (signed_at bytes p) ≤ limit) here first, subst (λ p. unsigned_abs (signed_at bytes p) ≤ limit) there second)

entries_within : (limit : ℕ) (bytes : List ℕ) (place count : ℕ) → bad_part limit bytes place (2 * count) ≡ None →
    All (IsEntryWithin limit) (entries_at bytes place count)
unfolding entries_at
entries_within limit bytes place count none =
    let entry = λ (k : ℕ). complex_at bytes (place + 4 * k) in
    All-from_get_or (IsEntryWithin limit) (map entry (range_with_len 0 count)) nothing
    (λ k h. let below : k < count = omega (arith, length-map-range_with_len entry 0 count) in
    subst (IsEntryWithin limit) (sym (get_or-map-range_with_len entry 0 count k k nothing below (omega arith))) (entry_within limit bytes place count k below none))

length-entries_at : (bytes : List ℕ) (place count : ℕ) → length (entries_at bytes place count) ≡ count
unfolding entries_at
length-entries_at bytes place count = length-map-range_with_len (λ k. complex_at bytes (place + 4 * k)) 0 count

kernel_within : (bytes : List ℕ) (j : ℕ) → kernel_fault_at bytes j ≡ None →
    IsKernelWithin (reach_of bytes) (part_limit (format_of bytes)) (kernel_at bytes j)
kernel_within bytes j none =
    let weight = number_at bytes (kernel_place bytes j) in
    let parts = bad_part (part_limit (format_of bytes)) bytes (kernel_place bytes j + 2) (2 * entry_count (reach_of bytes)) in
    let both = neither (fault_if (weight == 0) (BadWeight j)) (option_map BadEntry parts) none in
    record {
      weighs = some_weight weight (eqb-false weight 0 (fault_if-none (weight == 0) (BadWeight j) both.0));
      has_all_rows = length-entries_at bytes (kernel_place bytes j + 2) (entry_count (reach_of bytes));
      entries_within = entries_within (part_limit (format_of bytes)) bytes (kernel_place bytes j + 2) (entry_count (reach_of bytes)) (map_none BadEntry parts both.1);
    }

pub length-kernels_of : (bytes : List ℕ) → length (kernels_of bytes) ≡ count_of bytes
unfolding kernels_of
length-kernels_of bytes = length-map-range_with_len (kernel_at bytes) 0 (count_of bytes)

kernels_within : (bytes : List ℕ) → kernels_fault bytes (count_of bytes) ≡ None →
    All (IsKernelWithin (reach_of bytes) (part_limit (format_of bytes))) (kernels_of bytes)
unfolding kernels_of
kernels_within bytes none =
    let P = IsKernelWithin (reach_of bytes) (part_limit (format_of bytes)) in
    let d : Kernel = record { weight = 0; entries = [] } in
    All-from_get_or P (map (kernel_at bytes) (range_with_len 0 (count_of bytes))) d
    (λ j h. let below : j < count_of bytes = omega (arith, length-map-range_with_len (kernel_at bytes) 0 (count_of bytes)) in
    subst P (sym (get_or-map-range_with_len (kernel_at bytes) 0 (count_of bytes) j j d below (omega arith)))
    (kernel_within bytes j (kernels_fault-none_at bytes (count_of bytes) j below none)))

-- the kernels, at the limit of the file's format
AreKernelsWithin-kernel_set : (bytes : List ℕ) → FitsHead bytes → kernels_fault bytes (count_of bytes) ≡ None →
    sum_by (λ k. k.weight) (kernels_of bytes) ≤ 2048 → AreKernelsWithin (part_limit (format_of bytes)) (kernel_set bytes)
AreKernelsWithin-kernel_set bytes fits none light =
    let count = length-kernels_of bytes in
    record {
      some = omega (arith, count, fits.some);
      few = omega (arith, count, fits.few);
      near = fits.near;
      kernels_within = kernels_within bytes none;
      weights = light;
    }

bounds_in : (format : Format) (bytes : List ℕ) → transmission_fault format bytes ≡ None → AreKernelsWithin (part_limit format) (kernel_set bytes) →
    covered_of format bytes ≡ (kernel_set bytes).covered → uncovered_of format bytes ≡ (kernel_set bytes).uncovered → KeepsBounds (kernel_set bytes)
bounds_in OneTransmission bytes lets within covered uncovered =
    inl (record { covered = sym covered; uncovered = sym uncovered; kernels = within })
bounds_in TwoTransmissions bytes lets within covered uncovered =
    let none = map_none BadTransmission (bad_part 8 bytes 8 4) lets in
    let both = neither (bad_part 8 bytes 8 2) (bad_part 8 bytes 12 2) (sym (bad_part-add 8 bytes 8 2 2) ∙ none) in
    inr (record {
      covered = subst (IsEntryWithin 8) covered (complex_within 8 bytes 8 both.0);
      uncovered = subst (IsEntryWithin 8) uncovered (complex_within 8 bytes 12 both.1);
      kernels = within;
    })

-- the set that a file without a fault spells keeps the bounds
pub KeepsBounds-kernel_set : (bytes : List ℕ) → FitsHead bytes → transmission_fault (format_of bytes) bytes ≡ None → kernels_fault bytes (count_of bytes) ≡ None →
    sum_by (λ k. k.weight) (kernels_of bytes) ≤ 2048 → KeepsBounds (kernel_set bytes)
KeepsBounds-kernel_set bytes fits lets none light =
    bounds_in (format_of bytes) bytes lets (AreKernelsWithin-kernel_set bytes fits none light) refl refl

-- the set of a head and kernels
abbrev pub set_with : Head → List Kernel → KernelSet
set_with head kernels = record { reach = head.reach; covered = head.covered; uncovered = head.uncovered; kernels = kernels }

pub set_with-file : (bytes : List ℕ) (head : Head) (kernels : List Kernel) → head ≡ head_of bytes → kernels ≡ kernels_of bytes → set_with head kernels ≡ kernel_set bytes
set_with-file bytes head kernels e f = ap (λ h. set_with h kernels) e ∙ ap (set_with (head_of bytes)) f

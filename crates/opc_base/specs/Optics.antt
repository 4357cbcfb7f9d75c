-- The image of a mask under a sum of coherent systems (Cobb 1998): the plain pixel sum.
use Rattle.std.specs.Prelude.{◌≡◌, ℕ, ◌+◌, ◌*◌, ◌≤◌, ℤ, pos, ◌+ℤ◌, ◌-ℤ◌, ◌*ℤ◌, neg_ℤ, int_le, unsigned_abs, slice_get, Option, Some, None, Bool, ◌&&◌, ◌⊎◌, List, length, All, sum_by, if◌then◌else◌}
use Rattle.opc_base.specs.Sums.{sum_window, sum_each}
use Rattle.opc_base.specs.Plane.{PixelSet}
use Rattle.opc_base.specs.declared.kernels.Entry.{Entry}
use Rattle.opc_base.specs.declared.kernels.Kernel.{Kernel}
use Rattle.opc_base.specs.declared.kernels.KernelSet.{KernelSet}

-- ---- kernels

-- u lies from -r to r
abbrev pub is_within : ℕ → ℤ → Bool
is_within r u = int_le (neg_ℤ (pos r)) u && int_le u (pos r)

-- the place of k(u, v) in the list of entries: rows v from -r to r, in each u from -r to r
abbrev pub place_of : ℕ → ℤ → ℤ → ℕ
place_of r u v = unsigned_abs (v +ℤ pos r) * (2 * r + 1) + unsigned_abs (u +ℤ pos r)

abbrev pub nothing : Entry
nothing = record { re = pos 0; im = pos 0 }

abbrev pub entry_or_nothing : Option Entry → Entry
entry_or_nothing (Some e) = e
entry_or_nothing None = nothing

-- k(u, v) of a kernel with these entries, for u and v from -r to r
abbrev pub entry_at : ℕ → List Entry → ℤ → ℤ → Entry
entry_at r entries u v = entry_or_nothing (slice_get entries (place_of r u v))

-- ---- amplitudes

-- the real and the imaginary part of the product of two complex numbers
abbrev pub product_re : Entry → Entry → ℤ
product_re a b = a.re *ℤ b.re -ℤ a.im *ℤ b.im

abbrev pub product_im : Entry → Entry → ℤ
product_im a b = a.re *ℤ b.im +ℤ a.im *ℤ b.re

-- what the mask lets through at the pixel (x, y): one number where the pixel is covered, and another elsewhere
abbrev pub passes : KernelSet → PixelSet → ℤ → ℤ → Entry
passes set pixels x y = if pixels x y then set.covered else set.uncovered

-- the amplitude of a kernel at the pixel (x, y): the sum over all u and v from -r to r of k(u, v) times what the mask
-- lets through at (x - u, y - v)
abbrev pub amplitude_re : KernelSet → Kernel → PixelSet → ℤ → ℤ → ℤ
amplitude_re set kernel pixels x y =
    sum_window set.reach (λ u v. product_re (entry_at set.reach kernel.entries u v) (passes set pixels (x -ℤ u) (y -ℤ v)))

abbrev pub amplitude_im : KernelSet → Kernel → PixelSet → ℤ → ℤ → ℤ
amplitude_im set kernel pixels x y =
    sum_window set.reach (λ u v. product_im (entry_at set.reach kernel.entries u v) (passes set pixels (x -ℤ u) (y -ℤ v)))

-- ---- intensities

abbrev pub weighted_power : ℕ → ℤ → ℤ → ℤ
weighted_power weight re im = pos weight *ℤ (re *ℤ re +ℤ im *ℤ im)

-- the intensity at the pixel (x, y): the sum over the kernels of the weight times the power of the amplitude
abbrev pub intensity : KernelSet → PixelSet → ℤ → ℤ → ℤ
intensity set pixels x y =
    sum_each (λ k. weighted_power k.weight (amplitude_re set k pixels x y) (amplitude_im set k pixels x y)) set.kernels

-- ---- the bounds of a kernel file

-- both parts are at most this far from 0
abbrev pub IsEntryWithin : ℕ → Entry → Type 0
IsEntryWithin most e = (unsigned_abs e.re ≤ most) × (unsigned_abs e.im ≤ most)

-- a weight of at least 1, and an entry for each u and v from -r to r
pub record IsKernelWithin (reach most : ℕ) (kernel : Kernel) : Type 0 where
  pub weighs : 1 ≤ kernel.weight
  pub has_all_rows : length kernel.entries ≡ (2 * reach + 1) * (2 * reach + 1)
  pub entries_within : All (IsEntryWithin most) kernel.entries

-- 1 to 16 kernels of reach 0 to 64 with weights that sum to at most 2048
pub record AreKernelsWithin (most : ℕ) (set : KernelSet) : Type 0 where
  pub some : 1 ≤ length set.kernels
  pub few : length set.kernels ≤ 16
  pub near : set.reach ≤ 64
  pub kernels_within : All (IsKernelWithin set.reach most) set.kernels
  pub weights : sum_by (λ k. k.weight) set.kernels ≤ 2048

-- a mask of one transmission: covered pixels let all through, others nothing, and entries have parts up to 2048
pub record KeepsOneTransmission (set : KernelSet) : Type 0 where
  pub covered : set.covered ≡ record { re = pos 1; im = pos 0 }
  pub uncovered : set.uncovered ≡ nothing
  pub kernels : AreKernelsWithin 2048 set

-- a mask of two transmissions, each with parts up to 8, and entries have parts up to 128
pub record KeepsTwoTransmissions (set : KernelSet) : Type 0 where
  pub covered : IsEntryWithin 8 set.covered
  pub uncovered : IsEntryWithin 8 set.uncovered
  pub kernels : AreKernelsWithin 128 set

-- the set keeps the bounds of one of the two formats of a kernel file
abbrev pub KeepsBounds : KernelSet → Type 0
KeepsBounds set = KeepsOneTransmission set ⊎ KeepsTwoTransmissions set

-- Entries of kernels, what a mask lets through, and how far amplitudes reach.
use Rattle.std.proofs.Common.{◌≡◌, ℕ, ◌+◌, ◌*◌, ◌≤◌, ℤ, pos, ◌+ℤ◌, ◌-ℤ◌, ◌*ℤ◌, unsigned_abs, List, Option, Some, None, slice_get, Bool, if◌then◌else◌, All, length, refl, subst, arith, ⊎_elim, mul-le-mul, true, false, Contains, sum_by, ap, ap₂, sym, get_or, ◌<◌}
use Rattle.std.proofs.lemmas.Int.{ints, unsigned_abs-mul}
use Rattle.std.proofs.lemmas.Option.{get_or_from_slice_get, slice_get-get_or, slice_get_within}
use Rattle.opc_base.specs.Blocks.{place_at}
use Rattle.opc_base.specs.Optics.{AreKernelsWithin, IsEntryWithin, IsKernelWithin, KeepsBounds, KeepsOneTransmission, KeepsTwoTransmissions, entry_at, entry_or_nothing, nothing, passes, place_of, product_im, product_re}
use Rattle.opc_base.specs.Plane.{PixelSet}
use Rattle.opc_base.specs.declared.kernels.Entry.{Entry}
use Rattle.opc_base.specs.declared.kernels.Kernel.{Kernel}
use Rattle.opc_base.specs.declared.kernels.KernelSet.{KernelSet}

-- each entry is small where the listed ones are
pub entry_at-within : (r : ℕ) (entries : List Entry) (most : ℕ) (u v : ℤ) → All (IsEntryWithin most) entries → IsEntryWithin most (entry_at r entries u v)
entry_at-within r entries most u v small = of_read (slice_get entries (place_of r u v)) (λ e is.
    subst (IsEntryWithin most) (get_or_from_slice_get entries (place_of r u v) e e is) (small (place_of r u v) e (slice_get_within entries (place_of r u v) e is)))
  where
    of_read : (o : Option Entry) → ((e : Entry) → o ≡ Some e → IsEntryWithin most e) → IsEntryWithin most (entry_or_nothing o)
    of_read None each = (omega arith, omega arith)
    of_read (Some e) each = each e refl

-- what the mask lets through is small where both transmissions are
pub passes-within : (set : KernelSet) (pixels : PixelSet) (x y : ℤ) (most : ℕ) → IsEntryWithin most set.covered → IsEntryWithin most set.uncovered →
    IsEntryWithin most (passes set pixels x y)
passes-within set pixels x y most covered uncovered = either (pixels x y) set.covered set.uncovered covered uncovered
  where
    either : (b : Bool) (s t : Entry) → IsEntryWithin most s → IsEntryWithin most t → IsEntryWithin most (if b then s else t)
    either b s t small_s small_t = grind arith

-- both parts of the product of an entry and a transmission are at most this far from 0
abbrev pub IsProductWithin : ℕ → Entry → Entry → Type 0
IsProductWithin most k t = (unsigned_abs (product_re k t) ≤ most) × (unsigned_abs (product_im k t) ≤ most)

-- ---- products of an entry and a transmission
product-small : (a b : ℤ) (m n : ℕ) → unsigned_abs a ≤ m → unsigned_abs b ≤ n → unsigned_abs (a *ℤ b) ≤ m * n
product-small a b m n small_a small_b = rw (unsigned_abs-mul a b) (mul-le-mul small_a small_b)

-- both parts of a product are small
pub product-within : (k t : Entry) (m n : ℕ) → IsEntryWithin m k → IsEntryWithin n t → IsProductWithin (2 * (m * n)) k t
product-within k t m n small_k small_t = (
  difference (k.re *ℤ t.re) (k.im *ℤ t.im) (product-small k.re t.re m n small_k.0 small_t.0) (product-small k.im t.im m n small_k.1 small_t.1),
  sum (k.re *ℤ t.im) (k.im *ℤ t.re) (product-small k.re t.im m n small_k.0 small_t.1) (product-small k.im t.re m n small_k.1 small_t.0),
)
  where
    difference : (a b : ℤ) → unsigned_abs a ≤ m * n → unsigned_abs b ≤ m * n → unsigned_abs (a -ℤ b) ≤ 2 * (m * n)
    difference a b small_a small_b = omega (arith, ints)

    sum : (a b : ℤ) → unsigned_abs a ≤ m * n → unsigned_abs b ≤ m * n → unsigned_abs (a +ℤ b) ≤ 2 * (m * n)
    sum a b small_a small_b = omega (arith, ints)

-- a product with one or with nothing is as small as the entry
pub product-one : (k t : Entry) → IsEntryWithin 2048 k → t ≡ record { re = pos 1; im = pos 0 } → IsProductWithin 2048 k t
product-one k t small is = rw is (omega (arith, ints, small.0, small.1), omega (arith, ints, small.0, small.1))

pub product-nothing : (k t : Entry) → t ≡ nothing → IsProductWithin 2048 k t
product-nothing k t is = rw is (omega (arith, ints), omega (arith, ints))

-- ---- kernel sets that keep the bounds of a kernel file
pub reach_within : (set : KernelSet) → KeepsBounds set → set.reach ≤ 64
reach_within set bounds = ⊎_elim (λ one. one.kernels.near) (λ two. two.kernels.near) bounds

pub weights_within : (set : KernelSet) → KeepsBounds set → sum_by (λ (k : Kernel). k.weight) set.kernels ≤ 2048
weights_within set bounds = ⊎_elim (λ one. one.kernels.weights) (λ two. two.kernels.weights) bounds

kernel_within : (set : KernelSet) (most : ℕ) (kernel : Kernel) → AreKernelsWithin most set → Contains set.kernels kernel → IsKernelWithin set.reach most kernel
kernel_within set most kernel all (i, within, is) = subst (IsKernelWithin set.reach most) is (all.kernels_within i kernel within)

-- each entry of a kernel of the set is small
pub entry_of_kernel-within : (set : KernelSet) (most : ℕ) (kernel : Kernel) (u v : ℤ) → AreKernelsWithin most set → Contains set.kernels kernel →
    IsEntryWithin most (entry_at set.reach kernel.entries u v)
entry_of_kernel-within set most kernel u v all among =
    entry_at-within set.reach kernel.entries most u v (kernel_within set most kernel all among).entries_within

pub rows_within : (set : KernelSet) (kernel : Kernel) → KeepsBounds set → Contains set.kernels kernel →
    length kernel.entries ≡ (2 * set.reach + 1) * (2 * set.reach + 1)
rows_within set kernel bounds among =
    ⊎_elim (λ one. (kernel_within set 2048 kernel one.kernels among).has_all_rows) (λ two. (kernel_within set 128 kernel two.kernels among).has_all_rows) bounds

-- what a place of the kernel gives is at most 2048 from 0
pub product_within : (set : KernelSet) (kernel : Kernel) (pixels : PixelSet) (u v x y : ℤ) → KeepsBounds set → Contains set.kernels kernel →
    IsProductWithin 2048 (entry_at set.reach kernel.entries u v) (passes set pixels x y)
product_within set kernel pixels u v x y bounds among = ⊎_elim one two bounds
  where
    one : KeepsOneTransmission set → IsProductWithin 2048 (entry_at set.reach kernel.entries u v) (passes set pixels x y)
    one keeps = either (pixels x y) set.covered set.uncovered
        (product-one (entry_at set.reach kernel.entries u v) set.covered (entry_at-within set.reach kernel.entries 2048 u v (kernel_within set 2048 kernel keeps.kernels among).entries_within) keeps.covered)
        (product-nothing (entry_at set.reach kernel.entries u v) set.uncovered keeps.uncovered)
      where
        either : (b : Bool) (s t : Entry) → IsProductWithin 2048 (entry_at set.reach kernel.entries u v) s → IsProductWithin 2048 (entry_at set.reach kernel.entries u v) t →
            IsProductWithin 2048 (entry_at set.reach kernel.entries u v) (if b then s else t)
        either true s t small_s small_t = small_s
        either false s t small_s small_t = small_t

    two : KeepsTwoTransmissions set → IsProductWithin 2048 (entry_at set.reach kernel.entries u v) (passes set pixels x y)
    two keeps = product-within (entry_at set.reach kernel.entries u v) (passes set pixels x y) 128 8
        (entry_at-within set.reach kernel.entries 128 u v (kernel_within set 128 kernel keeps.kernels among).entries_within)
        (passes-within set pixels x y 8 keeps.covered keeps.uncovered)

-- an entry by its row and column, counted from 0
pub entry_at_place : (r : ℕ) (entries : List Entry) (column row : ℕ) → row * (2 * r + 1) + column < length entries →
    get_or entries (row * (2 * r + 1) + column) nothing ≡ entry_at r entries (place_at r column) (place_at r row)
entry_at_place r entries column row within =
    sym (rw place (ap entry_or_nothing (slice_get-get_or entries (row * (2 * r + 1) + column) nothing within)))
  where
    place : place_of r (place_at r column) (place_at r row) ≡ row * (2 * r + 1) + column
    place = ap₂ (λ m n. m * (2 * r + 1) + n) (from_left r row) (from_left r column)
      where
        from_left : (r n : ℕ) → unsigned_abs (place_at r n +ℤ pos r) ≡ n
        from_left r n = omega (arith, ints)

-- What the places and the rows of a kernel add to an amplitude.
use Rattle.std.specs.Prelude.{ℕ, ◌≤◌, ℤ, ◌-ℤ◌, unsigned_abs}
use Rattle.opc_base.specs.Sums.{sum_within}
use Rattle.opc_base.specs.Plane.{PixelSet}
use Rattle.opc_base.specs.Optics.{entry_at, passes, product_im, product_re}
use Rattle.opc_base.specs.declared.kernels.Kernel.{Kernel}
use Rattle.opc_base.specs.declared.kernels.KernelSet.{KernelSet}

-- both parts of a complex number are at most this far from 0
abbrev pub ArePartsWithin : ℕ → ℤ → ℤ → Type 0
ArePartsWithin most re im = (unsigned_abs re ≤ most) × (unsigned_abs im ≤ most)

-- what the kernel's place (u, v) gives at the pixel (x, y)
abbrev pub place_re : KernelSet → Kernel → PixelSet → ℤ → ℤ → ℤ → ℤ → ℤ
place_re set kernel pixels x y u v = product_re (entry_at set.reach kernel.entries u v) (passes set pixels (x -ℤ u) (y -ℤ v))

abbrev pub place_im : KernelSet → Kernel → PixelSet → ℤ → ℤ → ℤ → ℤ → ℤ
place_im set kernel pixels x y u v = product_im (entry_at set.reach kernel.entries u v) (passes set pixels (x -ℤ u) (y -ℤ v))

-- what the kernel's row v gives
abbrev pub row_re : KernelSet → Kernel → PixelSet → ℤ → ℤ → ℤ → ℤ
row_re set kernel pixels x y v = sum_within set.reach (λ u. place_re set kernel pixels x y u v)

abbrev pub row_im : KernelSet → Kernel → PixelSet → ℤ → ℤ → ℤ → ℤ
row_im set kernel pixels x y v = sum_within set.reach (λ u. place_im set kernel pixels x y u v)

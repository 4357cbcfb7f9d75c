-- The lanes of a set of kernels: two for each kernel, its real part and then its imaginary part.
use Rattle.std.specs.Prelude.{◌≡◌, ℕ, ◌*◌, ◌/◌, ◌%◌, ◌<◌, ◌≤◌, ℤ, pos, ◌-ℤ◌, ◌*ℤ◌, unsigned_abs, nat_eq, List, [], length, map, if◌then◌else◌, Option, Some, None, slice_get, slice_index_or}
use Rattle.opc_base.specs.Sums.{sum_window, sum_each}
use Rattle.opc_base.specs.Plane.{PixelSet, indicator, rect_cover}
use Rattle.opc_base.specs.Corners.{quadrant_sum}
use Rattle.opc_base.specs.Optics.{entry_at, passes, product_im, product_re}
use Rattle.opc_base.specs.Blocks.{block, seen_sum}
use Rattle.opc_base.specs.declared.plane.Corner.{Corner}
use Rattle.opc_base.specs.declared.plane.Rect.{Rect}
use Rattle.opc_base.specs.declared.kernels.Entry.{Entry}
use Rattle.opc_base.specs.declared.kernels.Kernel.{Kernel}
use Rattle.opc_base.specs.declared.kernels.KernelSet.{KernelSet}

abbrev pub lane_count : KernelSet → ℕ
lane_count set = 2 * length set.kernels

-- ---- what a lane sums

abbrev pub entries_or_none : Option Kernel → List Entry
entries_or_none (Some kernel) = kernel.entries
entries_or_none None = []

-- the entries of a lane's kernel
abbrev pub entries_of_lane : KernelSet → ℕ → List Entry
entries_of_lane set lane = entries_or_none (slice_get set.kernels (lane / 2))

-- the real part of a product in an even lane, and the imaginary part in an odd one
abbrev pub product_of_lane : ℕ → Entry → Entry → ℤ
product_of_lane lane a b = if nat_eq (lane % 2) 0 then product_re a b else product_im a b

-- a lane's part of k(u, v) times a transmission
abbrev pub passed_in_lane : KernelSet → ℕ → Entry → ℤ → ℤ → ℤ
passed_in_lane set lane passed u v = product_of_lane lane (entry_at set.reach (entries_of_lane set lane) u v) passed

-- what a covered pixel lets through beyond any other
abbrev pub contrast : KernelSet → Entry
contrast set = record { re = set.covered.re -ℤ set.uncovered.re; im = set.covered.im -ℤ set.uncovered.im }

-- a lane's part of k(u, v) times the contrast
abbrev pub lane_entry : KernelSet → ℕ → ℤ → ℤ → ℤ
lane_entry set lane = passed_in_lane set lane (contrast set)

-- ---- sums of a lane

-- the amplitude of the lane's kernel at the pixel (x, y), its real or its imaginary part
abbrev pub amplitude_of_lane : KernelSet → PixelSet → ℤ → ℤ → ℕ → ℤ
amplitude_of_lane set pixels x y lane = sum_window set.reach (λ u v. passed_in_lane set lane (passes set pixels (x -ℤ u) (y -ℤ v)) u v)

-- the amplitude where no pixel is covered
abbrev pub ground_of_lane : KernelSet → ℕ → ℤ
ground_of_lane set lane = sum_window set.reach (passed_in_lane set lane set.uncovered)

-- what the pixels of a set add to the ground, as the pixel (x, y) sees them
abbrev pub part_of_lane : KernelSet → PixelSet → ℤ → ℤ → ℕ → ℤ
part_of_lane set pixels x y lane = seen_sum set.reach (lane_entry set lane) pixels x y

-- the sum over all u at most dx and v at most dy
abbrev pub block_of_lane : KernelSet → ℕ → ℤ → ℤ → ℤ
block_of_lane set lane = block set.reach (lane_entry set lane)

-- what a rectangle that is swept with a sign adds to a lane, as the pixel (x, y) sees it
abbrev pub rect_change : KernelSet → Rect → ℤ → ℤ → ℤ → ℕ → ℤ
rect_change set rect sign x y lane = sign *ℤ part_of_lane set (rect_cover rect) x y lane

-- the sum of the signs of the corners times the blocks at them, as the pixel (x, y) sees them
abbrev pub corners_change : KernelSet → List Corner → ℤ → ℤ → ℕ → ℤ
corners_change set corners x y lane = sum_each (λ c. c.sign *ℤ block_of_lane set lane (x -ℤ c.x) (y -ℤ c.y)) corners

-- ---- lists of lanes

-- the list has a number for each lane of the set, the one that f gives
pub record LanesAre (set : KernelSet) (f : ℕ → ℤ) (lanes : List ℤ) : Type 0 where
  pub count : length lanes ≡ lane_count set
  pub each : (lane : ℕ) → lane < lane_count set → slice_index_or lanes lane (pos 0) ≡ f lane

-- the weights of the kernels
abbrev pub weights_of : KernelSet → List ℤ
weights_of set = map (λ k. pos k.weight) set.kernels

-- the corners add up to the set at each pixel that lies within the reach of (x, y)
pub record AddUpNear (reach : ℕ) (corners : List Corner) (pixels : PixelSet) (x y : ℤ) : Type 0 where
  pub each : (u v : ℤ) → unsigned_abs u ≤ reach → unsigned_abs v ≤ reach →
      quadrant_sum corners (x -ℤ u) (y -ℤ v) ≡ indicator pixels (x -ℤ u) (y -ℤ v)

-- Where the numbers of a table stand, and what they are.
use Rattle.std.specs.Prelude.{◌≡◌, ℕ, ◌+◌, ◌*◌, ◌<◌, ◌≤◌, ℤ, pos, unsigned_abs, List, length, slice_index_or}
use Rattle.opc_base.specs.Blocks.{place_before}
use Rattle.opc_base.specs.Lanes.{LanesAre, block_of_lane, ground_of_lane, lane_count, passed_in_lane}
use Rattle.opc_base.specs.Optics.{KeepsBounds}
use Rattle.opc_base.specs.Sums.{sum_within}
use Rattle.opc_base.specs.declared.kernels.KernelSet.{KernelSet}

-- where a lane of a place stands in the table
abbrev pub table_place : KernelSet → ℕ → ℕ → ℕ → ℕ
table_place set row column lane = (row * (2 * set.reach + 2) + column) * lane_count set + lane

-- how many numbers the table has
abbrev pub table_size : KernelSet → ℕ
table_size set = (2 * set.reach + 2) * (2 * set.reach + 2) * lane_count set

-- the first n numbers are by places the blocks of the lanes
abbrev pub HoldsFirst : KernelSet → List ℤ → ℕ → Type 0
HoldsFirst set sums n = (row column lane : ℕ) → column < 2 * set.reach + 2 → lane < lane_count set → table_place set row column lane < n →
    slice_index_or sums (table_place set row column lane) (pos 0) ≡ block_of_lane set lane (place_before set.reach column) (place_before set.reach row)

-- each number is at most this far from 0
abbrev pub AreNumbersWithin : ℕ → List ℤ → Type 0
AreNumbersWithin most numbers = (i : ℕ) → i < length numbers → unsigned_abs (slice_index_or numbers i (pos 0)) ≤ most

-- what a row of the kernel adds to a lane's ground
abbrev pub ground_row : KernelSet → ℕ → ℤ → ℤ
ground_row set lane v = sum_within set.reach (λ u. passed_in_lane set lane set.uncovered u v)

-- the numbers that are kept are the tables of the set
pub record AreTables (set : KernelSet) (reach lanes : ℕ) (sums uncovered : List ℤ) : Type 0 where
  pub bounds : KeepsBounds set
  pub reach_is : reach ≡ set.reach
  pub lanes_is : lanes ≡ lane_count set
  pub size : length sums ≡ table_size set
  pub holds : HoldsFirst set sums (table_size set)
  pub grounds : LanesAre set (ground_of_lane set) uncovered

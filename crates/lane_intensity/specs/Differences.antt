-- What is added to lists of lanes, lane by lane.
use Rattle.std.specs.Prelude.{◌≡◌, ℕ, ◌+◌, ◌*◌, ◌<◌, ◌≤◌, ℤ, pos, ◌+ℤ◌, ◌-ℤ◌, ◌*ℤ◌, ◌≤ℤ◌, All, unsigned_abs, List, length, slice_index_or}
use Rattle.opc_base.specs.Lanes.{block_of_lane}
use Rattle.opc_base.specs.Sums.{sum_each, sum_range}
use Rattle.opc_base.specs.declared.kernels.KernelSet.{KernelSet}
use Rattle.opc_base.specs.declared.plane.Corner.{Corner}

-- a - b - c + d in a lane
abbrev pub four_lanes : List ℤ → List ℤ → List ℤ → List ℤ → ℕ → ℤ
four_lanes a b c d lane =
    slice_index_or a lane (pos 0) -ℤ slice_index_or b lane (pos 0) -ℤ slice_index_or c lane (pos 0) +ℤ slice_index_or d lane (pos 0)

-- a number of times what a list has in a lane
abbrev pub times_lane : ℤ → List ℤ → ℕ → ℤ
times_lane times numbers lane = times *ℤ slice_index_or numbers lane (pos 0)

-- as many lanes as n, each at most this far from 0
pub record AreLanes (n most : ℕ) (lanes : List ℤ) : Type 0 where
  pub count : length lanes ≡ n
  pub small : (lane : ℕ) → lane < n → unsigned_abs (slice_index_or lanes lane (pos 0)) ≤ most

-- coordinates at most this far from 0, and a sign from -2 to 2
abbrev pub IsCornerInRange : ℕ → Corner → Type 0
IsCornerInRange most c = (unsigned_abs c.x ≤ most) × (unsigned_abs c.y ≤ most) × (unsigned_abs c.sign ≤ 2)

-- what a corner adds to a lane, as the pixel (x, y) sees it
abbrev pub corner_change : KernelSet → Corner → ℤ → ℤ → ℕ → ℤ
corner_change set c x y lane = c.sign *ℤ block_of_lane set lane (x -ℤ c.x) (y -ℤ c.y)

-- ---- intensities

-- weights of at least 1 that sum to at most 2048
pub record IsLight (weights : List ℤ) : Type 0 where
  pub some : All (λ w. pos 1 ≤ℤ w) weights
  pub few : sum_each (λ w. w) weights ≤ℤ pos 2048

-- what kernel j adds to an intensity: its weight times the power of its two lanes
abbrev pub power_at : List ℤ → List ℤ → ℕ → ℤ
power_at weights lanes j =
    slice_index_or weights j (pos 0)
    *ℤ (slice_index_or lanes (2 * j) (pos 0) *ℤ slice_index_or lanes (2 * j) (pos 0)
    +ℤ slice_index_or lanes (2 * j + 1) (pos 0) *ℤ slice_index_or lanes (2 * j + 1) (pos 0))

-- the sum of what the first n kernels add
abbrev pub power_sum : List ℤ → List ℤ → ℕ → ℤ
power_sum weights lanes n = sum_range (λ j. power_at weights lanes (unsigned_abs j)) (pos 0) n

-- the squares of eight lanes, and how large they are
pub record AreSquares (lane : ℕ) (lanes squares : List ℤ) : Type 0 where
  pub count : length squares ≡ 8
  pub each : (k : ℕ) → k < 8 → slice_index_or squares k (pos 0) ≡ slice_index_or lanes (lane + k) (pos 0) *ℤ slice_index_or lanes (lane + k) (pos 0)
  pub small : (k : ℕ) → k < 8 → unsigned_abs (slice_index_or squares k (pos 0)) ≤ 34080768 * 34080768

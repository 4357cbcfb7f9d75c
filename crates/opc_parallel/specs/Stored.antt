-- What is stored for the samples of fragments, and what swept rectangles add to it.
use Rattle.std.specs.Prelude.{◌≡◌, ℕ, ◌+◌, ◌*◌, ◌/◌, ◌%◌, ◌^◌, ◌<◌, ◌≤◌, ℤ, pos, ◌+ℤ◌, ◌-ℤ◌, unsigned_abs, List, Some, length, take, slice_get, slice_index, slice_index_or, sum_by}
use Rattle.opc_base.specs.Changes.{CanRise}
use Rattle.opc_base.specs.Lanes.{lane_count, rect_change}
use Rattle.opc_base.specs.Sums.{sum_each}
use Rattle.opc_base.specs.declared.kernels.KernelSet.{KernelSet}
use Rattle.opc_base.specs.declared.moves.Swept.{Swept}
use Rattle.opc_base.specs.declared.plane.Pix.{Pix}
use Rattle.outline_model.specs.declared.fragment.Fragment.{Fragment}
use Rattle.outline_model.specs.Outline.{fragment_at, site_of}
use Rattle.tiles.specs.Tiles.{Tiling, by_place, first_of, fragments_of}

-- a set of kernels, fragments in tiles, and how many samples each has to a side
pub record Setting : Type 0 where
  pub set : KernelSet
  pub fragments : List Fragment
  pub tiling : Tiling
  pub samples : ℕ

-- the pixel of the k-th sample of a fragment, from the innermost on: its sample k - samples
abbrev pub sample_at : Setting → ℕ → ℕ → Pix
sample_at s i k = site_of (fragment_at s.fragments i) (pos k -ℤ pos s.samples)

-- what a swept rectangle adds to a lane of the k-th sample of fragment i: its sign times what its pixels give there
unfoldable pub sample_change : Setting → Swept → ℕ → ℕ → ℕ → ℤ
sample_change s swept i k lane = rect_change s.set swept.rect swept.sign (sample_at s i k).x (sample_at s i k).y lane

-- how many numbers are stored for a fragment
abbrev pub stride_of : Setting → ℕ
stride_of s = 2 * s.samples * lane_count s.set

-- where a lane of the k-th sample is stored for the fragment at place q
abbrev pub number_of : Setting → ℕ → ℕ → ℕ → ℕ
number_of s q k lane = (2 * s.samples * q + k) * lane_count s.set + lane

-- each lane of each sample rises by the sum of what the rectangles of the list add there
abbrev pub AddsAll : Setting → List Swept → List ℤ → List ℤ → Type 0
AddsAll s list old new =
    (q i k lane : ℕ) → slice_get (by_place s.tiling) q ≡ Some i → k < 2 * s.samples → lane < lane_count s.set →
    slice_index_or new (number_of s q k lane) (pos 0)
    ≡ slice_index_or old (number_of s q k lane) (pos 0) +ℤ sum_each (λ one. sample_change s one i k lane) list

-- each lane is within 2^62 of 0 before the list and after each of its rectangles in turn
abbrev pub StaysSmall : Setting → List Swept → List ℤ → Type 0
StaysSmall s list sums =
    (m q i k lane : ℕ) → m ≤ length list → slice_get (by_place s.tiling) q ≡ Some i → k < 2 * s.samples → lane < lane_count s.set →
    unsigned_abs (slice_index_or sums (number_of s q k lane) (pos 0) +ℤ sum_each (λ one. sample_change s one i k lane) (take m list)) ≤ 2 ^ 62

-- the most steps that it takes to add a rectangle to the fragments of these tiles: 8 for each sample to a side
abbrev pub most_steps : ℕ → Tiling → List ℕ → ℕ
most_steps samples tiling tiles = 8 * samples * sum_by (λ k. length (fragments_of tiling k)) tiles

-- ---- by number

-- the first of the numbers that are stored for a tile, or the number of all of them
abbrev pub start_at : Setting → ℕ → ℕ
start_at s tile = stride_of s * first_of s.tiling tile

-- what a swept rectangle adds to number n
unfoldable pub change_at : Setting → Swept → ℕ → ℤ
change_at s swept n =
    sample_change s swept (slice_index (by_place s.tiling) (n / lane_count s.set / (2 * s.samples))) (n / lane_count s.set % (2 * s.samples)) (n % lane_count s.set)

-- what a list of them adds
abbrev pub list_change : Setting → List Swept → ℕ → ℤ
list_change s list n = sum_each (λ one. change_at s one n) list

-- each number of a part stays within 2^62 of 0
pub record CanTake (s : Setting) (list : List Swept) (base : ℕ) (sums : List ℤ) : Type 0 where
  pub fits : (m : ℕ) → m ≤ length list → CanRise (list_change s (take m list)) base sums

-- How large the numbers of fragments and offsets are.
use Rattle.std.specs.Prelude.{◌≡◌, ℕ, ◌<◌, ◌≤◌, ℤ, pos, ◌<ℤ◌, List, length, get_or}
use Rattle.outline_model.specs.declared.fragment.Fragment.{Fragment}
use Rattle.outline_model.specs.Fragmentation.{IsSomeCut}
use Rattle.outline_model.specs.Outline.{IsOutline, fragment_at}
use Rattle.outline_model.specs.Ranges.{IsInLayout, IsWithin}

-- the fragments of some region, which form closed walks within the limit of a layout
pub record IsFragmentList (fs : List Fragment) : Type 0 where
  pub outline : IsOutline fs
  pub few : length fs ≤ 32768
  pub some : (k : ℕ) → k < length fs → (fragment_at fs k).lo <ℤ (fragment_at fs k).hi
  pub edge_within : (k : ℕ) → k < length fs → IsWithin 1048000 (fragment_at fs k).edge
  pub lo_within : (k : ℕ) → k < length fs → IsWithin 1048000 (fragment_at fs k).lo
  pub hi_within : (k : ℕ) → k < length fs → IsWithin 1048000 (fragment_at fs k).hi
  pub is_cut : IsSomeCut fs

-- one offset for each fragment, each within the reach of a move
pub record IsOffsets (fs : List Fragment) (offsets : List ℤ) : Type 0 where
  pub one_each : length offsets ≡ length fs
  pub within : (k : ℕ) → k < length fs → IsWithin 128 (get_or offsets k (pos 0))

-- a fragment within the limit of a layout
pub record IsPlacedFragment (f : Fragment) : Type 0 where
  pub edge : IsInLayout f.edge
  pub lo : IsInLayout f.lo
  pub hi : IsInLayout f.hi

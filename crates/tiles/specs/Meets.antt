-- The tiles that a rectangle reaches.
use Rattle.std.specs.Prelude.{◌≡◌, ℕ, ◌+◌, ◌-◌, ◌<◌, ◌≤◌, pos, ◌-ℤ◌, int_lt, Bool, true, false, ◌&&◌, Option, MatchOption, List, filter}
use Rattle.std.specs.Int.{int_max, int_min}
use Rattle.std.specs.List.{range_with_len}
use Rattle.opc_base.specs.Lanes.{part_of_lane}
use Rattle.opc_base.specs.Plane.{rect_cover}
use Rattle.opc_base.specs.declared.kernels.KernelSet.{KernelSet}
use Rattle.opc_base.specs.declared.plane.Rect.{Rect}
use Rattle.outline_model.specs.declared.fragment.Fragment.{Fragment}
use Rattle.outline_model.specs.Outline.{site_of}
use Rattle.tiles.specs.Tiles.{Tiling, square_of, tile_count}

-- some pixel lies in both rectangles: the greater low side lies before the lesser high side, in x and in y
abbrev pub meet : Rect → Rect → Bool
meet r s = int_lt (int_max r.x0 s.x0) (int_min r.x1 s.x1) && int_lt (int_max r.y0 s.y0) (int_min r.y1 s.y1)

-- the tile's square, grown by the halo, meets the rectangle
abbrev pub meet_tile : Tiling → Rect → ℕ → Bool
meet_tile tiling rect k = meet (square_of tiling k) rect

-- the tiles whose grown square meets the rectangle, ascending
abbrev pub touched_tiles : Tiling → Rect → List ℕ
touched_tiles tiling rect = filter (meet_tile tiling rect) (range_with_len 0 (tile_count tiling))

-- those from one number up to another
abbrev pub touched_between : Tiling → Rect → ℕ → ℕ → List ℕ
touched_between tiling rect from end = filter (meet_tile tiling rect) (range_with_len from (end - from))

-- the first of them
abbrev pub IsFirstMet : Tiling → Rect → ℕ → ℕ → Option ℕ → Type 0
IsFirstMet tiling rect from end found =
    MatchOption found
    ((k : ℕ) → from ≤ k → k < end → meet_tile tiling rect k ≡ false)
    (λ k. (from ≤ k) × (k < end) × (meet_tile tiling rect k ≡ true) × ((j : ℕ) → from ≤ j → j < k → meet_tile tiling rect j ≡ false))

-- the rectangle adds nothing in any lane at any sample of the fragment, of which there are so many to a side
abbrev pub AddsNothing : KernelSet → ℕ → Fragment → Rect → Type 0
AddsNothing set samples f rect =
    (k lane : ℕ) → k < samples + samples →
    part_of_lane set (rect_cover rect) (site_of f (pos k -ℤ pos samples)).x (site_of f (pos k -ℤ pos samples)).y lane ≡ pos 0

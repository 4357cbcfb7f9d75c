-- The fragments of a target in square tiles of the plane.
use Rattle.std.specs.Prelude.{◌≡◌, ◌⊎◌, ℕ, ◌+◌, ◌<◌, ℤ, pos, negsuc, ◌+ℤ◌, ◌-ℤ◌, ◌*ℤ◌, ◌≤ℤ◌, ◌<ℤ◌, List, [], length, get_or, take, All, Contains}
use Rattle.std.specs.List.{flat_map}
use Rattle.std.specs.List.Sorted.{IsStrictlyIncreasing}
use Rattle.opc_base.specs.declared.plane.Pix.{Pix}
use Rattle.opc_base.specs.declared.plane.Rect.{Rect}
use Rattle.outline_model.specs.declared.fragment.Fragment.{Fragment}
use Rattle.outline_model.specs.Outline.{fragment_at, site_of}

-- a tile that is listed: its two numbers, and those of its fragments
pub record Listed : Type 0 where
  pub a : ℤ
  pub b : ℤ
  pub fragments : List ℕ

-- squares of one side, of which those are listed that have a fragment, and how far each is grown to find what it sees
pub record Tiling : Type 0 where
  pub side : ℤ
  pub halo : ℤ
  pub tiles : List Listed

abbrev pub tile_count : Tiling → ℕ
tile_count tiling = length tiling.tiles

abbrev pub tile_at : Tiling → ℕ → Listed
tile_at tiling k = get_or tiling.tiles k (record { a = pos 0; b = pos 0; fragments = [] })

-- the numbers of a tile's fragments
abbrev pub fragments_of : Tiling → ℕ → List ℕ
fragments_of tiling k = (tile_at tiling k).fragments

-- the numbers of all fragments by place: those of the tiles, one tile after the other
abbrev pub by_place : Tiling → List ℕ
by_place tiling = flat_map (λ t. t.fragments) tiling.tiles

-- how many fragments stand in the tiles before
abbrev pub first_of : Tiling → ℕ → ℕ
first_of tiling k = length (flat_map (λ t. t.fragments) (take k tiling.tiles))

-- the square of a tile, grown by the halo on all sides
abbrev pub square_of : Tiling → ℕ → Rect
square_of tiling k = record {
  x0 = (tile_at tiling k).a *ℤ tiling.side -ℤ tiling.halo;
  y0 = (tile_at tiling k).b *ℤ tiling.side -ℤ tiling.halo;
  x1 = (tile_at tiling k).a *ℤ tiling.side +ℤ tiling.side +ℤ tiling.halo;
  y1 = (tile_at tiling k).b *ℤ tiling.side +ℤ tiling.side +ℤ tiling.halo;
}

-- the pixel lies in the tile's square: from a times the side up to one side further, and so for b
pub record IsInTile (side : ℤ) (tile : Listed) (p : Pix) : Type 0 where
  pub left : (tile.a *ℤ side) ≤ℤ p.x
  pub right : p.x <ℤ (tile.a *ℤ side +ℤ side)
  pub below : (tile.b *ℤ side) ≤ℤ p.y
  pub above : p.y <ℤ (tile.b *ℤ side +ℤ side)

-- where a fragment stands: its sample -1, the last pixel inside the target
abbrev pub standing : List Fragment → ℕ → Pix
standing fs i = site_of (fragment_at fs i) (negsuc 0)

-- tiles ascend by b, and those of one b by a
abbrev pub StandsBefore : Listed → Listed → Type 0
StandsBefore s t = (s.b <ℤ t.b) ⊎ ((s.b ≡ t.b) × (s.a <ℤ t.a))

-- the tiling of these fragments: each stands in one tile, once, that of its sample -1
pub record IsTilingOf (fs : List Fragment) (side halo : ℤ) (tiling : Tiling) : Type 0 where
  pub side_is : tiling.side ≡ side
  pub halo_is : tiling.halo ≡ halo
  pub count : length (by_place tiling) ≡ length fs
  pub below : All (λ i. i < length fs) (by_place tiling)
  pub complete : (i : ℕ) → i < length fs → Contains (by_place tiling) i
  pub in_tile : (k i : ℕ) → k < tile_count tiling → Contains (fragments_of tiling k) i → IsInTile side (tile_at tiling k) (standing fs i)
  pub some : (k : ℕ) → k < tile_count tiling → 0 < length (fragments_of tiling k)
  pub tiles_ascend : (k : ℕ) → k + 1 < tile_count tiling → StandsBefore (tile_at tiling k) (tile_at tiling (k + 1))
  pub numbers_ascend : (k : ℕ) → k < tile_count tiling → IsStrictlyIncreasing (fragments_of tiling k)

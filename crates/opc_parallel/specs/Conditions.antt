-- What is asked of rectangles, and of what is worked on.
use Rattle.std.specs.Prelude.{◌≡◌, ℕ, false, ◌+◌, ◌<◌, ◌≤◌, ◌^◌, ℤ, pos, ◌+ℤ◌, ◌-ℤ◌, unsigned_abs}
use Rattle.opc_base.specs.Optics.{KeepsBounds}
use Rattle.opc_base.specs.Plane.{IsOrdered, IsRectWithin}
use Rattle.opc_base.specs.declared.moves.Swept.{Swept}
use Rattle.opc_base.specs.declared.plane.Pix.{Pix}
use Rattle.opc_base.specs.declared.plane.Rect.{Rect}
use Rattle.tiles.specs.Meets.{meet}
use Rattle.tiles.specs.Tiles.{IsTilingOf, tile_count}
use Rattle.opc_parallel.specs.Stored.{Setting, sample_at, start_at}
use Rattle.opc_parallel.specs.declared.work.Work.{Work}

-- a rectangle that is added, or taken away, within the range of the sums
pub record IsSweepable (swept : Swept) : Type 0 where
  pub sign : unsigned_abs swept.sign ≡ 1
  pub ordered : IsOrdered swept.rect
  pub near : IsRectWithin 1050000 swept.rect

-- the tiling is of these fragments, its halo is the reach and the samples to a side, and all that is stored is few
pub record IsReady (s : Setting) : Type 0 where
  pub bounds : KeepsBounds s.set
  pub tiling_is : IsTilingOf s.fragments s.tiling.side s.tiling.halo s.tiling
  pub halo_is : s.tiling.halo ≡ pos (s.set.reach + s.samples)
  pub samples_some : 1 ≤ s.samples
  pub samples_few : s.samples ≤ 16
  pub room : start_at s (tile_count s.tiling) < 2 ^ 60

-- what the parts share
abbrev pub setting_of : Work → Setting
setting_of work = record { set = work.tables.now; fragments = work.fragments.now; tiling = work.index.now; samples = work.samples }

-- the pixels no further than this from a pixel in x and in y: those that a kernel of this reach sees
abbrev pub window_of : ℤ → Pix → Rect
window_of reach at = record { x0 = at.x -ℤ reach; y0 = at.y -ℤ reach; x1 = at.x +ℤ reach +ℤ pos 1; y1 = at.y +ℤ reach +ℤ pos 1 }

-- no kernel sees the rectangle from the k-th sample of a fragment
abbrev pub IsUnseen : Setting → ℕ → ℕ → Rect → Type 0
IsUnseen s i k rect = meet (window_of (pos s.set.reach) (sample_at s i k)) rect ≡ false

-- What holds of a scene.
use Rattle.std.specs.Prelude.{◌≡◌, ℤ, pos, length}
use Rattle.opc_base.specs.Optics.{KeepsTwoTransmissions}
use Rattle.opc_base.specs.Plane.{PixelSet}
use Rattle.opc_base.specs.Runs.{IsCornerTouch}
use Rattle.tiles.specs.Tiles.{IsTilingOf}
use Rattle.parallel_rows.specs.declared.scene.Scene.{Scene}

abbrev pub HasNoTouch : PixelSet → Type 0
HasNoTouch pixels = (x y : ℤ) → ¬ IsCornerTouch pixels x y

-- its tiles are those of its fragments, the halo is the reach of 1 and two samples, and the tables are of its one kernel
pub record IsScene (scene : Scene) : Type 0 where
  pub tiling : IsTilingOf scene.fragments scene.index.side scene.index.halo scene.index
  pub halo : scene.index.halo ≡ pos 3
  pub reach : scene.tables.reach ≡ 1
  pub set : scene.tables ≡ scene.set
  pub bounds : KeepsTwoTransmissions scene.set
  pub one : length scene.set.kernels ≡ 1

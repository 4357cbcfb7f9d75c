-- What a layout shows of its first structure.
use Rattle.std.specs.Prelude.{◌≡◌, ℕ, ℤ, List, [], ◌∷◌, map}
use Rattle.opc_base.specs.Plane.{PixelSet}
use Rattle.opc_base.specs.Target.{target}
use Rattle.gds_model.specs.Library.{StreamLibrary, IsLibraryOf, names}
use Rattle.gds_model.specs.Outlines.{outline_of}
use Rattle.gds_model.specs.PlacedList.{is_on, placed_list}

-- the pixels that the first structure covers on a layer and datatype
abbrev pub expansion : StreamLibrary → ℕ → ℕ → ℤ → PixelSet
expansion layout layer datatype grid = target (map (outline_of grid) (placed_list layout.structures (is_on layer datatype) 0))

-- These bytes are a layout of one structure, which has this name and covers exactly these pixels on the layer and datatype.
pub record ExpandsTo (bytes name : List ℕ) (layer datatype : ℕ) (grid : ℤ) (pixels : PixelSet) : Type 0 where
  pub layout : StreamLibrary
  pub reading : IsLibraryOf bytes layout
  pub top : names layout.structures ≡ name ∷ []
  pub covered : (x y : ℤ) → expansion layout layer datatype grid x y ≡ pixels x y

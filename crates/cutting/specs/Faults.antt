-- Why a region is not cut.
use Rattle.std.specs.Prelude.{◌≡◌, ◌<◌, List, length}
use Rattle.opc_base.specs.declared.rules.CutRules.{CutRules}
use Rattle.opc_base.specs.Plane.{PixelSet}
use Rattle.outline_model.specs.declared.piece.EdgePiece.{EdgePiece}
use Rattle.outline_model.specs.Fragmentation.{ArePieces}
use Rattle.cutting.specs.declared.region_pieces.CutFault.{CutFault}
use Rattle.cutting.specs.declared.region_pieces.CutFault.TheVariants.{TooManyFragments, NoMemory}

-- a fault says how many pieces there are, where they are too many
abbrev pub IsFault : PixelSet → CutRules → CutFault → Type 0
IsFault inside rules (TooManyFragments count) = (ps : List EdgePiece) × ArePieces inside rules ps × (length ps ≡ count) × (32768 < count)
IsFault inside rules NoMemory = Unit {0}

-- The fragments of a set of pixels.
use Rattle.std.specs.Prelude.{◌≡◌, ℤ, List, map}
use Rattle.outline_model.specs.declared.fragment.Fragment.{Fragment}
use Rattle.outline_model.specs.Target.{IsJoined}
use Rattle.outline_model.specs.declared.edge.Edge.{Edge}
use Rattle.outline_model.specs.Edges.{AreEdges}
use Rattle.opc_base.specs.Canonical.{AreCanonical}
use Rattle.opc_base.specs.Plane.{PixelSet, cover}
use Rattle.opc_base.specs.Runs.{IsCornerTouch}
use Rattle.opc_base.specs.declared.plane.Rect.{Rect}
use Rattle.opc_base.specs.declared.rules.CutRules.{CutRules}
use Rattle.outline_model.specs.declared.piece.EdgePiece.{EdgePiece}
use Rattle.outline_model.specs.Pieces.{pieces_along}

-- the pieces of the edges of a set, in order
pub record ArePieces (inside : PixelSet) (rules : CutRules) (ps : List EdgePiece) : Type 0 where
  pub edges : List Edge
  pub are_edges : AreEdges inside edges
  pub pieces : ps ≡ pieces_along rules edges

-- a fragment without its joins
abbrev pub piece_of : Fragment → EdgePiece
piece_of f = record { side = f.side; line = f.edge; lo = f.lo; hi = f.hi }

-- The fragments of a set: each is a piece of an edge, and at each end is joined to the fragment that meets it there.
pub record AreFragments (inside : PixelSet) (rules : CutRules) (fs : List Fragment) : Type 0 where
  pub pieces : ArePieces inside rules (map piece_of fs)
  pub joins : IsJoined fs

-- The fragments of some region that nowhere touches itself at a corner only, cut by some rules.
pub record IsSomeCut (fs : List Fragment) : Type 0 where
  pub rects : List Rect
  pub rules : CutRules
  pub canonical : AreCanonical rects
  pub no_touch : (x y : ℤ) → ¬ IsCornerTouch (cover rects) x y
  pub fragments : AreFragments (cover rects) rules fs

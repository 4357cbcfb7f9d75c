-- The border of a set of pixels: its edges, each as one fragment.
use Rattle.std.specs.Prelude.{◌≡◌, ◌⊎◌, ℕ, ◌<◌, ◌≤ℤ◌, ◌<ℤ◌, Bool, false, not, if◌then◌else◌, List, [], ◌∷◌, ◌++◌, length, map}
use Rattle.opc_base.specs.declared.plane.Pix.{Pix}
use Rattle.opc_base.specs.Plane.{IsPixWithin, PixelSet}
use Rattle.outline_model.specs.MaskRange.{mask_limit}
use Rattle.outline_model.specs.declared.edge.Edge.{Edge}
use Rattle.outline_model.specs.declared.piece.EdgePiece.{EdgePiece}
use Rattle.outline_model.specs.declared.fragment.Fragment.{Fragment}
use Rattle.outline_model.specs.Edges.{AreEdges}
use Rattle.outline_model.specs.Fragmentation.{piece_of}
use Rattle.outline_model.specs.Outline.{IsOutline, Point, fragment_at, is_vertical, next, side_of}
use Rattle.outline_model.specs.Target.{IsBoundary, IsJoined, start_point, finish_point}

abbrev pub pix_of : Point → Pix
pix_of p = record { x = p.x; y = p.y }

-- where the walk of an edge begins, and where it ends, with the inside on the left
abbrev pub start_pix : Fragment → Pix
start_pix f = pix_of (start_point f)

abbrev pub finish_pix : Fragment → Pix
finish_pix f = pix_of (finish_point f)

-- an edge as one piece
abbrev pub whole : Edge → EdgePiece
whole e = record { side = e.side; line = e.line; lo = e.lo; hi = e.hi }

-- the edge, if it is vertical, or if it is not
abbrev pub whole_if : Bool → Edge → List EdgePiece
whole_if upright e = if (if upright then is_vertical e.side else not (is_vertical e.side)) then whole e ∷ [] else []

-- These fragments are the border of the set: its edges, the horizontal ones first, each joined to those that it meets at
-- its ends.
pub record IsBorder (inside : PixelSet) (fs : List Fragment) : Type 0 where
  pub boundary : IsBoundary inside fs
  pub joined : IsJoined fs
  pub outline : IsOutline fs
  pub edges : List Edge
  pub are_edges : AreEdges inside edges
  pub pieces : map piece_of fs ≡ map whole (are_edges.horizontal ++ are_edges.vertical)

-- the line that is met first, and on it the lower fragment
abbrev pub ComesFirst : Fragment → Fragment → Type 0
ComesFirst f g = (f.edge <ℤ g.edge) ⊎ ((f.edge ≡ g.edge) × (f.hi ≤ℤ g.lo))

-- The horizontal fragments come first, by their lines from below, and then the vertical ones, by their lines from the left.
-- Each leads to one of the other direction.
pub record AreInOrder (fs : List Fragment) : Type 0 where
  pub some : (k : ℕ) → k < length fs → (fragment_at fs k).lo <ℤ (fragment_at fs k).hi
  pub turns : (k : ℕ) → k < length fs → is_vertical (side_of fs (next fs k)) ≡ not (is_vertical (side_of fs k))
  pub level_first : (j k : ℕ) → j < k → k < length fs → is_vertical (side_of fs k) ≡ false → is_vertical (side_of fs j) ≡ false
  pub sorted : (j k : ℕ) → j < k → k < length fs → is_vertical (side_of fs j) ≡ is_vertical (side_of fs k) → ComesFirst (fragment_at fs j) (fragment_at fs k)

-- no end of an edge is further than 1,048,128 from 0
abbrev pub AreNear : List Fragment → Type 0
AreNear fs = (k : ℕ) → k < length fs → IsPixWithin mask_limit (start_pix (fragment_at fs k)) × IsPixWithin mask_limit (finish_pix (fragment_at fs k))

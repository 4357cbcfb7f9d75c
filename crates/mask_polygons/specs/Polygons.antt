-- The polygon of a border.
use Rattle.std.specs.Prelude.{◌≡◌, ℕ, ◌<◌, ◌≤◌, ℤ, List, [], length, get_or, Option, Vec, MatchOption}
use Rattle.std.specs.declared.alloc.Global.{Global}
use Rattle.std.specs.List.{flat_map}
use Rattle.opc_base.specs.declared.plane.Pix.{Pix}
use Rattle.opc_base.specs.Cover.{crossing, crossings}
use Rattle.opc_base.specs.declared.plane.Rect.{Rect}
use Rattle.opc_base.specs.Plane.{PixelSet, cover, indicator}
use Rattle.outline_model.specs.declared.edge.Edge.{Edge}
use Rattle.outline_model.specs.Edges.{AreEdges}
use Rattle.mask_polygons.specs.Links.{rect_at}
use Rattle.mask_polygons.specs.Walk.{AreHoles, ArePolygonsOfPart, IsWalk, most_points, point_count}
use Rattle.outline_model.specs.declared.fragment.Fragment.{Fragment}
use Rattle.outline_model.specs.Outline.{fragment_at, total}
use Rattle.gds_writer.specs.Outlines.{IsOutline}
use Rattle.mask_polygons.specs.Border.{finish_pix, start_pix}

-- A closed walk along the grid that counts each edge of the border once.
pub record IsWalkRound (fs : List Fragment) (points : List Pix) : Type 0 where
  pub outline : IsOutline points
  pub counts : (x y : ℤ) → crossings points x y ≡ total (length fs) (λ k. crossing (start_pix (fragment_at fs k)) (finish_pix (fragment_at fs k)) x y)

-- The walk winds once round each pixel of the set, and round no other.
pub record IsPolygonOf (inside : PixelSet) (points : List Pix) : Type 0 where
  pub outline : IsOutline points
  pub winds : (x y : ℤ) → crossings points x y ≡ indicator inside x y

-- the lower left corner of the first rectangle
abbrev pub first_corner : List Rect → Pix
first_corner rects = record { x = (rect_at rects 0).x0; y = (rect_at rects 0).y0 }

-- The walk of the outer loop was found, with as many points as the edges and the holes ask, or these are too many.
pub record IsDrawn (rects : List Rect) (found : Option (Vec Pix Global)) : Type 0 where
  pub edges : List Edge
  pub are_edges : AreEdges (cover rects) edges
  pub walk : MatchOption found ((holes : List Pix) → AreHoles (cover rects) holes → most_points < point_count edges holes)
      (λ points. (length points.items ≤ most_points) × IsWalk (cover rects) (first_corner rects) points.items
      × ((holes : List Pix) → AreHoles (cover rects) holes → length points.items ≡ point_count edges holes))

-- the polygons of these parts, part by part
abbrev pub AreListed : List (List Rect) → List (List Pix) → Type 0
AreListed parts polygons =
    (lists : List (List (List Pix))) × (length lists ≡ length parts) × (polygons ≡ flat_map (λ l. l) lists)
    × ((k : ℕ) → k < length parts → ArePolygonsOfPart (cover (get_or parts k [])) (get_or parts k []) (first_corner (get_or parts k [])) (get_or lists k []))

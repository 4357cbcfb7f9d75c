-- The polygons of a mask: the walk round each component, with a seam to each hole.
--
-- A loop is a closed chain of edges of a set, walked with the inside on the left. A hole's loop is joined to the loop on its
-- left by a seam, which lies level with the hole's lowest corner, its leftmost one there. The walk of a loop writes its
-- corners, and where it comes to the end of a seam, the whole walk of that seam's hole. Seams lie level, and a polygon
-- covers what its upright edges count, so they change nothing.
use Rattle.std.specs.Prelude.{◌≡◌, ◌≢◌, ◌⊎◌, ◌↔◌, ℕ, ◌+◌, ◌*◌, ◌<◌, ◌≤◌, ℤ, ◌-ℤ◌, ◌≤ℤ◌, ◌<ℤ◌, unsigned_abs, Bool, true, false, not, if◌then◌else◌, List, [], ◌∷◌, ◌++◌, length, map, All, AllPairs, Contains, IsTrue}
use Rattle.std.specs.List.{flat_map}
use Rattle.std.specs.Ordering.{int_eq}
use Rattle.opc_base.specs.declared.plane.Pix.{Pix}
use Rattle.opc_base.specs.declared.plane.Rect.{Rect}
use Rattle.opc_base.specs.declared.plane.Side.TheVariants.{Left}
use Rattle.opc_base.specs.Canonical.{AreCanonical}
use Rattle.opc_base.specs.Cover.{last_from}
use Rattle.opc_base.specs.Plane.{PixelSet, cover}
use Rattle.opc_base.specs.Runs.{IsRun}
use Rattle.outline_model.specs.declared.edge.Edge.{Edge}
use Rattle.outline_model.specs.Edges.{AreEdges, IsEdge, seen}
use Rattle.outline_model.specs.Outline.{is_rising, is_vertical}
use Rattle.gds_writer.specs.MaskFile.{around}

-- lower, or as low and further left
abbrev pub ComesBefore : Pix → Pix → Type 0
ComesBefore p q = (p.y <ℤ q.y) ⊎ ((p.y ≡ q.y) × (p.x <ℤ q.x))

-- ---- components

-- the pixels have a common side
abbrev pub ShareSide : Pix → Pix → Type 0
ShareSide p q = ((p.y ≡ q.y) × (unsigned_abs (p.x -ℤ q.x) ≡ 1)) ⊎ ((p.x ≡ q.x) × (unsigned_abs (p.y -ℤ q.y) ≡ 1))

-- from the pixel over these others, each time across a common side, and never out of the set
abbrev pub IsWay : PixelSet → Pix → List Pix → Type 0
IsWay inside p [] = IsTrue (inside p.x p.y)
IsWay inside p (q ∷ way) = IsTrue (inside p.x p.y) × ShareSide p q × IsWay inside q way

-- the pixels to which a way leads from one pixel of the set
pub record IsComponent (inside part : PixelSet) : Type 0 where
  pub from : Pix
  pub there : IsTrue (inside from.x from.y)
  pub reached : (q : Pix) → IsTrue (part q.x q.y) ↔ ((way : List Pix) × IsWay inside from way × (last_from from way ≡ q))

-- ---- loops

abbrev pub IsEdgeOf : PixelSet → Edge → Type 0
IsEdgeOf inside e = IsEdge (seen (is_vertical e.side) inside) e

abbrev pub point_of : Edge → ℤ → Pix
point_of e place = if is_vertical e.side then record { x = e.line; y = place } else record { x = place; y = e.line }

-- where the walk of an edge begins, and where it ends, with the inside on the left
abbrev pub start_of : Edge → Pix
start_of e = point_of e (if is_rising e.side then e.lo else e.hi)

abbrev pub finish_of : Edge → Pix
finish_of e = point_of e (if is_rising e.side then e.hi else e.lo)

-- each edge begins where the one before it ends, and the last ends at this point
abbrev pub LeadsTo : Edge → List Edge → Pix → Type 0
LeadsTo e [] end = finish_of e ≡ end
LeadsTo e (f ∷ es) end = (finish_of e ≡ start_of f) × LeadsTo f es end

-- a closed chain of edges, once round, that begins at its lowest and then leftmost corner
pub record IsLoopFrom (inside : PixelSet) (start : Pix) (first : Edge) (others : List Edge) : Type 0 where
  pub edges : All (IsEdgeOf inside) (first ∷ others)
  pub begins : start_of first ≡ start
  pub closed : LeadsTo first others start
  pub lowest : All (λ e. ComesBefore start (start_of e)) others

-- a loop that begins here has the outside above its lowest side: it goes round a hole
abbrev pub IsHoleStart : PixelSet → Pix → Type 0
IsHoleStart inside q = (inside q.x q.y ≡ false) × (first : Edge) × (others : List Edge) × IsLoopFrom inside q first others

-- ---- seams

-- The seam of a hole that starts at q goes to the left end of the covered run of its row that ends at q.
abbrev pub EndsSeam : PixelSet → Pix → Pix → Type 0
EndsSeam inside q end = (end.y ≡ q.y) × IsRun (λ s. inside s q.y) end.x q.x

-- the seam of this hole ends on the edge; a seam can end at the edge's low end, and not at its high end
pub record HangsOn (inside : PixelSet) (e : Edge) (q : Pix) : Type 0 where
  pub hole : IsHoleStart inside q
  pub left : e.side ≡ Left
  pub ends : EndsSeam inside q (record { x = e.line; y = q.y })
  pub from : e.lo ≤ℤ q.y
  pub to : q.y <ℤ e.hi

-- all holes whose seams end on the edge, from above
pub record AreHangingOn (inside : PixelSet) (e : Edge) (holes : List Pix) : Type 0 where
  pub sorted : AllPairs (λ p q. q.y <ℤ p.y) holes
  pub each : (q : Pix) → Contains holes q ↔ HangsOn inside e q

-- ---- walks

-- what the walk of a loop passes: a corner, or the end of a seam, with the seam corner of its hole
pub data Passage : Type 0 where
  Turn : Pix → Passage
  SeamEnd : Pix → Pix → Passage

-- where the seam of the hole that starts at q ends on the edge, and whether that is the edge's last corner
abbrev pub seam_end : Edge → Pix → Passage
seam_end e q = SeamEnd (record { x = e.line; y = q.y }) q

abbrev pub ends_level : Edge → Pix → Bool
ends_level e q = int_eq q.y (finish_of e).y

-- the ends of those seams, at the edge's last corner or above it
abbrev pub seam_ends : Bool → Edge → List Pix → List Passage
seam_ends level e holes = flat_map (λ q. if (if level then ends_level e q else not (ends_level e q)) then seam_end e q ∷ [] else []) holes

-- What is passed along an edge: the seams' ends on it, from above, its last corner, and then the seam's end at that corner.
abbrev pub passages : Edge → List Pix → List Passage
passages e holes = seam_ends false e holes ++ (Turn (finish_of e) ∷ seam_ends true e holes)

-- what is passed along these edges, one after another
abbrev pub ArePassed : PixelSet → List Edge → List Passage → Type 0
ArePassed inside [] passed = passed ≡ []
ArePassed inside (e ∷ es) passed =
    (holes : List Pix) × (rest : List Passage) × AreHangingOn inside e holes × (passed ≡ passages e holes ++ rest) × ArePassed inside es rest

-- what is passed on the walk of the loop that starts here
pub record IsTour (inside : PixelSet) (start : Pix) (passed : List Passage) : Type 0 where
  pub first : Edge
  pub others : List Edge
  pub is_loop : IsLoopFrom inside start first others
  pub along : ArePassed inside (first ∷ others) passed

-- What is written there. At a seam's end: that point, then the whole walk of the hole from its seam corner back to this
-- corner, then that point again.
pub data IsWritten (inside : PixelSet) : List Passage → List Pix → Type 0 where
  nothing : IsWritten inside [] []
  corner : {p : Pix} {passed : List Passage} {points : List Pix} → IsWritten inside passed points → IsWritten inside (Turn p ∷ passed) (p ∷ points)
  detour : {end q : Pix} {round passed : List Passage} {hole points : List Pix} → IsTour inside q round → IsWritten inside round hole
      → IsWritten inside passed points → IsWritten inside (SeamEnd end q ∷ passed) (end ∷ q ∷ (hole ++ (end ∷ points)))

-- the walk of the loop that starts here: it begins at its start corner, and ends there, since its last edge does
pub record IsWalk (inside : PixelSet) (start : Pix) (points : List Pix) : Type 0 where
  pub passed : List Passage
  pub tour : IsTour inside start passed
  pub back : List Pix
  pub written : IsWritten inside passed back
  pub whole : points ≡ start ∷ back

-- the lowest pixel of the set, and of those the leftmost: the outer loop of a component starts at its lower left corner
pub record IsFirstPixel (inside : PixelSet) (p : Pix) : Type 0 where
  pub there : inside p.x p.y ≡ true
  pub least : (q : Pix) → inside q.x q.y ≡ true → ¬ ComesBefore q p

-- ---- the polygons of a region

-- the start corners of all holes of the set
pub record AreHoles (inside : PixelSet) (holes : List Pix) : Type 0 where
  pub distinct : AllPairs (λ p q. p ≢ q) holes
  pub each : (q : Pix) → Contains holes q ↔ IsHoleStart inside q

-- How many points the walk of a component's outer loop has: one for each corner, at which an edge begins, three for each
-- hole, and one.
abbrev pub point_count : List Edge → List Pix → ℕ
point_count edges holes = length edges + 3 * length holes + 1

-- how many points one BOUNDARY has at most
abbrev pub most_points : ℕ
most_points = 8191

-- One component: its canonical rectangles, its start corner, and its polygons. Where the walk of its outer loop has at most
-- 8,191 points, it is the only one, and else a rectangle's walk is one for each rectangle.
pub record ArePolygonsOfPart (inside : PixelSet) (rects : List Rect) (start : Pix) (polygons : List (List Pix)) : Type 0 where
  pub canonical : AreCanonical rects
  pub component : IsComponent inside (cover rects)
  pub first : IsFirstPixel (cover rects) start
  pub edges : List Edge
  pub are_edges : AreEdges (cover rects) edges
  pub short : (holes : List Pix) → AreHoles (cover rects) holes → point_count edges holes ≤ most_points
      → (walk : List Pix) × IsWalk (cover rects) start walk × (polygons ≡ walk ∷ [])
  pub long : (holes : List Pix) → AreHoles (cover rects) holes → most_points < point_count edges holes → polygons ≡ map around rects

-- a component with what is written of it
pub record Part : Type 0 where
  pub rects : List Rect
  pub start : Pix
  pub polygons : List (List Pix)

-- the polygons of all components, by their start corners
pub record ArePolygonsOf (inside : PixelSet) (polygons : List (List Pix)) : Type 0 where
  pub parts : List Part
  pub each : All (λ p. ArePolygonsOfPart inside p.rects p.start p.polygons) parts
  pub all : (x y : ℤ) → inside x y ≡ true → (part : Part) × Contains parts part × (cover part.rects x y ≡ true)
  pub sorted : AllPairs (λ p q. ComesBefore p.start q.start) parts
  pub listed : polygons ≡ flat_map (λ p. p.polygons) parts

-- The edges of a set of pixels.
use Rattle.std.specs.Prelude.{◌≡◌, ◌≢◌, ◌⊎◌, ℕ, ◌+◌, ◌==◌, ◌<◌, ℤ, pos, ◌-ℤ◌, ◌≤ℤ◌, ◌<ℤ◌, Bool, true, false, not, if◌then◌else◌, List, ◌++◌, length, get_or}
use Rattle.opc_base.specs.declared.plane.Side.{Side}
use Rattle.opc_base.specs.declared.plane.Side.TheVariants.{Left}
use Rattle.outline_model.specs.Outline.{is_vertical}
use Rattle.outline_model.specs.Target.{opens}
use Rattle.outline_model.specs.declared.edge.Edge.{Edge}
use Rattle.opc_base.specs.Plane.{PixelSet}

-- the set as it is met along vertical lines, or along horizontal ones: the coordinate across the line first
abbrev pub seen : Bool → PixelSet → PixelSet
seen true inside line place = inside line place
seen false inside line place = inside place line

-- how many of the four pixels round a lattice point the set has
abbrev pub covered_round : PixelSet → ℤ → ℤ → ℕ
covered_round inside x y =
    (if inside x y then 1 else 0) + (if inside (x -ℤ pos 1) y then 1 else 0)
    + (if inside x (y -ℤ pos 1) then 1 else 0) + (if inside (x -ℤ pos 1) (y -ℤ pos 1) then 1 else 0)

abbrev pub is_convex : PixelSet → ℤ → ℤ → Bool
is_convex inside x y = covered_round inside x y == 1

-- the set is on the inner side of the line at this place, and not on its outer side
abbrev pub Faces : PixelSet → Side → ℤ → ℤ → Type 0
Faces inside side line place = (inside line place ≡ opens side) × (inside (line -ℤ pos 1) place ≡ not (opens side))

-- a maximal straight segment that has the set on its inner side and not on its outer side all along
pub record IsEdge (inside : PixelSet) (e : Edge) : Type 0 where
  pub some : e.lo <ℤ e.hi
  pub along : (place : ℤ) → e.lo ≤ℤ place → place <ℤ e.hi → Faces inside e.side e.line place
  pub before : ¬ Faces inside e.side e.line (e.lo -ℤ pos 1)
  pub after : ¬ Faces inside e.side e.line e.hi
  pub low_convex : e.low_convex ≡ is_convex inside e.line e.lo
  pub high_convex : e.high_convex ≡ is_convex inside e.line e.hi

abbrev pub edge_at : List Edge → ℕ → Edge
edge_at es k = get_or es k (record { side = Left; line = pos 0; lo = pos 0; hi = pos 0; low_convex = false; high_convex = false })

-- the line that is met first, and on it the lower edge
abbrev pub EdgePrecedes : Edge → Edge → Type 0
EdgePrecedes e f = (e.line <ℤ f.line) ⊎ ((e.line ≡ f.line) × (e.hi ≤ℤ f.lo))

-- The list has all edges of one direction, in order. The set is given as it is met along the lines of this direction.
pub record HasEdges (upright : Bool) (inside : PixelSet) (es : List Edge) : Type 0 where
  pub sorted : (j k : ℕ) → j < k → k < length es → EdgePrecedes (edge_at es j) (edge_at es k)
  pub sides : (k : ℕ) → k < length es → is_vertical (edge_at es k).side ≡ upright
  pub edges : (k : ℕ) → k < length es → IsEdge inside (edge_at es k)
  pub all : (line place : ℤ) → inside line place ≢ inside (line -ℤ pos 1) place
      → (k : ℕ) × (k < length es) × ((edge_at es k).line ≡ line) × ((edge_at es k).lo ≤ℤ place) × (place <ℤ (edge_at es k).hi)

-- all edges of the set: the vertical ones by their lines from the left, then the horizontal ones by their lines from below
pub record AreEdges (inside : PixelSet) (es : List Edge) : Type 0 where
  pub vertical : List Edge
  pub horizontal : List Edge
  pub parts : es ≡ vertical ++ horizontal
  pub upright : HasEdges true (seen true inside) vertical
  pub level : HasEdges false (seen false inside) horizontal

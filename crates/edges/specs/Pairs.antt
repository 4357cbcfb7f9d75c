-- The edges between the corners of even number and the next ones.
use Rattle.std.specs.Prelude.{◌≡◌, ◌⊎◌, ℕ, ◌+◌, ◌<◌, ◌≤◌, ◌%◌, ◌==◌, ℤ, pos, ◌<ℤ◌, int_lt, Bool, true, false, not, if◌then◌else◌, List, length}
use Rattle.opc_base.specs.declared.plane.Side.{Side}
use Rattle.opc_base.specs.declared.plane.Side.TheVariants.{Left, Right, Down, Up}
use Rattle.signed_points.specs.declared.points.Point.{Point}
use Rattle.outline_model.specs.declared.edge.Edge.{Edge}
use Rattle.signed_points.specs.Points.{point_at}
use Rattle.outline_model.specs.Edges.{edge_at}

-- the corner of this number is at this place of this line
abbrev pub IsAt : List Point → ℤ → ℤ → ℕ → Type 0
IsAt cs line place k = (k < length cs) × ((point_at cs k).line ≡ line) × ((point_at cs k).place ≡ place)

abbrev pub HasPoint : List Point → ℤ → ℤ → Type 0
HasPoint cs line place = (k : ℕ) × IsAt cs line place k

-- the side of the set, on vertical or on horizontal lines, where it is at greater coordinates, or at lower ones
abbrev pub side_at : Bool → Bool → Side
side_at true true = Left
side_at true false = Right
side_at false true = Down
side_at false false = Up

-- Whether an end is convex, from the number of its corner along the lines across: there an edge starts at each corner of
-- even number.
abbrev pub convex_at : Bool → ℕ → Bool
convex_at opening k = if opening then k % 2 == 0 else not (k % 2 == 0)

abbrev pub ConvexAt : List Point → Point → Bool → Bool → Type 0
ConvexAt others c opening convex = (k : ℕ) → IsAt others c.place c.line k → convex ≡ convex_at opening k

-- the corner is met before this place of this line
abbrev pub IsAhead : Point → ℤ → ℤ → Type 0
IsAhead c line place = (c.line <ℤ line) ⊎ ((c.line ≡ line) × (c.place <ℤ place))

-- the edge from a corner to another
pub record IsBetween (upright : Bool) (others : List Point) (first last : Point) (e : Edge) : Type 0 where
  pub side : e.side ≡ side_at upright (int_lt (pos 0) first.sign)
  pub line : e.line ≡ first.line
  pub lo : e.lo ≡ first.place
  pub hi : e.hi ≡ last.place
  pub low_convex : ConvexAt others first (int_lt (pos 0) first.sign) e.low_convex
  pub high_convex : ConvexAt others last (int_lt (pos 0) first.sign) e.high_convex

pub record ArePaired (upright : Bool) (corners others : List Point) (es : List Edge) : Type 0 where
  pub within : length es + length es ≤ length corners
  pub all : length corners ≤ length es + length es + 1
  pub between : (i : ℕ) → i < length es → IsBetween upright others (point_at corners (i + i)) (point_at corners ((i + i + 1))) (edge_at es i)

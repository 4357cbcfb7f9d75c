-- The ends of pieces, by their points.
use Rattle.std.specs.Prelude.{◌≡◌, ◌⊎◌, ℕ, ◌<◌, ℤ, pos, Some, IsSome, Bool, true, false, not, if◌then◌else◌, List, length, get_or}
use Rattle.std.specs.Ordering.{int_cmp, ordering_then}
use Rattle.std.specs.declared.cmp.Ordering.{Ordering}
use Rattle.std.specs.BTreeMap as tree
use Rattle.std.specs.BTreeMap.{BTreeMap}
use Rattle.opc_base.specs.declared.plane.Side.{Side}
use Rattle.opc_base.specs.declared.plane.Side.TheVariants.{Left}
use Rattle.outline_model.specs.declared.fragment.Join.{Join}
use Rattle.outline_model.specs.declared.fragment.Join.TheVariants.{Cut, Corner}
use Rattle.outline_model.specs.declared.fragment.Fragment.{Fragment}
use Rattle.outline_model.specs.Outline.{finish_join, fragment_at, is_rising, is_vertical, start_join}
use Rattle.outline_model.specs.Fragmentation.{piece_of}
use Rattle.outline_model.specs.declared.piece.EdgePiece.{EdgePiece}

abbrev pub pair_cmp : ℤ × ℤ → ℤ × ℤ → Ordering
pair_cmp a b = ordering_then (int_cmp a.0 b.0) (int_cmp a.1 b.1)

abbrev pub piece_at : List EdgePiece → ℕ → EdgePiece
piece_at ps k = get_or ps k (record { side = Left; line = pos 0; lo = pos 0; hi = pos 0 })

-- the place at which the walk of a piece starts, or finishes
abbrev pub end_place : Bool → EdgePiece → ℤ
end_place starting p = if starting then (if is_rising p.side then p.lo else p.hi) else (if is_rising p.side then p.hi else p.lo)

-- its point
abbrev pub end_of : Bool → EdgePiece → ℤ × ℤ
end_of starting p = if is_vertical p.side then (p.line, end_place starting p) else (end_place starting p, p.line)

-- the map has the number of a piece at each point at which one of the first n pieces starts, or finishes
pub record AreIndexed (starting : Bool) (ps : List EdgePiece) (n : ℕ) (ends : BTreeMap (ℤ × ℤ) ℕ) : Type 0 where
  pub named : (q : ℤ × ℤ) (j : ℕ) → tree.get pair_cmp ends q ≡ Some j → (j < n) × (end_of starting (piece_at ps j) ≡ q)
  pub all : (j : ℕ) → j < n → IsSome (tree.get pair_cmp ends (end_of starting (piece_at ps j)))

-- the join names a piece of which an end is at the point: of the same side at a cut, across it at a corner
abbrev pub JoinsAt : Bool → List EdgePiece → Side → Join → ℤ × ℤ → Type 0
JoinsAt starting ps side (Cut j) point = (j < length ps) × (end_of starting (piece_at ps j) ≡ point) × ((piece_at ps j).side ≡ side)
JoinsAt starting ps side (Corner j) point =
    (j < length ps) × (end_of starting (piece_at ps j) ≡ point) × (is_vertical (piece_at ps j).side ≡ not (is_vertical side))

-- a piece starts where this one finishes, or the other way round, and each that does is of the same side or across it
pub record IsMet (starting : Bool) (ps : List EdgePiece) (p : EdgePiece) : Type 0 where
  pub number : ℕ
  pub below : number < length ps
  pub point : end_of starting (piece_at ps number) ≡ end_of (not starting) p
  pub sides : (j : ℕ) → j < length ps → end_of starting (piece_at ps j) ≡ end_of (not starting) p
      → ((piece_at ps j).side ≡ p.side) ⊎ (is_vertical (piece_at ps j).side ≡ not (is_vertical p.side))

-- a fragment with its piece, joined at both ends
pub record IsJoinedPiece (ps : List EdgePiece) (p : EdgePiece) (f : Fragment) : Type 0 where
  pub piece : piece_of f ≡ p
  pub finish : JoinsAt true ps p.side (finish_join f) (end_of false p)
  pub start : JoinsAt false ps p.side (start_join f) (end_of true p)

-- the first n pieces as fragments
pub record AreJoinedPieces (ps : List EdgePiece) (n : ℕ) (fs : List Fragment) : Type 0 where
  pub count : length fs ≡ n
  pub each : (k : ℕ) → k < n → IsJoinedPiece ps (piece_at ps k) (fragment_at fs k)

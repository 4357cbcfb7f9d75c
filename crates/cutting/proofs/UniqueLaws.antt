-- A set whose pixels nowhere touch at a corner only has one list of fragments.
use Rattle.std.proofs.Common.{◌≡◌, ◌≢◌, ℕ, ◌<◌, ℤ, pos, Bool, true, false, not, if◌then◌else◌, List, length, get_or, map, refl, sym, ◌∙◌, ap, subst}
use Rattle.std.proofs.lemmas.List.{ext_get_or}
use Rattle.opc_base.specs.declared.plane.Side.{Side}
use Rattle.opc_base.specs.declared.plane.Side.TheVariants.{Left, Right, Down, Up}
use Rattle.opc_base.specs.declared.rules.CutRules.{CutRules}
use Rattle.opc_base.specs.Plane.{PixelSet}
use Rattle.opc_base.specs.Runs.{IsCornerTouch}
use Rattle.outline_model.specs.declared.fragment.Fragment.{Fragment}
use Rattle.outline_model.specs.declared.fragment.Join.{Join}
use Rattle.outline_model.specs.declared.fragment.Join.TheVariants.{Cut, Corner}
use Rattle.outline_model.specs.declared.piece.EdgePiece.{EdgePiece}
use Rattle.outline_model.specs.Fragmentation.{AreFragments, piece_of}
use Rattle.outline_model.specs.Outline.{Point, finish_join, fragment_at, is_rising, is_vertical, point_on, start_join}
use Rattle.outline_model.specs.Target.{IsBoundary, IsJoined, Names, finish_point, start_point}
use Rattle.outline_model.proofs.TargetJoins.{finishes_once, starts_once}
use Rattle.cutting.proofs.BoundaryLaws.{length-pieces, none_piece, outline_of_fragments, piece_at, pieces_are_unique}
use Rattle.cutting.proofs.FragmentLaws.{rules_hold}

-- ---- a fragment is its piece and its joins

abbrev joined_piece : EdgePiece → Join → Join → Fragment
joined_piece p start finish = record {
  side = p.side;
  edge = p.line;
  lo = p.lo;
  hi = p.hi;
  low = if is_rising p.side then start else finish;
  high = if is_rising p.side then finish else start;
}

joined_again : (f : Fragment) → joined_piece (piece_of f) (start_join f) (finish_join f) ≡ f
joined_again f = by f.side f.edge f.lo f.hi f.low f.high
  where
    by : (s : Side) (edge lo hi : ℤ) (low high : Join)
        → joined_piece (record { side = s; line = edge; lo = lo; hi = hi }) (if is_rising s then low else high) (if is_rising s then high else low)
        ≡ record { side = s; edge = edge; lo = lo; hi = hi; low = low; high = high }
    by Left edge lo hi low high = refl
    by Right edge lo hi low high = refl
    by Down edge lo hi low high = refl
    by Up edge lo hi low high = refl

same_fragment : (f g : Fragment) → piece_of f ≡ piece_of g → start_join f ≡ start_join g → finish_join f ≡ finish_join g → f ≡ g
same_fragment f g piece start finish =
    sym (joined_again f)
    ∙ ap (λ p. joined_piece p (start_join f) (finish_join f)) piece
    ∙ ap (λ j. joined_piece (piece_of g) j (finish_join f)) start
    ∙ ap (joined_piece (piece_of g) (start_join g)) finish
    ∙ joined_again g

-- ---- the points of the same pieces

abbrev piece_start : EdgePiece → Point
piece_start p = point_on p.side p.line (if is_rising p.side then p.lo else p.hi)

abbrev piece_finish : EdgePiece → Point
piece_finish p = point_on p.side p.line (if is_rising p.side then p.hi else p.lo)

same_piece : (fs gs : List Fragment) (k : ℕ) → map piece_of fs ≡ map piece_of gs → piece_of (fragment_at fs k) ≡ piece_of (fragment_at gs k)
same_piece fs gs k same = sym (piece_at fs k) ∙ ap (λ ps. get_or ps k none_piece) same ∙ piece_at gs k

not_its_own : (b : Bool) → b ≢ not b
not_its_own true e = cc
not_its_own false e = cc

-- two lists of the same pieces, of which no two have the same end
record AreAlike (other_end : Fragment → Point) (fs gs : List Fragment) : Type 0 where
  pub few : length fs ≡ length gs
  pub sides : (k : ℕ) → (fragment_at fs k).side ≡ (fragment_at gs k).side
  pub ends : (k : ℕ) → other_end (fragment_at fs k) ≡ other_end (fragment_at gs k)
  pub once : (j k : ℕ) → j < length fs → k < length fs → other_end (fragment_at fs j) ≡ other_end (fragment_at fs k) → j ≡ k

-- joins of the same piece that name what has an end at the same point
one_join : (other_end : Fragment → Point) (fs gs : List Fragment) (f g : Fragment) (s t : Join) (p q : Point) → AreAlike other_end fs gs
    → f.side ≡ g.side → p ≡ q → Names other_end fs f s p → Names other_end gs g t q → s ≡ t
one_join other_end fs gs f g s t p q alike side point = by s t
  where
    same : (j m : ℕ) → j < length fs → m < length gs → other_end (fragment_at fs j) ≡ p → other_end (fragment_at gs m) ≡ q → j ≡ m
    same j m j_below m_below e h =
        alike.once j m j_below (subst (λ n. m < n) (sym alike.few) m_below) (e ∙ point ∙ sym h ∙ sym (alike.ends m))

    across : (j m : ℕ) → j ≡ m → is_vertical (fragment_at fs j).side ≡ is_vertical (fragment_at gs m).side
    across j m e = ap (λ k. is_vertical (fragment_at fs k).side) e ∙ ap is_vertical (alike.sides m)

    by : (s t : Join) → Names other_end fs f s p → Names other_end gs g t q → s ≡ t
    by (Cut j) (Cut m) a b = ap Cut (same j m a.0 b.0 a.1 b.1)
    by (Corner j) (Corner m) a b = ap Corner (same j m a.0 b.0 a.1 b.1)
    by (Cut j) (Corner m) a b =
        absurd (not_its_own (is_vertical g.side)
        (ap is_vertical (sym side) ∙ ap is_vertical (sym a.2) ∙ across j m (same j m a.0 b.0 a.1 b.1) ∙ b.2))
    by (Corner j) (Cut m) a b =
        absurd (not_its_own (is_vertical f.side)
        (ap is_vertical side ∙ ap is_vertical (sym b.2) ∙ sym (across j m (same j m a.0 b.0 a.1 b.1)) ∙ a.2))

-- The same pieces on a boundary, joined by their points, are the same fragments.
joined_once : (inside : PixelSet) (fs gs : List Fragment) → IsBoundary inside fs → ((x y : ℤ) → ¬ IsCornerTouch inside x y)
    → IsJoined fs → IsJoined gs → map piece_of fs ≡ map piece_of gs → fs ≡ gs
joined_once inside fs gs boundary none first second same =
    ext_get_or (record { side = Left; edge = pos 0; lo = pos 0; hi = pos 0; low = Cut 0; high = Cut 0 }) fs gs few each
  where
    few : length fs ≡ length gs
    few = sym (length-pieces fs) ∙ ap length same ∙ length-pieces gs

    side : (k : ℕ) → (fragment_at fs k).side ≡ (fragment_at gs k).side
    side k = ap (λ (p : EdgePiece). p.side) (same_piece fs gs k same)

    starts : (k : ℕ) → start_point (fragment_at fs k) ≡ start_point (fragment_at gs k)
    starts k = ap piece_start (same_piece fs gs k same)

    finishes : (k : ℕ) → finish_point (fragment_at fs k) ≡ finish_point (fragment_at gs k)
    finishes k = ap piece_finish (same_piece fs gs k same)

    by_starts : AreAlike start_point fs gs
    by_starts = record { few = few; sides = side; ends = starts; once = λ j k. starts_once inside fs j k boundary none }

    by_finishes : AreAlike finish_point fs gs
    by_finishes = record { few = few; sides = side; ends = finishes; once = λ j k. finishes_once inside fs j k boundary none }

    each : (k : ℕ) → k < length fs → fragment_at fs k ≡ fragment_at gs k
    each k below =
        let also : k < length gs = subst (λ n. k < n) few below in
        same_fragment (fragment_at fs k) (fragment_at gs k) (same_piece fs gs k same)
        (one_join finish_point fs gs (fragment_at fs k) (fragment_at gs k) (start_join (fragment_at fs k)) (start_join (fragment_at gs k))
        (start_point (fragment_at fs k)) (start_point (fragment_at gs k)) by_finishes (side k) (starts k) (first.starts k below) (second.starts k also))
        (one_join start_point fs gs (fragment_at fs k) (fragment_at gs k) (finish_join (fragment_at fs k)) (finish_join (fragment_at gs k))
        (finish_point (fragment_at fs k)) (finish_point (fragment_at gs k)) by_starts (side k) (finishes k) (first.finishes k below) (second.finishes k also))

-- A set whose pixels nowhere touch at a corner only has one list of fragments.
pub fragments_are_unique : (inside : PixelSet) (rules : CutRules) (fs gs : List Fragment) → ((x y : ℤ) → ¬ IsCornerTouch inside x y)
    → AreFragments inside rules fs → AreFragments inside rules gs → fs ≡ gs
fragments_are_unique inside rules fs gs none first second =
    joined_once inside fs gs (outline_of_fragments inside rules fs (rules_hold rules) none first).0 none first.joins second.joins
    (pieces_are_unique inside rules (map piece_of fs) (map piece_of gs) first.pieces second.pieces)

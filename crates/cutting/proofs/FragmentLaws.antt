-- The pieces of the edges of a region become its fragments.
use Rattle.std.proofs.Common.{◌≡◌, ◌⊎◌, inl, inr, ℕ, ◌<◌, ◌≤◌, ℤ, pos, negsuc, unsigned_abs, ◌-ℤ◌, ◌<ℤ◌, int_lt, Bool, true, false, not, if◌then◌else◌, List, [], ◌∷◌, length, map, refl, sym, ◌∙◌, ap, subst, arith}
use Rattle.std.specs.Prelude.{All}
use Rattle.std.proofs.lemmas.Int.{ints}
use Rattle.std.proofs.lemmas.List.{ext_get_or, length-map}
use Rattle.std.proofs.Math.ListN.{get_or-map}
use Rattle.opc_base.specs.declared.plane.Rect.{Rect}
use Rattle.opc_base.specs.declared.plane.Side.{Side}
use Rattle.opc_base.specs.declared.plane.Side.TheVariants.{Left, Right, Down, Up}
use Rattle.opc_base.specs.declared.rules.CutRules.{CutRules}
use Rattle.opc_base.specs.Canonical.{AreCanonical, Precedes}
use Rattle.opc_base.specs.Plane.{IsRectWithin, PixelSet, cover}
use Rattle.opc_base.specs.Runs.{IsCornerTouch}
use Rattle.outline_model.specs.declared.fragment.Fragment.{Fragment}
use Rattle.outline_model.specs.declared.fragment.Join.{Join}
use Rattle.outline_model.specs.declared.fragment.Join.TheVariants.{Cut, Corner}
use Rattle.outline_model.specs.declared.piece.EdgePiece.{EdgePiece}
use Rattle.outline_model.specs.Fragmentation.{AreFragments, ArePieces, piece_of}
use Rattle.outline_model.specs.Lengths.{AreRules}
use Rattle.outline_model.specs.Limits.{IsFragmentList}
use Rattle.outline_model.specs.MaskRange.{IsInMask, mask_limit}
use Rattle.outline_model.specs.Outline.{Point, finish_join, fragment_at, is_rising, is_vertical, point_on, start_join}
use Rattle.outline_model.specs.Ranges.{IsWithin}
use Rattle.outline_model.specs.Target.{IsBoundary, IsJoined, Names, finish_point, opens, start_point}
use Rattle.outline_model.proofs.TargetJoins.{finish_leads_on, meets_side, start_leads_back}
use Rattle.edges.specs.Disjoint.{AreApart, AreSolidAndApart}
use Rattle.cutting.specs.Ends.{AreJoinedPieces, IsMet, JoinsAt, end_of, piece_at}
use Rattle.cutting.proofs.BoundaryLaws.{boundary_of_pieces, outline_of_fragments}
use Rattle.cutting.proofs.EdgeBounds.{faced_within}

-- ---- the rules and the rectangles of a region

pub rules_hold : (rules : CutRules) → AreRules rules
rules_hold rules = record {
  piece = rules.piece_in_range;
  corner_out = rules.corner_out_in_range;
  corner_in = rules.corner_in_in_range;
  line_end = rules.line_end_in_range;
}

in_mask : (limit : ℕ) (z : ℤ) → limit ≤ mask_limit → unsigned_abs z ≤ limit → IsInMask z
in_mask limit (pos n) most h = (omega (arith, ints), omega (arith, ints))
in_mask limit (negsuc n) most h = (omega (arith, ints), omega (arith, ints))

apart : (r s : Rect) → Precedes r s → AreApart r s
apart r s order = by (int_lt s.y0 r.y1) refl
  where
    by : (t : Bool) → int_lt s.y0 r.y1 ≡ t → AreApart r s
    by true e = inl (elim (order.apart (omega (arith, ints))) [ inl h ↦ inl (omega (arith, ints)) | inr h ↦ inr (omega (arith, ints)) ])
    by false e = inr (inl (omega (arith, ints)))

-- the rectangles of a region do not overlap
pub canonical_apart : (limit : ℕ) (rects : List Rect) → limit ≤ mask_limit → AreCanonical rects → All (IsRectWithin limit) rects → AreSolidAndApart rects
canonical_apart limit rects most canonical within = record {
  solid = λ k d below.
      let solid = canonical.solid k d below in
      let near = within k d below in
      record {
        wide = solid.wide;
        high = solid.high;
        left = in_mask limit _ most near.0;
        right = in_mask limit _ most near.2;
        bottom = in_mask limit _ most near.1;
        top = in_mask limit _ most near.3;
      };
  apart = λ j k d less below. apart _ _ (canonical.pairs j k d less below);
}

-- ---- the points of pieces and of fragments

pair_of : Point → ℤ × ℤ
pair_of p = (p.x, p.y)

same_point : (p q : Point) → pair_of p ≡ pair_of q → p ≡ q
unfolding pair_of
same_point p q e = let point : ℤ × ℤ → Point = λ z. record { x = z.0; y = z.1 } in ap point e

starts_pair : (f : Fragment) → end_of true (piece_of f) ≡ pair_of (start_point f)
unfolding pair_of
starts_pair f = by f.side f.edge f.lo f.hi
  where
    by : (s : Side) (edge lo hi : ℤ) → end_of true (record { side = s; line = edge; lo = lo; hi = hi }) ≡ pair_of (point_on s edge (if is_rising s then lo else hi))
    by Left edge lo hi = refl
    by Right edge lo hi = refl
    by Down edge lo hi = refl
    by Up edge lo hi = refl

finishes_pair : (f : Fragment) → end_of false (piece_of f) ≡ pair_of (finish_point f)
unfolding pair_of
finishes_pair f = by f.side f.edge f.lo f.hi
  where
    by : (s : Side) (edge lo hi : ℤ) → end_of false (record { side = s; line = edge; lo = lo; hi = hi }) ≡ pair_of (point_on s edge (if is_rising s then hi else lo))
    by Left edge lo hi = refl
    by Right edge lo hi = refl
    by Down edge lo hi = refl
    by Up edge lo hi = refl

-- fragments that start and finish where these pieces do
start_meets : (f g : Fragment) (p q : EdgePiece) → piece_of f ≡ p → piece_of g ≡ q → end_of true p ≡ end_of false q → start_point f ≡ finish_point g
start_meets f g p q a b e =
    same_point (start_point f) (finish_point g)
    (sym (starts_pair f) ∙ ap (end_of true) a ∙ e ∙ sym (ap (end_of false) b) ∙ finishes_pair g)

meets_start : (f g : Fragment) (p q : EdgePiece) → piece_of f ≡ p → piece_of g ≡ q → start_point f ≡ finish_point g → end_of true p ≡ end_of false q
meets_start f g p q a b e = sym (ap (end_of true) a) ∙ starts_pair f ∙ ap pair_of e ∙ sym (finishes_pair g) ∙ ap (end_of false) b

-- ---- pieces before they are joined

-- the piece as a fragment that is joined to nothing
abbrev pub unjoined : EdgePiece → Fragment
unjoined p = record { side = p.side; edge = p.line; lo = p.lo; hi = p.hi; low = Cut 0; high = Cut 0 }

pub unjoined-map : (ps : List EdgePiece) → map piece_of (map unjoined ps) ≡ ps
unjoined-map [] = refl
unjoined-map (p ∷ ps) = ap (λ t. p ∷ t) (unjoined-map ps)

unjoined_at : (ps : List EdgePiece) (k : ℕ) → piece_of (fragment_at (map unjoined ps) k) ≡ piece_at ps k
unjoined_at ps k = ap piece_of (get_or-map unjoined ps k (record { side = Left; line = pos 0; lo = pos 0; hi = pos 0 }))

unjoined_boundary : (inside : PixelSet) (rules : CutRules) (ps : List EdgePiece) → AreRules rules → ArePieces inside rules ps → IsBoundary inside (map unjoined ps)
unjoined_boundary inside rules ps are pieces =
    boundary_of_pieces inside rules pieces.edges (map unjoined ps) are pieces.are_edges (unjoined-map ps ∙ pieces.pieces)

abbrev AreBeside : EdgePiece → EdgePiece → Type 0
AreBeside q p = (q.side ≡ p.side) ⊎ (is_vertical q.side ≡ not (is_vertical p.side))

beside_back : (p q : EdgePiece) → AreBeside p q → AreBeside q p
beside_back p q (inl h) = inl (sym h)
beside_back p q (inr h) = inr (by (is_vertical p.side) (is_vertical q.side) h)
  where
    by : (a b : Bool) → a ≡ not b → b ≡ not a
    by true true e = absurd (cc e)
    by true false e = refl
    by false true e = refl
    by false false e = absurd (cc e)

-- a piece that starts where another finishes is of the same side, or across it
beside : (inside : PixelSet) (ps : List EdgePiece) (j k : ℕ) → IsBoundary inside (map unjoined ps) → j < length ps → k < length ps
    → end_of true (piece_at ps j) ≡ end_of false (piece_at ps k) → AreBeside (piece_at ps j) (piece_at ps k)
beside inside ps j k boundary j_below k_below e =
    let fs : List Fragment = map unjoined ps in
    let few : length fs ≡ length ps = length-map ps unjoined in
    let meets = meets_side inside fs j k boundary (omega arith) (omega arith)
    (start_meets (fragment_at fs j) (fragment_at fs k) (piece_at ps j) (piece_at ps k) (unjoined_at ps j) (unjoined_at ps k) e) in
    subst (λ p. AreBeside (piece_at ps j) p) (unjoined_at ps k) (subst (λ q. AreBeside q (piece_of (fragment_at fs k))) (unjoined_at ps j) meets)

-- Each piece of a region without corner touches is met at its finish, and at its start.
pub met_next_on : (inside : PixelSet) (ps : List EdgePiece) (k : ℕ) → ((x y : ℤ) → ¬ IsCornerTouch inside x y)
    → IsBoundary inside (map unjoined ps) → k < length ps → IsMet true ps (piece_at ps k)
met_next_on inside ps k none boundary below =
    let fs : List Fragment = map unjoined ps in
    let few : length fs ≡ length ps = length-map ps unjoined in
    let found = finish_leads_on inside fs k boundary none (omega arith) in
    record {
      number = found.0;
      below = (let h = found.1 in omega arith);
      point = meets_start (fragment_at fs found.0) (fragment_at fs k) (piece_at ps found.0) (piece_at ps k) (unjoined_at ps found.0) (unjoined_at ps k) found.2;
      sides = λ j j_below e. beside inside ps j k boundary j_below below e;
    }

pub met_previous_on : (inside : PixelSet) (ps : List EdgePiece) (k : ℕ) → ((x y : ℤ) → ¬ IsCornerTouch inside x y)
    → IsBoundary inside (map unjoined ps) → k < length ps → IsMet false ps (piece_at ps k)
met_previous_on inside ps k none boundary below =
    let fs : List Fragment = map unjoined ps in
    let few : length fs ≡ length ps = length-map ps unjoined in
    let found = start_leads_back inside fs k boundary none (omega arith) in
    record {
      number = found.0;
      below = (let h = found.1 in omega arith);
      point = sym (meets_start (fragment_at fs k) (fragment_at fs found.0) (piece_at ps k) (piece_at ps found.0) (unjoined_at ps k) (unjoined_at ps found.0) (sym found.2));
      sides = λ j j_below e. beside_back (piece_at ps k) (piece_at ps j) (beside inside ps k j boundary below j_below (sym e));
    }

pub met_next : (inside : PixelSet) (rules : CutRules) (ps : List EdgePiece) (k : ℕ) → AreRules rules → ((x y : ℤ) → ¬ IsCornerTouch inside x y)
    → ArePieces inside rules ps → k < length ps → IsMet true ps (piece_at ps k)
met_next inside rules ps k are none pieces below = met_next_on inside ps k none (unjoined_boundary inside rules ps are pieces) below

pub met_previous : (inside : PixelSet) (rules : CutRules) (ps : List EdgePiece) (k : ℕ) → AreRules rules → ((x y : ℤ) → ¬ IsCornerTouch inside x y)
    → ArePieces inside rules ps → k < length ps → IsMet false ps (piece_at ps k)
met_previous inside rules ps k are none pieces below = met_previous_on inside ps k none (unjoined_boundary inside rules ps are pieces) below

-- ---- pieces that are joined

pub joined-map : (ps : List EdgePiece) (fs : List Fragment) → AreJoinedPieces ps (length ps) fs → map piece_of fs ≡ ps
joined-map ps fs joined =
    ext_get_or (record { side = Left; line = pos 0; lo = pos 0; hi = pos 0 }) (map piece_of fs) ps (length-map fs piece_of ∙ joined.count)
    (λ i below.
    get_or-map piece_of fs i (record { side = Left; edge = pos 0; lo = pos 0; hi = pos 0; low = Cut 0; high = Cut 0 })
    ∙ (joined.each i (let a = length-map fs piece_of in let b = joined.count in omega arith)).piece)

pub joined_ends : (ps : List EdgePiece) (fs : List Fragment) → AreJoinedPieces ps (length ps) fs → IsJoined fs
joined_ends ps fs joined = record {
  finishes = λ k below. finishes k below (finish_join (fragment_at fs k)) (joined.each k (inside k below)).finish;
  starts = λ k below. starts k below (start_join (fragment_at fs k)) (joined.each k (inside k below)).start;
}
  where
    inside : (k : ℕ) → k < length fs → k < length ps
    inside k below = let all = joined.count in omega arith

    outside : (k : ℕ) → k < length ps → k < length fs
    outside k below = let all = joined.count in omega arith

    is : (k : ℕ) → k < length ps → piece_of (fragment_at fs k) ≡ piece_at ps k
    is k below = (joined.each k below).piece

    side_is : (j k : ℕ) → j < length ps → k < length ps → (piece_at ps j).side ≡ (piece_at ps k).side → (fragment_at fs j).side ≡ (fragment_at fs k).side
    side_is j k j_below k_below e = ap (λ (p : EdgePiece). p.side) (is j j_below) ∙ e ∙ sym (ap (λ (p : EdgePiece). p.side) (is k k_below))

    across_is : (j k : ℕ) → j < length ps → k < length ps → is_vertical (piece_at ps j).side ≡ not (is_vertical (piece_at ps k).side)
        → is_vertical (fragment_at fs j).side ≡ not (is_vertical (fragment_at fs k).side)
    across_is j k j_below k_below e =
        ap (λ (p : EdgePiece). is_vertical p.side) (is j j_below) ∙ e ∙ sym (ap (λ (p : EdgePiece). not (is_vertical p.side)) (is k k_below))

    starts_at : (j k : ℕ) → j < length ps → k < length ps → end_of true (piece_at ps j) ≡ end_of false (piece_at ps k)
        → start_point (fragment_at fs j) ≡ finish_point (fragment_at fs k)
    starts_at j k j_below k_below e =
        start_meets (fragment_at fs j) (fragment_at fs k) (piece_at ps j) (piece_at ps k) (is j j_below) (is k k_below) e

    finishes : (k : ℕ) → k < length fs → (t : Join) → JoinsAt true ps (piece_at ps k).side t (end_of false (piece_at ps k))
        → Names start_point fs (fragment_at fs k) t (finish_point (fragment_at fs k))
    finishes k below (Cut j) h = (outside j h.0, starts_at j k h.0 (inside k below) h.1, side_is j k h.0 (inside k below) h.2)
    finishes k below (Corner j) h = (outside j h.0, starts_at j k h.0 (inside k below) h.1, across_is j k h.0 (inside k below) h.2)

    starts : (k : ℕ) → k < length fs → (t : Join) → JoinsAt false ps (piece_at ps k).side t (end_of true (piece_at ps k))
        → Names finish_point fs (fragment_at fs k) t (start_point (fragment_at fs k))
    starts k below (Cut j) h = (outside j h.0, sym (starts_at k j (inside k below) h.0 (sym h.1)), side_is j k h.0 (inside k below) h.2)
    starts k below (Corner j) h = (outside j h.0, sym (starts_at k j (inside k below) h.0 (sym h.1)), across_is j k h.0 (inside k below) h.2)

-- The joined pieces of a region are its fragments.
pub fragments_of_joined : (inside : PixelSet) (rules : CutRules) (ps : List EdgePiece) (fs : List Fragment) → ArePieces inside rules ps
    → AreJoinedPieces ps (length ps) fs → AreFragments inside rules fs
fragments_of_joined inside rules ps fs pieces joined = record {
  pieces = subst (ArePieces inside rules) (sym (joined-map ps fs joined)) pieces;
  joins = joined_ends ps fs joined;
}

-- ---- what is known of the fragments of a region

-- a fragment within this limit
pub record IsFragmentWithin (limit : ℕ) (f : Fragment) : Type 0 where
  pub edge : IsWithin limit f.edge
  pub lo : IsWithin limit f.lo
  pub hi : IsWithin limit f.hi

-- a fragment on the boundary of rectangles is within their limit
pub fragment_within : (limit : ℕ) (rects : List Rect) (fs : List Fragment) (k : ℕ) → All (IsRectWithin limit) rects → IsBoundary (cover rects) fs → k < length fs
    → IsFragmentWithin limit (fragment_at fs k)
fragment_within limit rects fs k near boundary below = by (is_vertical f.side) refl
  where
    f : Fragment
    f = fragment_at fs k

    by : (v : Bool) → is_vertical f.side ≡ v → IsFragmentWithin limit f
    by true v =
        let some : f.lo <ℤ f.hi = boundary.some k below in
        let first = boundary.upright k f.edge f.lo below (v, refl, omega (arith, ints), some) in
        let last = boundary.upright k f.edge (f.hi -ℤ pos 1) below (v, refl, omega (arith, ints), omega (arith, ints)) in
        let a = faced_within limit true rects (opens f.side) f.edge f.lo near first.0 first.1 in
        let b = faced_within limit true rects (opens f.side) f.edge (f.hi -ℤ pos 1) near last.0 last.1 in
        let low = a.1.0 in
        let high = b.1.1 in
        record { edge = a.0; lo = (low, omega (arith, ints)); hi = (omega (arith, ints), omega (arith, ints)) }
    by false v =
        let some : f.lo <ℤ f.hi = boundary.some k below in
        let first = boundary.level k f.lo f.edge below (v, refl, omega (arith, ints), some) in
        let last = boundary.level k (f.hi -ℤ pos 1) f.edge below (v, refl, omega (arith, ints), omega (arith, ints)) in
        let a = faced_within limit false rects (opens f.side) f.edge f.lo near first.0 first.1 in
        let b = faced_within limit false rects (opens f.side) f.edge (f.hi -ℤ pos 1) near last.0 last.1 in
        let low = a.1.0 in
        let high = b.1.1 in
        record { edge = a.0; lo = (low, omega (arith, ints)); hi = (omega (arith, ints), omega (arith, ints)) }

-- The fragments of a region are on its boundary, form closed walks, and lie within the limit of a layout.
pub list_of_fragments : (rects : List Rect) (rules : CutRules) (fs : List Fragment) → AreCanonical rects → All (IsRectWithin 1048000) rects
    → ((x y : ℤ) → ¬ IsCornerTouch (cover rects) x y) → AreFragments (cover rects) rules fs → length fs ≤ 32768
    → IsBoundary (cover rects) fs × IsFragmentList fs
list_of_fragments rects rules fs canonical within none fragments few =
    let known = outline_of_fragments (cover rects) rules fs (rules_hold rules) none fragments in (
      known.0,
      record {
        outline = known.1;
        few = few;
        some = known.0.some;
        edge_within = λ k below. (fragment_within 1048000 rects fs k within known.0 below).edge;
        lo_within = λ k below. (fragment_within 1048000 rects fs k within known.0 below).lo;
        hi_within = λ k below. (fragment_within 1048000 rects fs k within known.0 below).hi;
        is_cut = record { rects = rects; rules = rules; canonical = canonical; no_touch = none; fragments = fragments };
      },
    )

-- The edges of a set, each as one fragment, are its border.
use Rattle.std.proofs.Common.{◌≡◌, ◌⊎◌, inl, inr, ℕ, suc, ◌+◌, ◌-◌, ◌<◌, ◌≤◌, nat_lt, ℤ, pos, negsuc, ◌-ℤ◌, ◌≤ℤ◌, ◌<ℤ◌, int_le, neg_ℤ, unsigned_abs, Bool, true, false, not, if◌then◌else◌, List, [], ◌∷◌, ◌++◌, length, get_or, map, All, refl, ap, ap₂, sym, ◌∙◌, subst, arith, length-append}
use Rattle.std.specs.List.{flat_map}
use Rattle.std.proofs.lemmas.Int.{ints}
use Rattle.std.proofs.lemmas.List.{append-nil, get_or-map, length-map, map-append}
use Rattle.std.proofs.lemmas.Bool.Decides.{Decides-ltb, not_from_Decides}
use Rattle.std.proofs.lemmas.Grind.{flat_map-append}
use Rattle.std.proofs.lemmas.List.{get_or-append-add}
use Rattle.std.proofs.Math.ListN.{get_or-append}
use Rattle.opc_base.specs.declared.plane.Side.TheVariants.{Left}
use Rattle.opc_base.specs.Plane.{IsPixWithin, IsRectWithin, PixelSet, cover, indicator}
use Rattle.outline_model.specs.declared.edge.Edge.{Edge}
use Rattle.outline_model.specs.declared.piece.EdgePiece.{EdgePiece}
use Rattle.outline_model.specs.declared.fragment.Fragment.{Fragment}
use Rattle.outline_model.specs.Edges.{AreEdges, EdgePrecedes, HasEdges, edge_at, seen}
use Rattle.outline_model.specs.Fragmentation.{piece_of}
use Rattle.outline_model.specs.Outline.{IsOutline, Piece, Point, count, crossing, finish, fragment_at, is_rising, is_vertical, jog, lines, next, own_piece, point_on, start, step, total, vertical_piece}
use Rattle.outline_model.specs.MaskRange.{IsInMask, mask_limit}
use Rattle.outline_model.specs.Target.{IsBoundary, LiesBelow, LiesLeftOf, finish_point, opens, start_point}
use Rattle.outline_model.proofs.TargetMask.{AtRest, at_rest_without_offsets, finish_at_rest, count-at_rest, start_at_rest}
use Rattle.outline_model.proofs.Totals.{total-equal}
use Rattle.opc_base.specs.declared.plane.Pix.{Pix}
use Rattle.opc_base.specs.declared.plane.Rect.{Rect}
use Rattle.opc_base.specs.Cover.{crossing as pix_crossing}
use Rattle.cutting.proofs.EdgeBounds.{rects_within}
use Rattle.cutting.proofs.FragmentLaws.{fragment_within}
use Rattle.mask_polygons.proofs.CountLaws.{AreJoinedPix, edge_count, level-counts}
use Rattle.mask_polygons.proofs.StraightLaws.{level-y}
use Rattle.cutting.proofs.BoundaryLaws.{length-pieces, piece_at}
use Rattle.mask_polygons.specs.Border.{AreNear, finish_pix, pix_of, start_pix, whole, whole_if}

abbrev pub none_edge : Edge
none_edge = record { side = Left; line = pos 0; lo = pos 0; hi = pos 0; low_convex = false; high_convex = false }

-- ---- the pieces of one direction

AreSided : Bool → List Edge → Type 0
AreSided upright es = (k : ℕ) → k < length es → is_vertical (edge_at es k).side ≡ upright

kept : (upright : Bool) (es : List Edge) → AreSided upright es → flat_map (whole_if upright) es ≡ map whole es
unfolding AreSided
kept upright [] sided = refl
kept upright (e ∷ es) sided =
    let rest = kept upright es (λ k below. sided (suc k) (omega arith)) in
    ap₂ (λ t (l : List EdgePiece). (if t then whole e ∷ [] else []) ++ l) (by upright (is_vertical e.side) (sided 0 (omega arith))) rest
  where
    by : (u v : Bool) → v ≡ u → (if u then v else not v) ≡ true
    by true v h = h
    by false v h = ap not h

left_out : (upright : Bool) (es : List Edge) → AreSided (not upright) es → flat_map (whole_if upright) es ≡ []
unfolding AreSided
left_out upright [] sided = refl
left_out upright (e ∷ es) sided =
    let rest = left_out upright es (λ k below. sided (suc k) (omega arith)) in
    ap₂ (λ t (l : List EdgePiece). (if t then whole e ∷ [] else []) ++ l) (by upright (is_vertical e.side) (sided 0 (omega arith))) rest
  where
    by : (u v : Bool) → v ≡ not u → (if u then v else not v) ≡ false
    by true v h = h
    by false v h = ap not h

pub pieces-are : (inside : PixelSet) (es : List Edge) (edges : AreEdges inside es) (none first second : List EdgePiece) → none ≡ []
    → first ≡ none ++ flat_map (whole_if false) es → second ≡ first ++ flat_map (whole_if true) es
    → second ≡ map whole (edges.horizontal ++ edges.vertical)
unfolding AreSided
pieces-are inside es edges none first second empty one two =
    let split = λ (u : Bool). ap (flat_map (whole_if u)) edges.parts ∙ flat_map-append (whole_if u) edges.vertical edges.horizontal in
    let level : flat_map (whole_if false) es ≡ map whole edges.horizontal =
    split false ∙ ap₂ (λ (a b : List EdgePiece). a ++ b) (left_out false edges.vertical edges.upright.sides) (kept false edges.horizontal edges.level.sides) in
    let upright : flat_map (whole_if true) es ≡ map whole edges.vertical =
    split true ∙ ap₂ (λ (a b : List EdgePiece). a ++ b) (kept true edges.vertical edges.upright.sides) (left_out true edges.horizontal edges.level.sides)
    ∙ append-nil (map whole edges.vertical) in
    two ∙ ap₂ (λ (a b : List EdgePiece). a ++ b) (one ∙ ap₂ (λ (a b : List EdgePiece). a ++ b) empty level) upright ∙ sym (map-append whole edges.horizontal edges.vertical)

-- ---- they are the boundary

-- the fragment is this edge
abbrev pub IsOf : Fragment → Edge → Type 0
IsOf f e = piece_of f ≡ whole e

abbrev pub Which : List Edge → List Edge → ℕ → Fragment → Type 0
Which hs vs k f =
    ((j : ℕ) × (j < length hs) × (j ≡ k) × IsOf f (edge_at hs j)) ⊎ ((j : ℕ) × (j < length vs) × (length hs + j ≡ k) × IsOf f (edge_at vs j))

-- how many, and which edge each fragment is
pub edges-count : (hs vs : List Edge) (fs : List Fragment) → map piece_of fs ≡ map whole (hs ++ vs) → length fs ≡ length hs + length vs
edges-count hs vs fs is = sym (length-pieces fs) ∙ ap length is ∙ length-map (hs ++ vs) whole ∙ length-append hs vs

pub edge-is : (hs vs : List Edge) (fs : List Fragment) (part : List Edge) (j k : ℕ) → map piece_of fs ≡ map whole (hs ++ vs)
    → get_or (hs ++ vs) k none_edge ≡ edge_at part j → k < length fs → IsOf (fragment_at fs k) (edge_at part j)
edge-is hs vs fs part j k is same below =
    sym (piece_at fs k) ∙ ap (λ (l : List EdgePiece). get_or l k (whole none_edge)) is
    ∙ get_or-map whole (hs ++ vs) k none_edge (whole none_edge) (let a = edges-count hs vs fs is in let b = length-append hs vs in omega (arith, a, b, below)) ∙ ap whole same

pub level-edge : (hs vs : List Edge) (fs : List Fragment) (j : ℕ) → map piece_of fs ≡ map whole (hs ++ vs) → j < length hs → IsOf (fragment_at fs j) (edge_at hs j)
level-edge hs vs fs j is below =
    edge-is hs vs fs hs j j is (get_or-append hs vs none_edge j below) (let a = edges-count hs vs fs is in omega (arith, a, below))

pub upright-edge : (hs vs : List Edge) (fs : List Fragment) (j : ℕ) → map piece_of fs ≡ map whole (hs ++ vs) → j < length vs
    → IsOf (fragment_at fs (length hs + j)) (edge_at vs j)
upright-edge hs vs fs j is below =
    edge-is hs vs fs vs j (length hs + j) is (get_or-append-add hs vs j none_edge) (let a = edges-count hs vs fs is in omega (arith, a, below))

pub which-edge : (hs vs : List Edge) (fs : List Fragment) (k : ℕ) → map piece_of fs ≡ map whole (hs ++ vs) → k < length fs → Which hs vs k (fragment_at fs k)
which-edge hs vs fs k is below = by (nat_lt k (length hs)) refl
  where
    by : (t : Bool) → nat_lt k (length hs) ≡ t → Which hs vs k (fragment_at fs k)
    by true e =
        let inside_left : k < length hs = (Decides-ltb k (length hs)).0 e in
        inl (k, inside_left, refl, level-edge hs vs fs k is inside_left)
    by false e =
        let past = not_from_Decides _ (Decides-ltb k (length hs)) e in
        let all = edges-count hs vs fs is in
        let j : ℕ = k - length hs in
        let inside_right : j < length vs = omega arith in
        let there : length hs + j ≡ k = omega arith in
        inr (j, inside_right, there, subst (λ n. IsOf (fragment_at fs n) (edge_at vs j)) there (upright-edge hs vs fs j is inside_right))

pub whole_boundary : (inside : PixelSet) (es : List Edge) (edges : AreEdges inside es) (fs : List Fragment)
    → map piece_of fs ≡ map whole (edges.horizontal ++ edges.vertical) → IsBoundary inside fs
whole_boundary inside es edges fs is = record {
  some = λ k below. some k (which k below);
  upright = λ k x y below lies. upright k x y lies (which k below);
  level = λ k x y below lies. level k x y lies (which k below);
  upright_all = λ x y changes.
      let e = edges.upright.all x y changes in
      let k = length hs + e.0 in
      let below : k < length fs = (let a = e.1 in let b = count in omega (arith, a, b)) in
      let f = upright-edge hs vs fs e.0 is e.1 in (
        k,
        below,
        (
          ap (λ (p : EdgePiece). is_vertical p.side) f ∙ edges.upright.sides e.0 e.1,
          ap (λ (p : EdgePiece). p.line) f ∙ e.2,
          subst (λ z. z ≤ℤ y) (sym (ap (λ (p : EdgePiece). p.lo) f)) e.3,
          subst (λ z. y <ℤ z) (sym (ap (λ (p : EdgePiece). p.hi) f)) e.4,
        ),
      );
  level_all = λ x y changes.
      let e = edges.level.all y x changes in
      let below : e.0 < length fs = (let a = e.1 in let b = count in omega (arith, a, b)) in
      let f = level-edge hs vs fs e.0 is e.1 in (
        e.0,
        below,
        (
          ap (λ (p : EdgePiece). is_vertical p.side) f ∙ edges.level.sides e.0 e.1,
          ap (λ (p : EdgePiece). p.line) f ∙ e.2,
          subst (λ z. z ≤ℤ x) (sym (ap (λ (p : EdgePiece). p.lo) f)) e.3,
          subst (λ z. x <ℤ z) (sym (ap (λ (p : EdgePiece). p.hi) f)) e.4,
        ),
      );
  upright_once = λ j k x y j_below k_below lies too. upright_once j k x y lies too (which j j_below) (which k k_below);
  level_once = λ j k x y j_below k_below lies too. level_once j k x y lies too (which j j_below) (which k k_below);
}
  where
    hs : List Edge
    hs = edges.horizontal

    vs : List Edge
    vs = edges.vertical

    count : length fs ≡ length hs + length vs
    count = edges-count hs vs fs is

    which : (k : ℕ) → k < length fs → Which hs vs k (fragment_at fs k)
    which k below = which-edge hs vs fs k is below

    some : (k : ℕ) → Which hs vs k (fragment_at fs k) → (fragment_at fs k).lo <ℤ (fragment_at fs k).hi
    some k (inl w) = subst (λ (p : EdgePiece). p.lo <ℤ p.hi) (sym w.3) (edges.level.edges w.0 w.1).some
    some k (inr w) = subst (λ (p : EdgePiece). p.lo <ℤ p.hi) (sym w.3) (edges.upright.edges w.0 w.1).some

    upright : (k : ℕ) (x y : ℤ) → LiesLeftOf (fragment_at fs k) x y → Which hs vs k (fragment_at fs k)
        → (inside x y ≡ opens (fragment_at fs k).side) × (inside (x -ℤ pos 1) y ≡ not (opens (fragment_at fs k).side))
    upright k x y lies (inl w) =
        absurd (let a = lies.0 in let b = ap (λ (p : EdgePiece). is_vertical p.side) w.3 in let d = edges.level.sides w.0 w.1 in cc (a, b, d))
    upright k x y lies (inr w) =
        let along = (edges.upright.edges w.0 w.1).along y (subst (λ z. z ≤ℤ y) (ap (λ (p : EdgePiece). p.lo) w.3) lies.2) (subst (λ z. y <ℤ z) (ap (λ (p : EdgePiece). p.hi) w.3) lies.3) in
        let line : (edge_at vs w.0).line ≡ x = sym (ap (λ (p : EdgePiece). p.line) w.3) ∙ lies.1 in
        let side : (edge_at vs w.0).side ≡ (fragment_at fs k).side = sym (ap (λ (p : EdgePiece). p.side) w.3) in
        (ap (λ l. inside l y) (sym line) ∙ along.0 ∙ ap opens side, ap (λ l. inside (l -ℤ pos 1) y) (sym line) ∙ along.1 ∙ ap (λ s. not (opens s)) side)

    level : (k : ℕ) (x y : ℤ) → LiesBelow (fragment_at fs k) x y → Which hs vs k (fragment_at fs k)
        → (inside x y ≡ opens (fragment_at fs k).side) × (inside x (y -ℤ pos 1) ≡ not (opens (fragment_at fs k).side))
    level k x y lies (inr w) =
        absurd (let a = lies.0 in let b = ap (λ (p : EdgePiece). is_vertical p.side) w.3 in let d = edges.upright.sides w.0 w.1 in cc (a, b, d))
    level k x y lies (inl w) =
        let along = (edges.level.edges w.0 w.1).along x (subst (λ z. z ≤ℤ x) (ap (λ (p : EdgePiece). p.lo) w.3) lies.2) (subst (λ z. x <ℤ z) (ap (λ (p : EdgePiece). p.hi) w.3) lies.3) in
        let line : (edge_at hs w.0).line ≡ y = sym (ap (λ (p : EdgePiece). p.line) w.3) ∙ lies.1 in
        let side : (edge_at hs w.0).side ≡ (fragment_at fs k).side = sym (ap (λ (p : EdgePiece). p.side) w.3) in
        (ap (λ l. inside x l) (sym line) ∙ along.0 ∙ ap opens side, ap (λ l. inside x (l -ℤ pos 1)) (sym line) ∙ along.1 ∙ ap (λ s. not (opens s)) side)

    -- two edges of a list that share a place are one
    one : (u : Bool) (set : PixelSet) (part : List Edge) (a b : ℕ) (line place : ℤ) → HasEdges u set part → a < length part → b < length part
        → (edge_at part a).line ≡ line → (edge_at part a).lo ≤ℤ place → place <ℤ (edge_at part a).hi
        → (edge_at part b).line ≡ line → (edge_at part b).lo ≤ℤ place → place <ℤ (edge_at part b).hi → a ≡ b
    one u set part a b line place has a_below b_below la lo_a hi_a lb lo_b hi_b = by (nat_lt a b) (nat_lt b a) refl refl
      where
        apart : (e f : Edge) → EdgePrecedes e f → e.line ≡ line → place <ℤ e.hi → f.line ≡ line → f.lo ≤ℤ place → ⊥
        apart e f (inl h) le hi_e lf lo_f = omega (arith, ints)
        apart e f (inr h) le hi_e lf lo_f = let g = h.1 in omega (arith, ints)

        by : (s t : Bool) → nat_lt a b ≡ s → nat_lt b a ≡ t → a ≡ b
        by true t e f = absurd (apart (edge_at part a) (edge_at part b) (has.sorted a b ((Decides-ltb a b).0 e) b_below) la hi_a lb lo_b)
        by false true e f = absurd (apart (edge_at part b) (edge_at part a) (has.sorted b a ((Decides-ltb b a).0 f) a_below) lb hi_b la lo_a)
        by false false e f =
            let p = not_from_Decides _ (Decides-ltb a b) e in let q = not_from_Decides _ (Decides-ltb b a) f in omega arith

    line_is : (f : Fragment) (e : Edge) (z : ℤ) → IsOf f e → f.edge ≡ z → e.line ≡ z
    line_is f e z of h = sym (ap (λ (p : EdgePiece). p.line) of) ∙ h

    lo_is : (f : Fragment) (e : Edge) (z : ℤ) → IsOf f e → f.lo ≤ℤ z → e.lo ≤ℤ z
    lo_is f e z of h = subst (λ w. w ≤ℤ z) (ap (λ (p : EdgePiece). p.lo) of) h

    hi_is : (f : Fragment) (e : Edge) (z : ℤ) → IsOf f e → z <ℤ f.hi → z <ℤ e.hi
    hi_is f e z of h = subst (λ w. z <ℤ w) (ap (λ (p : EdgePiece). p.hi) of) h

    upright_once : (j k : ℕ) (x y : ℤ) → LiesLeftOf (fragment_at fs j) x y → LiesLeftOf (fragment_at fs k) x y
        → Which hs vs j (fragment_at fs j) → Which hs vs k (fragment_at fs k) → j ≡ k
    upright_once j k x y lies too (inl w) v =
        absurd (let a = lies.0 in let b = ap (λ (p : EdgePiece). is_vertical p.side) w.3 in let d = edges.level.sides w.0 w.1 in cc (a, b, d))
    upright_once j k x y lies too (inr w) (inl v) =
        absurd (let a = too.0 in let b = ap (λ (p : EdgePiece). is_vertical p.side) v.3 in let d = edges.level.sides v.0 v.1 in cc (a, b, d))
    upright_once j k x y lies too (inr w) (inr v) =
        let f = fragment_at fs j in let g = fragment_at fs k in
        let same = one true (seen true inside) vs w.0 v.0 x y edges.upright w.1 v.1 (line_is f (edge_at vs w.0) x w.3 lies.1) (lo_is f (edge_at vs w.0) y w.3 lies.2) (hi_is f (edge_at vs w.0) y w.3 lies.3)
        (line_is g (edge_at vs v.0) x v.3 too.1) (lo_is g (edge_at vs v.0) y v.3 too.2) (hi_is g (edge_at vs v.0) y v.3 too.3) in
        sym w.2 ∙ ap (λ n. length hs + n) same ∙ v.2

    level_once : (j k : ℕ) (x y : ℤ) → LiesBelow (fragment_at fs j) x y → LiesBelow (fragment_at fs k) x y
        → Which hs vs j (fragment_at fs j) → Which hs vs k (fragment_at fs k) → j ≡ k
    level_once j k x y lies too (inr w) v =
        absurd (let a = lies.0 in let b = ap (λ (p : EdgePiece). is_vertical p.side) w.3 in let d = edges.upright.sides w.0 w.1 in cc (a, b, d))
    level_once j k x y lies too (inl w) (inr v) =
        absurd (let a = too.0 in let b = ap (λ (p : EdgePiece). is_vertical p.side) v.3 in let d = edges.upright.sides v.0 v.1 in cc (a, b, d))
    level_once j k x y lies too (inl w) (inl v) =
        let f = fragment_at fs j in let g = fragment_at fs k in
        let same = one false (seen false inside) hs w.0 v.0 y x edges.level w.1 v.1 (line_is f (edge_at hs w.0) y w.3 lies.1) (lo_is f (edge_at hs w.0) x w.3 lies.2) (hi_is f (edge_at hs w.0) x w.3 lies.3)
        (line_is g (edge_at hs v.0) y v.3 too.1) (lo_is g (edge_at hs v.0) x v.3 too.2) (hi_is g (edge_at hs v.0) x v.3 too.3) in
        sym w.2 ∙ same ∙ v.2

pub count-pieces : (inside : PixelSet) (es : List Edge) (edges : AreEdges inside es) (ps : List EdgePiece) → ps ≡ map whole (edges.horizontal ++ edges.vertical)
    → length ps ≡ length es
count-pieces inside es edges ps is =
    let a = ap length is ∙ length-map (edges.horizontal ++ edges.vertical) whole ∙ length-append edges.horizontal edges.vertical in
    let b = ap length edges.parts ∙ length-append edges.vertical edges.horizontal in
    omega (arith, a, b)

-- ---- what the border counts

abbrev rest : List Fragment → ℕ → ℤ
rest fs = lines fs []

none_moved : (fs : List Fragment) → AtRest fs (rest fs)
none_moved fs = at_rest_without_offsets fs [] (λ k. refl)

start-rest : (fs : List Fragment) (k : ℕ) → IsOutline fs → k < length fs → start fs (rest fs) k ≡ start_point (fragment_at fs k)
unfolding start
start-rest fs k outline below =
    let f = fragment_at fs k in
    ap₂ (λ (l p : ℤ). point_on f.side l p) (none_moved fs k) (start_at_rest fs (rest fs) k outline (none_moved fs) below)

finish-rest : (fs : List Fragment) (k : ℕ) → IsOutline fs → k < length fs → finish fs (rest fs) k ≡ finish_point (fragment_at fs k)
unfolding finish
finish-rest fs k outline below =
    let f = fragment_at fs k in
    ap₂ (λ (l p : ℤ). point_on f.side l p) (none_moved fs k) (finish_at_rest fs (rest fs) k outline (none_moved fs) below)

crossing-of : (piece : Piece) (p q : Point) (x y : ℤ) → piece.from ≡ p → piece.to ≡ q → crossing piece x y ≡ pix_crossing (pix_of p) (pix_of q) x y
unfolding crossing
crossing-of piece p q x y from to =
    ap₂ (λ (a b : Point). if int_le a.x x then step b.y y -ℤ step a.y y else pos 0) from to

one-count : (fs : List Fragment) (k : ℕ) (x y : ℤ) → IsOutline fs → AreJoinedPix fs → k < length fs → (v : Bool) → is_vertical (fragment_at fs k).side ≡ v
    → crossing (if v then own_piece fs (rest fs) k else jog fs (rest fs) k) x y ≡ pix_crossing (start_pix (fragment_at fs k)) (finish_pix (fragment_at fs k)) x y
one-count fs k x y outline joined below true e =
    crossing-of (own_piece fs (rest fs) k) (start_point (fragment_at fs k)) (finish_point (fragment_at fs k)) x y (start-rest fs k outline below) (finish-rest fs k outline below)
one-count fs k x y outline joined below false e =
    crossing-of (jog fs (rest fs) k) (finish_point (fragment_at fs k)) (start_point (fragment_at fs (next fs k))) x y (finish-rest fs k outline below)
    (start-rest fs (next fs k) outline (outline.next_in k below))
    ∙ level-counts (finish_pix (fragment_at fs k)) (start_pix (fragment_at fs (next fs k))) x y (ap (λ (p : Pix). p.y) (sym (joined k below)))
    ∙ sym (level-counts (start_pix (fragment_at fs k)) (finish_pix (fragment_at fs k)) x y (level-y (fragment_at fs k) e))

-- ---- the border is near

small : (z : ℤ) → IsInMask z → unsigned_abs z ≤ mask_limit
small z h = let a = h.0 in let b = h.1 in omega (arith, ints)

point-near : (v : Bool) (edge place : ℤ) → IsInMask edge → IsInMask place
    → IsPixWithin mask_limit (pix_of (if v then (let p : Point = record { x = edge; y = place } in p) else (let p : Point = record { x = place; y = edge } in p)))
point-near true edge place a b = (small edge a, small place b)
point-near false edge place a b = (small place b, small edge a)

either : (t : Bool) (a b : ℤ) → IsInMask a → IsInMask b → IsInMask (if t then a else b)
either true a b p q = p
either false a b p q = q

pub border-near : (rects : List Rect) (fs : List Fragment) → All (IsRectWithin mask_limit) rects → IsBoundary (cover rects) fs → AreNear fs
border-near rects fs near boundary k below =
    let f = fragment_at fs k in
    let is = fragment_within mask_limit rects fs k near boundary below in (
      point-near (is_vertical f.side) f.edge _ is.edge (either (is_rising f.side) f.lo f.hi is.lo is.hi),
      point-near (is_vertical f.side) f.edge _ is.edge (either (is_rising f.side) f.hi f.lo is.hi is.lo),
    )

-- ---- what the border counts, all together

left_of_all : (rs : List Rect) (x y : ℤ) → All (IsRectWithin mask_limit) rs → x <ℤ neg_ℤ (pos mask_limit) → cover rs x y ≡ false
left_of_all rs x y near far = by (cover rs x y) refl
  where
    by : (t : Bool) → cover rs x y ≡ t → t ≡ false
    by true is = absurd (let a = (rects_within mask_limit rs x y near is).0.0 in omega (arith, ints))
    by false is = refl

pub border-counts : (rects : List Rect) (fs : List Fragment) (x y : ℤ) → All (IsRectWithin mask_limit) rects → IsOutline fs → IsBoundary (cover rects) fs
    → AreJoinedPix fs → total (length fs) (edge_count fs x y) ≡ indicator (cover rects) x y
unfolding count
border-counts rects fs x y near outline boundary joined =
    sym (total-equal (length fs) (λ k. crossing (vertical_piece fs (rest fs) k) x y) (edge_count fs x y)
    (λ k below. one-count fs k x y outline joined below (is_vertical (fragment_at fs k).side) refl))
    ∙ count-at_rest (cover rects) fs (rest fs) (negsuc mask_limit) x y outline (none_moved fs) boundary
    (λ k below. inl (let e = (fragment_within mask_limit rects fs k near boundary below).edge in let l = e.0 in omega (arith, ints)))
    (λ a b left. left_of_all rects a b near (omega (arith, ints)))

-- The pieces of the edges of a set make up its boundary.
use Rattle.std.proofs.Common.{◌≡◌, ◌⊎◌, inl, inr, ℕ, zero, suc, ◌+◌, ◌-◌, ◌/◌, ◌%◌, ◌<◌, nat_lt, ℤ, pos, ◌+ℤ◌, ◌-ℤ◌, ◌≤ℤ◌, ◌<ℤ◌, int_lt, Bool, true, false, not, List, [], ◌∷◌, ◌++◌, length, get_or, map, replicate, sum, refl, sym, ◌∙◌, ap, subst, arith, append_assoc}
use Rattle.std.proofs.lemmas.Int.{ints}
use Rattle.std.proofs.lemmas.List.Sums.{sum_by-cons, sum_by-append}
use Rattle.std.proofs.lemmas.Bool.Decides.{Decides-ltb, not_from_Decides}
use Rattle.opc_base.specs.declared.plane.Side.{Side}
use Rattle.opc_base.specs.declared.plane.Side.TheVariants.{Left}
use Rattle.outline_model.specs.declared.fragment.Fragment.{Fragment}
use Rattle.outline_model.specs.Outline.{IsOutline, fragment_at, is_vertical}
use Rattle.outline_model.specs.Target.{IsBoundary, LiesLeftOf, LiesBelow, opens}
use Rattle.opc_base.specs.Runs.{IsCornerTouch}
use Rattle.outline_model.proofs.TargetJoins.{outline_of_target}
use Rattle.outline_model.specs.declared.edge.Edge.{Edge}
use Rattle.opc_base.specs.Plane.{PixelSet}
use Rattle.outline_model.specs.Edges.{seen}
use Rattle.outline_model.specs.Edges.{edge_at, Faces, IsEdge, EdgePrecedes, HasEdges, AreEdges}
use Rattle.edges.proofs.EdgesAreUnique.{all_edges_are_unique}
use Rattle.opc_base.specs.declared.rules.CutRules.{CutRules}
use Rattle.outline_model.specs.declared.piece.EdgePiece.{EdgePiece}
use Rattle.outline_model.specs.Lengths.{edge_length, end_length, is_whole, inner_length, inner_count, parts, lengths}
use Rattle.outline_model.specs.Lengths.{AreRules}
use Rattle.outline_model.specs.Pieces.{laid, pieces_along}
use Rattle.outline_model.specs.Fragmentation.{piece_of, AreFragments, ArePieces}
use Rattle.cutting.proofs.LengthLaws.{sum-parts, size_is, end_some, inner_room, inner_count_some, inner_fewer, div_some, lengths_cut, lengths_whole}

-- ---- facts about each piece of a list, and about one

abbrev Each : (EdgePiece → Type 0) → List EdgePiece → Type 0
Each P [] = Unit {0}
Each P (p ∷ ps) = P p × Each P ps

abbrev One : (EdgePiece → Type 0) → List EdgePiece → Type 0
One P [] = ⊥
One P (p ∷ ps) = P p ⊎ One P ps

each-append : (P : EdgePiece → Type 0) (ps qs : List EdgePiece) → Each P ps → Each P qs → Each P (ps ++ qs)
each-append P [] qs a b = b
each-append P (p ∷ ps) qs a b = (a.0, each-append P ps qs a.1 b)

each_weaker : (P Q : EdgePiece → Type 0) (ps : List EdgePiece) → ((p : EdgePiece) → P p → Q p) → Each P ps → Each Q ps
each_weaker P Q [] f a = tt
each_weaker P Q (p ∷ ps) f a = (f p a.0, each_weaker P Q ps f a.1)

each_at : (P : EdgePiece → Type 0) (ps : List EdgePiece) (k : ℕ) (d : EdgePiece) → Each P ps → k < length ps → P (get_or ps k d)
each_at P [] k d a h = absurd (omega arith)
each_at P (p ∷ ps) zero d a h = a.0
each_at P (p ∷ ps) (suc k) d a h = each_at P ps k d a.1 (omega arith)

one_left : (P : EdgePiece → Type 0) (ps qs : List EdgePiece) → One P ps → One P (ps ++ qs)
one_left P [] qs a = absurd a
one_left P (p ∷ ps) qs (inl a) = inl a
one_left P (p ∷ ps) qs (inr a) = inr (one_left P ps qs a)

one_right : (P : EdgePiece → Type 0) (ps qs : List EdgePiece) → One P qs → One P (ps ++ qs)
one_right P [] qs a = a
one_right P (p ∷ ps) qs a = inr (one_right P ps qs a)

one_at : (P : EdgePiece → Type 0) (ps : List EdgePiece) (d : EdgePiece) → One P ps → (k : ℕ) × (k < length ps) × P (get_or ps k d)
one_at P [] d a = absurd a
one_at P (p ∷ ps) d (inl a) = (0, omega arith, a)
one_at P (p ∷ ps) d (inr a) = let rest = one_at P ps d a in (suc rest.0, (let h = rest.1 in omega arith), rest.2)

-- vertical pieces before horizontal ones, then by lines, and on a line from the low end
abbrev Before : EdgePiece → EdgePiece → Type 0
Before p q =
    ((is_vertical p.side ≡ true) × (is_vertical q.side ≡ false))
    ⊎ ((p.line <ℤ q.line) ⊎ ((p.line ≡ q.line) × (p.hi ≤ℤ q.lo)))

abbrev InOrder : List EdgePiece → Type 0
InOrder [] = Unit {0}
InOrder (p ∷ ps) = Each (Before p) ps × InOrder ps

in_order-append : (ps qs : List EdgePiece) → InOrder ps → InOrder qs → Each (λ p. Each (Before p) qs) ps → InOrder (ps ++ qs)
in_order-append [] qs a b c = b
in_order-append (p ∷ ps) qs a b c = (each-append (Before p) ps qs a.0 c.0, in_order-append ps qs a.1 b c.1)

in_order_at : (ps : List EdgePiece) (j k : ℕ) (d : EdgePiece) → InOrder ps → j < k → k < length ps → Before (get_or ps j d) (get_or ps k d)
in_order_at [] j k d a less below = absurd (omega arith)
in_order_at (p ∷ ps) j zero d a less below = absurd (omega arith)
in_order_at (p ∷ ps) zero (suc k) d a less below = each_at (Before p) ps k d a.0 (omega arith)
in_order_at (p ∷ ps) (suc j) (suc k) d a less below = in_order_at ps j k d a.1 (omega arith) (omega arith)

-- ---- lengths that are not 0

abbrev Positive : List ℕ → Type 0
Positive [] = Unit {0}
Positive (n ∷ ns) = (0 < n) × Positive ns

positive-append : (ns ms : List ℕ) → Positive ns → Positive ms → Positive (ns ++ ms)
positive-append [] ms a b = b
positive-append (n ∷ ns) ms a b = (a.0, positive-append ns ms a.1 b)

positive-replicate : (k n : ℕ) → 0 < n → Positive (replicate k n)
positive-replicate zero n some = tt
positive-replicate (suc k) n some = (some, positive-replicate k n some)

positive-lengths : (rules : CutRules) (e : Edge) → AreRules rules → 0 < edge_length e → Positive (lengths rules e)
positive-lengths rules e are some = by (is_whole rules e) refl
  where
    by : (t : Bool) → is_whole rules e ≡ t → Positive (lengths rules e)
    by true whole = subst Positive (lengths_whole rules e whole) (some, tt)
    by false cut =
        subst Positive (lengths_cut rules e cut) (
          (end_some rules e.low_convex are).0,
          positive-append (parts (inner_length rules e) (inner_count rules e)) (end_length rules e.high_convex ∷ [])
              (positive-append (replicate (inner_length rules e % inner_count rules e) (inner_length rules e / inner_count rules e + 1)) _
              (positive-replicate _ _ (omega arith))
              (positive-replicate (inner_count rules e - inner_length rules e % inner_count rules e) (inner_length rules e / inner_count rules e)
              (div_some (inner_length rules e) (inner_count rules e) (inner_count_some rules e are cut) (inner_fewer rules e are))))
              ((end_some rules e.high_convex are).0, tt),
        )

sum-lengths : (rules : CutRules) (e : Edge) → AreRules rules → sum (lengths rules e) ≡ edge_length e
sum-lengths rules e are = by (is_whole rules e) refl
  where
    by : (t : Bool) → is_whole rules e ≡ t → sum (lengths rules e) ≡ edge_length e
    by true whole = sym (ap sum (lengths_whole rules e whole)) ∙ (let z : sum (edge_length e ∷ []) ≡ edge_length e = omega arith in z)
    by false cut =
        let a = sum_by-cons (λ x. x) (end_length rules e.low_convex) (parts (inner_length rules e) (inner_count rules e) ++ (end_length rules e.high_convex ∷ [])) in
        let b = sum_by-append (λ x. x) (parts (inner_length rules e) (inner_count rules e)) (end_length rules e.high_convex ∷ []) in
        let c = sum-parts (inner_length rules e) (inner_count rules e) (inner_count_some rules e are cut) in
        let r = (inner_room rules e cut).1 in
        let z : sum (end_length rules e.high_convex ∷ []) ≡ end_length rules e.high_convex = omega arith in
        sym (ap sum (lengths_cut rules e cut)) ∙ (let total : sum ((end_length rules e.low_convex ∷ []) ++ (parts (inner_length rules e) (inner_count rules e) ++ (end_length rules e.high_convex ∷ []))) ≡ edge_length e = omega arith in total)

-- ---- laid pieces

abbrev IsIn : Side → ℤ → ℤ → ℤ → EdgePiece → Type 0
IsIn side line low high p = (p.side ≡ side) × (p.line ≡ line) × (low ≤ℤ p.lo) × (p.hi ≤ℤ high) × (p.lo <ℤ p.hi)

each-laid : (side : Side) (line from high : ℤ) (ns : List ℕ) → Positive ns → (from +ℤ pos (sum ns)) ≤ℤ high → Each (IsIn side line from high) (laid side line from ns)
unfolding laid
each-laid side line from high [] some upto = tt
each-laid side line from high (n ∷ ns) some upto =
    let s = sum_by-cons (λ x. x) n ns in
    let a = some.0 in (
      (refl, refl, omega (arith, ints), omega (arith, ints), omega (arith, ints)),
      each_weaker (IsIn side line (from +ℤ pos n) high) (IsIn side line from high) (laid side line (from +ℤ pos n) ns)
          (λ p h. (h.0, h.1, (let b = h.2 in omega (arith, ints)), h.3, h.4))
          (each-laid side line (from +ℤ pos n) high ns some.1 (omega (arith, ints))),
    )

abbrev HasPlace : Side → ℤ → ℤ → EdgePiece → Type 0
HasPlace side line place p = (p.side ≡ side) × (p.line ≡ line) × (p.lo ≤ℤ place) × (place <ℤ p.hi)

one-laid : (side : Side) (line from place : ℤ) (ns : List ℕ) → from ≤ℤ place → place <ℤ (from +ℤ pos (sum ns)) → One (HasPlace side line place) (laid side line from ns)
unfolding laid
one-laid side line from place [] low high = absurd (omega (arith, ints))
one-laid side line from place (n ∷ ns) low high =
    by (int_lt place (from +ℤ pos n)) refl (one-laid side line (from +ℤ pos n) place ns)
  where
    by : (t : Bool) → int_lt place (from +ℤ pos n) ≡ t
        → ((from +ℤ pos n) ≤ℤ place → place <ℤ ((from +ℤ pos n) +ℤ pos (sum ns)) → One (HasPlace side line place) (laid side line (from +ℤ pos n) ns))
        → One (HasPlace side line place) (laid side line from (n ∷ ns))
    by true e rest = inl (refl, refl, low, omega (arith, ints))
    by false e rest = inr (rest (omega (arith, ints)) (let s = sum_by-cons (λ x. x) n ns in omega (arith, ints)))

in_order-laid : (side : Side) (line from : ℤ) (ns : List ℕ) → Positive ns → InOrder (laid side line from ns)
unfolding laid
in_order-laid side line from [] some = tt
in_order-laid side line from (n ∷ ns) some = (
  each_weaker (IsIn side line (from +ℤ pos n) ((from +ℤ pos n) +ℤ pos (sum ns))) _ (laid side line (from +ℤ pos n) ns)
      (λ q h. inr (inr (sym h.1, h.2)))
      (each-laid side line (from +ℤ pos n) ((from +ℤ pos n) +ℤ pos (sum ns)) ns some.1 (omega (arith, ints))),
  in_order-laid side line (from +ℤ pos n) ns some.1,
)

-- ---- the pieces of one edge

edge_some : (e : Edge) → e.lo <ℤ e.hi → (0 < edge_length e) × ((e.lo +ℤ pos (edge_length e)) ≡ e.hi)
edge_some e some =
    let is = size_is (e.hi -ℤ e.lo) (omega (arith, ints)) in (omega (arith, ints), omega (arith, ints))

each-of_edge : (rules : CutRules) (e : Edge) → AreRules rules → e.lo <ℤ e.hi → Each (IsIn e.side e.line e.lo e.hi) (laid e.side e.line e.lo (lengths rules e))
each-of_edge rules e are some =
    let l = edge_some e some in
    let s = sum-lengths rules e are in
    each-laid e.side e.line e.lo e.hi (lengths rules e) (positive-lengths rules e are l.0) (let h = l.1 in omega (arith, ints))

one-of_edge : (rules : CutRules) (e : Edge) (place : ℤ) → AreRules rules → e.lo <ℤ e.hi → e.lo ≤ℤ place → place <ℤ e.hi
    → One (HasPlace e.side e.line place) (laid e.side e.line e.lo (lengths rules e))
one-of_edge rules e place are some low high =
    let l = edge_some e some in
    let s = sum-lengths rules e are in
    one-laid e.side e.line e.lo place (lengths rules e) low (let h = l.1 in omega (arith, ints))

-- ---- the pieces of the edges of one direction

-- each edge has some length
abbrev AllSome : List Edge → Type 0
AllSome es = (k : ℕ) → k < length es → (edge_at es k).lo <ℤ (edge_at es k).hi

abbrev Follow : Edge → EdgePiece → Type 0
Follow e q = (e.line <ℤ q.line) ⊎ ((e.line ≡ q.line) × (e.hi ≤ℤ q.lo))

each-follow : (rules : CutRules) (e : Edge) (es : List Edge) → AreRules rules → AllSome es → ((k : ℕ) → k < length es → EdgePrecedes e (edge_at es k))
    → Each (Follow e) (pieces_along rules es)
unfolding pieces_along
each-follow rules e [] are some after = tt
each-follow rules e (f ∷ fs) are some after =
    each-append (Follow e) (laid f.side f.line f.lo (lengths rules f)) (pieces_along rules fs)
    (each_weaker (IsIn f.side f.line f.lo f.hi) (Follow e) (laid f.side f.line f.lo (lengths rules f)) (λ q h. by q (after 0 (omega arith)) h)
    (each-of_edge rules f are (some 0 (omega arith))))
    (each-follow rules e fs are (λ k h. some (suc k) (omega arith)) (λ k h. after (suc k) (omega arith)))
  where
    by : (q : EdgePiece) → EdgePrecedes e f → IsIn f.side f.line f.lo f.hi q → Follow e q
    by q (inl a) h = inl (let b = h.1 in omega (arith, ints))
    by q (inr a) h = inr (a.0 ∙ sym h.1, (let b = a.1 in let c = h.2 in omega (arith, ints)))

in_order-along : (rules : CutRules) (es : List Edge) → AreRules rules → AllSome es
    → ((j k : ℕ) → j < k → k < length es → EdgePrecedes (edge_at es j) (edge_at es k)) → InOrder (pieces_along rules es)
unfolding pieces_along
in_order-along rules [] are some sorted = tt
in_order-along rules (e ∷ es) are some sorted =
    in_order-append (laid e.side e.line e.lo (lengths rules e)) (pieces_along rules es)
    (in_order-laid e.side e.line e.lo (lengths rules e) (positive-lengths rules e are (edge_some e (some 0 (omega arith))).0))
    (in_order-along rules es are (λ k h. some (suc k) (omega arith)) (λ j k less h. sorted (suc j) (suc k) (omega arith) (omega arith)))
    (each_weaker (IsIn e.side e.line e.lo e.hi) (λ p. Each (Before p) (pieces_along rules es)) (laid e.side e.line e.lo (lengths rules e))
    (λ p h. each_weaker (Follow e) (Before p) (pieces_along rules es) (λ q k. by p q h k)
    (each-follow rules e es are (λ k h. some (suc k) (omega arith)) (λ k h. sorted 0 (suc k) (omega arith) (omega arith))))
    (each-of_edge rules e are (some 0 (omega arith))))
  where
    by : (p q : EdgePiece) → IsIn e.side e.line e.lo e.hi p → Follow e q → Before p q
    by p q h (inl a) = inr (inl (let b = h.1 in omega (arith, ints)))
    by p q h (inr a) = inr (inr (h.1 ∙ a.0, (let b = h.3 in let c = a.1 in omega (arith, ints))))

-- the piece has the set on its inner side and not on its outer side all along
record IsOnBoundary (upright : Bool) (inside : PixelSet) (p : EdgePiece) : Type 0 where
  upright_is : is_vertical p.side ≡ upright
  some : p.lo <ℤ p.hi
  along : (place : ℤ) → p.lo ≤ℤ place → place <ℤ p.hi → Faces inside p.side p.line place

each-along : (rules : CutRules) (upright : Bool) (inside : PixelSet) (es : List Edge) → AreRules rules
    → ((k : ℕ) → k < length es → is_vertical (edge_at es k).side ≡ upright) → ((k : ℕ) → k < length es → IsEdge inside (edge_at es k))
    → Each (IsOnBoundary upright inside) (pieces_along rules es)
unfolding pieces_along
each-along rules upright inside [] are sides edges = tt
each-along rules upright inside (e ∷ es) are sides edges =
    each-append (IsOnBoundary upright inside) (laid e.side e.line e.lo (lengths rules e)) (pieces_along rules es)
    (each_weaker (IsIn e.side e.line e.lo e.hi) (IsOnBoundary upright inside) (laid e.side e.line e.lo (lengths rules e)) by
    (each-of_edge rules e are (edges 0 (omega arith)).some))
    (each-along rules upright inside es are (λ k h. sides (suc k) (omega arith)) (λ k h. edges (suc k) (omega arith)))
  where
    by : (p : EdgePiece) → IsIn e.side e.line e.lo e.hi p → IsOnBoundary upright inside p
    by p h = record {
      upright_is = ap is_vertical h.0 ∙ sides 0 (omega arith);
      some = h.4;
      along = λ place low high.
          let f = (edges 0 (omega arith)).along place (let a = h.2 in omega (arith, ints)) (let a = h.3 in omega (arith, ints)) in
          (ap (λ l. inside l place) h.1 ∙ f.0 ∙ ap opens (sym h.0), ap (λ l. inside (l -ℤ pos 1) place) h.1 ∙ f.1 ∙ ap (λ s. not (opens s)) (sym h.0));
    }

one-along : (rules : CutRules) (es : List Edge) (k : ℕ) (place : ℤ) → AreRules rules → AllSome es → k < length es
    → (edge_at es k).lo ≤ℤ place → place <ℤ (edge_at es k).hi → One (HasPlace (edge_at es k).side (edge_at es k).line place) (pieces_along rules es)
unfolding pieces_along
one-along rules [] k place are some below low high = absurd (omega arith)
one-along rules (e ∷ es) zero place are some below low high =
    one_left _ (laid e.side e.line e.lo (lengths rules e)) (pieces_along rules es) (one-of_edge rules e place are (some 0 (omega arith)) low high)
one-along rules (e ∷ es) (suc k) place are some below low high =
    one_right _ (laid e.side e.line e.lo (lengths rules e)) (pieces_along rules es)
    (one-along rules es k place are (λ j h. some (suc j) (omega arith)) (omega arith) low high)

pieces_along-append : (rules : CutRules) (es fs : List Edge) → pieces_along rules (es ++ fs) ≡ pieces_along rules es ++ pieces_along rules fs
unfolding pieces_along
pieces_along-append rules [] fs = refl
pieces_along-append rules (e ∷ es) fs =
    ap (λ t. laid e.side e.line e.lo (lengths rules e) ++ t) (pieces_along-append rules es fs)
    ∙ again
  where
    again : laid e.side e.line e.lo (lengths rules e) ++ (pieces_along rules es ++ pieces_along rules fs)
        ≡ (laid e.side e.line e.lo (lengths rules e) ++ pieces_along rules es) ++ pieces_along rules fs
    again = rw append_assoc refl

-- ---- the fragments

abbrev IsOnEither : PixelSet → EdgePiece → Type 0
IsOnEither inside p = IsOnBoundary true (seen true inside) p ⊎ IsOnBoundary false (seen false inside) p

all_some : (upright : Bool) (inside : PixelSet) (es : List Edge) → HasEdges upright inside es → AllSome es
all_some upright inside es has k below = (has.edges k below).some

each-either : (inside : PixelSet) (rules : CutRules) (es : List Edge) → AreRules rules → (edges : AreEdges inside es)
    → Each (IsOnEither inside) (pieces_along rules edges.vertical ++ pieces_along rules edges.horizontal)
each-either inside rules es are edges =
    each-append (IsOnEither inside) (pieces_along rules edges.vertical) (pieces_along rules edges.horizontal)
    (each_weaker (IsOnBoundary true (seen true inside)) (IsOnEither inside) (pieces_along rules edges.vertical) (λ p h. inl h)
    (each-along rules true (seen true inside) edges.vertical are edges.upright.sides edges.upright.edges))
    (each_weaker (IsOnBoundary false (seen false inside)) (IsOnEither inside) (pieces_along rules edges.horizontal) (λ p h. inr h)
    (each-along rules false (seen false inside) edges.horizontal are edges.level.sides edges.level.edges))

in_order-both : (inside : PixelSet) (rules : CutRules) (es : List Edge) → AreRules rules → (edges : AreEdges inside es)
    → InOrder (pieces_along rules edges.vertical ++ pieces_along rules edges.horizontal)
in_order-both inside rules es are edges =
    in_order-append (pieces_along rules edges.vertical) (pieces_along rules edges.horizontal)
    (in_order-along rules edges.vertical are (all_some true (seen true inside) edges.vertical edges.upright) edges.upright.sorted)
    (in_order-along rules edges.horizontal are (all_some false (seen false inside) edges.horizontal edges.level) edges.level.sorted)
    (each_weaker (IsOnBoundary true (seen true inside)) (λ p. Each (Before p) (pieces_along rules edges.horizontal)) (pieces_along rules edges.vertical)
    (λ p h. each_weaker (IsOnBoundary false (seen false inside)) (Before p) (pieces_along rules edges.horizontal) (λ q k. inl (h.upright_is, k.upright_is))
    (each-along rules false (seen false inside) edges.horizontal are edges.level.sides edges.level.edges))
    (each-along rules true (seen true inside) edges.vertical are edges.upright.sides edges.upright.edges))

abbrev pub none_piece : EdgePiece
none_piece = record { side = Left; line = pos 0; lo = pos 0; hi = pos 0 }

pub length-pieces : (fs : List Fragment) → length (map piece_of fs) ≡ length fs
length-pieces [] = refl
length-pieces (f ∷ fs) = let rest = length-pieces fs in omega arith

pub piece_at : (fs : List Fragment) (k : ℕ) → get_or (map piece_of fs) k none_piece ≡ piece_of (fragment_at fs k)
piece_at [] k = refl
piece_at (f ∷ fs) zero = refl
piece_at (f ∷ fs) (suc k) = piece_at fs k

-- Each fragment that is a piece of an edge is on the boundary, and together they are the whole of it, once.
pub boundary_of_pieces : (inside : PixelSet) (rules : CutRules) (es : List Edge) (fs : List Fragment) → AreRules rules → AreEdges inside es
    → map piece_of fs ≡ pieces_along rules es → IsBoundary inside fs
boundary_of_pieces inside rules es fs are edges is = record {
  some = λ k below. some k (either k below);
  upright = λ k x y below lies. upright k x y lies (either k below);
  level = λ k x y below lies. level k x y lies (either k below);
  upright_all = λ x y changes.
      let e = edges.upright.all x y changes in
      let found = placed (edge_at edges.vertical e.0).side (edge_at edges.vertical e.0).line y
      (one_left _ (pieces_along rules edges.vertical) (pieces_along rules edges.horizontal)
      (one-along rules edges.vertical e.0 y are (all_some true (seen true inside) edges.vertical edges.upright) e.1 e.3 e.4)) in
      let at = found.2 in
      (found.0, found.1, (ap is_vertical at.0 ∙ edges.upright.sides e.0 e.1, at.1 ∙ e.2, at.2, at.3));
  level_all = λ x y changes.
      let e = edges.level.all y x changes in
      let found = placed (edge_at edges.horizontal e.0).side (edge_at edges.horizontal e.0).line x
      (one_right _ (pieces_along rules edges.vertical) (pieces_along rules edges.horizontal)
      (one-along rules edges.horizontal e.0 x are (all_some false (seen false inside) edges.horizontal edges.level) e.1 e.3 e.4)) in
      let at = found.2 in
      (found.0, found.1, (ap is_vertical at.0 ∙ edges.level.sides e.0 e.1, at.1 ∙ e.2, at.2, at.3));
  upright_once = λ j k x y j_below k_below lies too. once j k true x y j_below k_below lies too;
  level_once = λ j k x y j_below k_below lies too. once j k false y x j_below k_below lies too;
}
  where
    both : map piece_of fs ≡ pieces_along rules edges.vertical ++ pieces_along rules edges.horizontal
    both = is ∙ ap (pieces_along rules) edges.parts ∙ pieces_along-append rules edges.vertical edges.horizontal

    either : (k : ℕ) → k < length fs → IsOnEither inside (piece_of (fragment_at fs k))
    either k below =
        subst (IsOnEither inside) (piece_at fs k)
        (each_at (IsOnEither inside) (map piece_of fs) k none_piece (subst (Each (IsOnEither inside)) (sym both) (each-either inside rules es are edges))
        (let l = length-pieces fs in omega arith))

    order : (j k : ℕ) → j < k → k < length fs → Before (piece_of (fragment_at fs j)) (piece_of (fragment_at fs k))
    order j k less below =
        subst (Before (piece_of (fragment_at fs j))) (piece_at fs k)
        (subst (λ p. Before p (get_or (map piece_of fs) k none_piece)) (piece_at fs j)
        (in_order_at (map piece_of fs) j k none_piece (subst InOrder (sym both) (in_order-both inside rules es are edges)) less (let l = length-pieces fs in omega arith)))

    placed : (side : Side) (line place : ℤ) → One (HasPlace side line place) (pieces_along rules edges.vertical ++ pieces_along rules edges.horizontal)
        → (k : ℕ) × (k < length fs) × HasPlace side line place (piece_of (fragment_at fs k))
    placed side line place one =
        let found = one_at (HasPlace side line place) (map piece_of fs) none_piece (subst (One (HasPlace side line place)) (sym both) one) in
        (found.0, (let h = found.1 in let l = length-pieces fs in omega arith), subst (HasPlace side line place) (piece_at fs found.0) found.2)

    some : (k : ℕ) → IsOnEither inside (piece_of (fragment_at fs k)) → (fragment_at fs k).lo <ℤ (fragment_at fs k).hi
    some k (inl h) = h.some
    some k (inr h) = h.some

    upright : (k : ℕ) (x y : ℤ) → LiesLeftOf (fragment_at fs k) x y → IsOnEither inside (piece_of (fragment_at fs k))
        → (inside x y ≡ opens (fragment_at fs k).side) × (inside (x -ℤ pos 1) y ≡ not (opens (fragment_at fs k).side))
    upright k x y lies (inl h) =
        let f = h.along y lies.2 lies.3 in
        (ap (λ l. inside l y) (sym lies.1) ∙ f.0, ap (λ l. inside (l -ℤ pos 1) y) (sym lies.1) ∙ f.1)
    upright k x y lies (inr h) = absurd (let a = h.upright_is in let b = lies.0 in cc (a, b))

    level : (k : ℕ) (x y : ℤ) → LiesBelow (fragment_at fs k) x y → IsOnEither inside (piece_of (fragment_at fs k))
        → (inside x y ≡ opens (fragment_at fs k).side) × (inside x (y -ℤ pos 1) ≡ not (opens (fragment_at fs k).side))
    level k x y lies (inl h) = absurd (let a = h.upright_is in let b = lies.0 in cc (a, b))
    level k x y lies (inr h) =
        let f = h.along x lies.2 lies.3 in
        (ap (λ l. inside x l) (sym lies.1) ∙ f.0, ap (λ l. inside x (l -ℤ pos 1)) (sym lies.1) ∙ f.1)

    -- a place is not on two fragments of one direction
    apart : (v : Bool) (line place : ℤ) (f g : Fragment) → Before (piece_of f) (piece_of g)
        → (is_vertical f.side ≡ v) × (f.edge ≡ line) × (f.lo ≤ℤ place) × (place <ℤ f.hi)
        → (is_vertical g.side ≡ v) × (g.edge ≡ line) × (g.lo ≤ℤ place) × (place <ℤ g.hi) → ⊥
    apart v line place f g (inl h) lies too = let a = h.0 in let b = h.1 in let c = lies.0 in let d = too.0 in cc (a, b, c, d)
    apart v line place f g (inr (inl h)) lies too = let a = lies.1 in let b = too.1 in omega (arith, ints)
    apart v line place f g (inr (inr h)) lies too = let a = h.1 in let b = lies.3 in let c = too.2 in omega (arith, ints)

    once : (j k : ℕ) (v : Bool) (line place : ℤ) → j < length fs → k < length fs
        → (is_vertical (fragment_at fs j).side ≡ v) × ((fragment_at fs j).edge ≡ line) × ((fragment_at fs j).lo ≤ℤ place) × (place <ℤ (fragment_at fs j).hi)
        → (is_vertical (fragment_at fs k).side ≡ v) × ((fragment_at fs k).edge ≡ line) × ((fragment_at fs k).lo ≤ℤ place) × (place <ℤ (fragment_at fs k).hi)
        → j ≡ k
    once j k v line place j_below k_below lies too = by (nat_lt j k) (nat_lt k j) refl refl
      where
        by : (s t : Bool) → nat_lt j k ≡ s → nat_lt k j ≡ t → j ≡ k
        by true t e f = absurd (apart v line place (fragment_at fs j) (fragment_at fs k) (order j k ((Decides-ltb j k).0 e) k_below) lies too)
        by false true e f = absurd (apart v line place (fragment_at fs k) (fragment_at fs j) (order k j ((Decides-ltb k j).0 f) j_below) too lies)
        by false false e f =
            let a = not_from_Decides _ (Decides-ltb j k) e in let b = not_from_Decides _ (Decides-ltb k j) f in omega arith

-- the fragments of a set whose pixels nowhere touch at a corner only are an outline
pub outline_of_fragments : (inside : PixelSet) (rules : CutRules) (fs : List Fragment) → AreRules rules → ((x y : ℤ) → ¬ IsCornerTouch inside x y)
    → AreFragments inside rules fs → IsBoundary inside fs × IsOutline fs
outline_of_fragments inside rules fs are none fragments =
    let boundary = boundary_of_pieces inside rules fragments.pieces.edges fs are fragments.pieces.are_edges fragments.pieces.pieces in
    (boundary, outline_of_target inside fs boundary none fragments.joins)

-- a set has one list of pieces, of which the fault counts the length
pub pieces_are_unique : (inside : PixelSet) (rules : CutRules) (ps qs : List EdgePiece) → ArePieces inside rules ps → ArePieces inside rules qs → ps ≡ qs
pieces_are_unique inside rules ps qs first second =
    first.pieces ∙ ap (pieces_along rules) (all_edges_are_unique inside first.edges second.edges first.are_edges second.are_edges) ∙ sym second.pieces

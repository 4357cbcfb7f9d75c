-- A set of pixels that nowhere touches itself at a corner only has one list of polygons.
use Rattle.std.proofs.Common.{◌≡◌, ◌≢◌, ◌⊎◌, ◌↔◌, inl, inr, zero, suc, ◌<◌, ◌≤◌, nat_lt, ℤ, pos, ◌-ℤ◌, ◌<ℤ◌, int_lt, Bool, true, false, List, [], ◌∷◌, ◌++◌, length, map, All, AllPairs, Contains, refl, ap, ap₂, sym, ◌∙◌, subst, arith}
use Rattle.std.specs.List.{flat_map}
use Rattle.std.proofs.lemmas.Int.{ints}
use Rattle.std.proofs.lemmas.List.Elements.{All-contains, All-head, All-tail}
use Rattle.std.proofs.lemmas.Bool.Decides.{Decides-int_eq, Decides-ltb, not_from_Decides}
use Rattle.std.proofs.lemmas.List.{get_or_default}
use Rattle.std.specs.Ordering.{int_eq}
use Rattle.opc_base.specs.declared.plane.Pix.{Pix}
use Rattle.opc_base.specs.declared.plane.Side.{Side}
use Rattle.opc_base.specs.declared.plane.Side.TheVariants.{Left, Right, Down, Up}
use Rattle.opc_base.specs.Canonical.{IsCanonical}
use Rattle.opc_base.specs.Plane.{PixelSet, cover}
use Rattle.opc_base.specs.Runs.{IsCornerTouch}
use Rattle.opc_base.proofs.CanonicalIsUnique.{canonical_is_unique}
use Rattle.opc_base.proofs.CanonicalLaws.{canonical_for_cover}
use Rattle.opc_base.proofs.ListsInOrder.{contains_head, contains_tail, head_or_tail, same_if_ordered}
use Rattle.outline_model.specs.declared.edge.Edge.{Edge}
use Rattle.outline_model.specs.Edges.{AreEdges, seen}
use Rattle.outline_model.proofs.TargetJoins.{touch_round}
use Rattle.edges.proofs.EdgesAreUnique.{all_edges_are_unique, same_edge}
use Rattle.gds_writer.specs.MaskFile.{around}
use Rattle.mask_polygons.specs.Walk.{AreHangingOn, AreHoles, ArePassed, ArePolygonsOf, ArePolygonsOfPart, ComesBefore, IsEdgeOf, IsFirstPixel, IsHoleStart, IsLoopFrom, IsTour, IsWalk, IsWritten, LeadsTo, Part, Passage, most_points, passages, point_count, start_of}
use Rattle.mask_polygons.specs.Walk.IsWritten.{nothing, corner, detour}
use Rattle.mask_polygons.proofs.EdgeSet.{Contains-map, edge-in}
use Rattle.mask_polygons.proofs.Ways.{Has, part-within, part-no_touch, same-component}

abbrev pub NoTouch : PixelSet → Type 0
NoTouch inside = (x y : ℤ) → ¬ IsCornerTouch inside x y

-- ---- edges that start at one point

abbrev made : Side → ℤ → ℤ → ℤ → Bool → Bool → Edge
made s l a b c d = record { side = s; line = l; lo = a; hi = b; low_convex = c; high_convex = d }

-- what a set has at the point at which an edge starts
abbrev Round : PixelSet → Side → ℤ → ℤ → Type 0
Round inside Left x y = (inside x (y -ℤ pos 1) ≡ true) × (inside (x -ℤ pos 1) (y -ℤ pos 1) ≡ false)
Round inside Right x y = (inside x y ≡ false) × (inside (x -ℤ pos 1) y ≡ true)
Round inside Down x y = (inside x y ≡ true) × (inside x (y -ℤ pos 1) ≡ false)
Round inside Up x y = (inside (x -ℤ pos 1) y ≡ false) × (inside (x -ℤ pos 1) (y -ℤ pos 1) ≡ true)

round-start : (inside : PixelSet) (s : Side) (l a b : ℤ) (c d : Bool) → IsEdgeOf inside (made s l a b c d)
    → Round inside s (start_of (made s l a b c d)).x (start_of (made s l a b c d)).y
round-start inside Left l a b c d edge = let some = edge.some in edge.along (b -ℤ pos 1) (omega (arith, ints)) (omega (arith, ints))
round-start inside Right l a b c d edge = let some = edge.some in edge.along a (omega (arith, ints)) some
round-start inside Down l a b c d edge = let some = edge.some in edge.along a (omega (arith, ints)) some
round-start inside Up l a b c d edge = let some = edge.some in edge.along (b -ℤ pos 1) (omega (arith, ints)) (omega (arith, ints))

one-side : (inside : PixelSet) (x y : ℤ) → NoTouch inside → (s t : Side) → Round inside s x y → Round inside t x y → s ≡ t
one-side inside x y none Left Left r q = refl
one-side inside x y none Right Right r q = refl
one-side inside x y none Down Down r q = refl
one-side inside x y none Up Up r q = refl
one-side inside x y none Left Right r q = absurd (touch_round inside x y none (r.1 ∙ sym q.0) (r.0 ∙ sym q.1) (λ same. let a = r.0 in let b = r.1 in cc (a, b, same)))
one-side inside x y none Right Left r q = absurd (touch_round inside x y none (q.1 ∙ sym r.0) (q.0 ∙ sym r.1) (λ same. let a = q.0 in let b = q.1 in cc (a, b, same)))
one-side inside x y none Down Up r q = absurd (touch_round inside x y none (q.1 ∙ sym r.0) (r.1 ∙ sym q.0) (λ same. let a = q.1 in let b = r.1 in cc (a, b, same)))
one-side inside x y none Up Down r q = absurd (touch_round inside x y none (r.1 ∙ sym q.0) (q.1 ∙ sym r.0) (λ same. let a = r.1 in let b = q.1 in cc (a, b, same)))
one-side inside x y none Left Down r q = absurd (let a = r.0 in let b = q.1 in cc (a, b))
one-side inside x y none Left Up r q = absurd (let a = r.1 in let b = q.1 in cc (a, b))
one-side inside x y none Right Down r q = absurd (let a = r.0 in let b = q.0 in cc (a, b))
one-side inside x y none Right Up r q = absurd (let a = r.1 in let b = q.0 in cc (a, b))
one-side inside x y none Down Left r q = absurd (let a = r.1 in let b = q.0 in cc (a, b))
one-side inside x y none Down Right r q = absurd (let a = r.0 in let b = q.0 in cc (a, b))
one-side inside x y none Up Left r q = absurd (let a = r.1 in let b = q.1 in cc (a, b))
one-side inside x y none Up Right r q = absurd (let a = r.0 in let b = q.1 in cc (a, b))

same-start : (inside : PixelSet) (s : Side) (l a b : ℤ) (c d : Bool) (l' a' b' : ℤ) (c' d' : Bool) → IsEdgeOf inside (made s l a b c d)
    → IsEdgeOf inside (made s l' a' b' c' d') → start_of (made s l a b c d) ≡ start_of (made s l' a' b' c' d') → made s l a b c d ≡ made s l' a' b' c' d'
same-start inside Left l a b c d l' a' b' c' d' edge other same =
    let line : l ≡ l' = ap (λ (p : Pix). p.x) same in let place : b ≡ b' = ap (λ (p : Pix). p.y) same in
    let p = edge.some in let q = other.some in
    same_edge (seen true inside) (made Left l a b c d) (made Left l' a' b' c' d') (b -ℤ pos 1) edge other refl line
    (omega (arith, ints)) (omega (arith, ints)) (omega (arith, ints)) (omega (arith, ints))
same-start inside Right l a b c d l' a' b' c' d' edge other same =
    let line : l ≡ l' = ap (λ (p : Pix). p.x) same in let place : a ≡ a' = ap (λ (p : Pix). p.y) same in
    let p = edge.some in let q = other.some in
    same_edge (seen true inside) (made Right l a b c d) (made Right l' a' b' c' d') a edge other refl line
    (omega (arith, ints)) (omega (arith, ints)) (omega (arith, ints)) (omega (arith, ints))
same-start inside Down l a b c d l' a' b' c' d' edge other same =
    let line : l ≡ l' = ap (λ (p : Pix). p.y) same in let place : a ≡ a' = ap (λ (p : Pix). p.x) same in
    let p = edge.some in let q = other.some in
    same_edge (seen false inside) (made Down l a b c d) (made Down l' a' b' c' d') a edge other refl line
    (omega (arith, ints)) (omega (arith, ints)) (omega (arith, ints)) (omega (arith, ints))
same-start inside Up l a b c d l' a' b' c' d' edge other same =
    let line : l ≡ l' = ap (λ (p : Pix). p.y) same in let place : b ≡ b' = ap (λ (p : Pix). p.x) same in
    let p = edge.some in let q = other.some in
    same_edge (seen false inside) (made Up l a b c d) (made Up l' a' b' c' d') (b -ℤ pos 1) edge other refl line
    (omega (arith, ints)) (omega (arith, ints)) (omega (arith, ints)) (omega (arith, ints))

pub one-edge-starts : (inside : PixelSet) (e f : Edge) → NoTouch inside → IsEdgeOf inside e → IsEdgeOf inside f → start_of e ≡ start_of f → e ≡ f
one-edge-starts inside e f none edge other same =
    let p = start_of f in
    let round : Round inside e.side p.x p.y =
    subst (λ (r : Pix). Round inside e.side r.x r.y) same (round-start inside e.side e.line e.lo e.hi e.low_convex e.high_convex edge) in
    let side : e.side ≡ f.side =
    one-side inside p.x p.y none e.side f.side round (round-start inside f.side f.line f.lo f.hi f.low_convex f.high_convex other) in
    let turned : e ≡ made f.side e.line e.lo e.hi e.low_convex e.high_convex = ap (λ s. made s e.line e.lo e.hi e.low_convex e.high_convex) side in
    turned ∙ same-start inside f.side e.line e.lo e.hi e.low_convex e.high_convex f.line f.lo f.hi f.low_convex f.high_convex
    (subst (IsEdgeOf inside) turned edge) other (ap start_of (sym turned) ∙ same)

-- ---- loops

pub not-before-itself : (p q : Pix) → p ≡ q → ¬ ComesBefore p q
not-before-itself p q same (inl h) = let a = ap (λ (r : Pix). r.y) same in omega (arith, ints)
not-before-itself p q same (inr h) = let a = ap (λ (r : Pix). r.x) same in let b = h.1 in omega (arith, ints)

one-round : (inside : PixelSet) (start : Pix) (e : Edge) (es fs : List Edge) → NoTouch inside → All (IsEdgeOf inside) es → All (IsEdgeOf inside) fs
    → LeadsTo e es start → LeadsTo e fs start → All (λ f. ComesBefore start (start_of f)) es → All (λ f. ComesBefore start (start_of f)) fs → es ≡ fs
one-round inside start e [] [] none all also to too low down = refl
one-round inside start e [] (f ∷ fs) none all also to too low down =
    absurd (not-before-itself start (start_of f) (sym to ∙ too.0) (All-head (λ f. ComesBefore start (start_of f)) f fs down))
one-round inside start e (f ∷ es) [] none all also to too low down =
    absurd (not-before-itself start (start_of f) (sym too ∙ to.0) (All-head (λ f. ComesBefore start (start_of f)) f es low))
one-round inside start e (f ∷ es) (g ∷ fs) none all also to too low down =
    let P = λ (f : Edge). ComesBefore start (start_of f) in
    let same : f ≡ g = one-edge-starts inside f g none (All-head (IsEdgeOf inside) f es all) (All-head (IsEdgeOf inside) g fs also) (sym to.0 ∙ too.0) in
    let rest : es ≡ fs = one-round inside start f es fs none (All-tail (IsEdgeOf inside) f es all) (All-tail (IsEdgeOf inside) g fs also) to.1
    (subst (λ h. LeadsTo h fs start) (sym same) too.1) (All-tail P f es low) (All-tail P g fs down) in
    ap₂ (λ (h : Edge) (l : List Edge). h ∷ l) same rest

-- the edges of a loop, from its start
abbrev edges_of : {inside : PixelSet} {start : Pix} {passed : List Passage} → IsTour inside start passed → List Edge
edges_of tour = tour.first ∷ tour.others

one-loop : (inside : PixelSet) (start : Pix) (e f : Edge) (es fs : List Edge) → NoTouch inside → IsLoopFrom inside start e es → IsLoopFrom inside start f fs
    → e ∷ es ≡ f ∷ fs
one-loop inside start e f es fs none one two =
    let first : e ≡ f = one-edge-starts inside e f none (All-head (IsEdgeOf inside) e es one.edges) (All-head (IsEdgeOf inside) f fs two.edges) (one.begins ∙ sym two.begins) in
    let rest : es ≡ fs = one-round inside start e es fs none (All-tail (IsEdgeOf inside) e es one.edges) (All-tail (IsEdgeOf inside) f fs two.edges) one.closed
    (subst (λ h. LeadsTo h fs start) (sym first) two.closed) one.lowest two.lowest in
    ap₂ (λ (h : Edge) (l : List Edge). h ∷ l) first rest

-- ---- what is passed, and written

same-holes : (inside : PixelSet) (e : Edge) (holes others : List Pix) → AreHangingOn inside e holes → AreHangingOn inside e others → holes ≡ others
same-holes inside e holes others one two =
    same_if_ordered (λ (p q : Pix). q.y <ℤ p.y) (λ p q a b. omega (arith, ints)) holes others one.sorted two.sorted
    (λ q at. (two.each q).1 ((one.each q).0 at)) (λ q at. (one.each q).1 ((two.each q).0 at))

same-passed : (inside : PixelSet) (es : List Edge) (passed others : List Passage) → ArePassed inside es passed → ArePassed inside es others → passed ≡ others
same-passed inside [] passed others one two = one ∙ sym two
same-passed inside (e ∷ es) passed others one two =
    let holes : one.0 ≡ two.0 = same-holes inside e one.0 two.0 one.2 two.2 in
    let rest : one.1 ≡ two.1 = same-passed inside es one.1 two.1 one.4 two.4 in
    one.3 ∙ ap₂ (λ (h : List Pix) (l : List Passage). passages e h ++ l) holes rest ∙ sym two.3

pub same-tour : (inside : PixelSet) (start : Pix) (passed others : List Passage) → NoTouch inside → IsTour inside start passed → IsTour inside start others
    → passed ≡ others
same-tour inside start passed others none one two =
    same-passed inside (two.first ∷ two.others) passed others
    (subst (λ es. ArePassed inside es passed) (one-loop inside start one.first two.first one.others two.others none one.is_loop two.is_loop) one.along) two.along

pub same-written : (inside : PixelSet) → NoTouch inside → {passed : List Passage} {points others : List Pix} → IsWritten inside passed points → IsWritten inside passed others
    → points ≡ others
same-written inside none nothing nothing = refl
same-written inside none (corner {p = p} one) (corner two) = ap (λ l. p ∷ l) (same-written inside none one two)
same-written inside none (detour {end = end} {q = q} {round = round} tour hole one) (detour {round = other} {hole = hollow_points} too hollow two) =
    let same : round ≡ other = same-tour inside q round other none tour too in
    let a = same-written inside none hole (subst (λ l. IsWritten inside l hollow_points) (sym same) hollow) in
    let b = same-written inside none one two in
    ap₂ (λ (h l : List Pix). end ∷ q ∷ (h ++ (end ∷ l))) a b

pub same-walk : (inside : PixelSet) (start : Pix) (points others : List Pix) → NoTouch inside → IsWalk inside start points → IsWalk inside start others → points ≡ others
same-walk inside start points others none one two =
    let same : one.passed ≡ two.passed = same-tour inside start one.passed two.passed none one.tour two.tour in
    one.whole ∙ ap (λ l. start ∷ l) (same-written inside none (subst (λ l. IsWritten inside l one.back) same one.written) two.written) ∙ sym two.whole

-- ---- parts

pub same-set : (part other : PixelSet) → ((x y : ℤ) → part x y ≡ other x y) → part ≡ other
same-set part other h = λ i x y. h x y i

pub pix-is : (p q : Pix) → p.x ≡ q.x → p.y ≡ q.y → p ≡ q
pix-is p q a b = ap₂ (λ (x y : ℤ). let r : Pix = record { x = x; y = y } in r) a b

pub not-both-before : (p q : Pix) → ComesBefore p q → ¬ ComesBefore q p
not-both-before p q (inl a) (inl b) = omega (arith, ints)
not-both-before p q (inl a) (inr b) = let c = b.0 in omega (arith, ints)
not-both-before p q (inr a) (inl b) = let c = a.0 in omega (arith, ints)
not-both-before p q (inr a) (inr b) = let c = a.1 in let d = b.1 in omega (arith, ints)

pub same-first : (inside : PixelSet) (p q : Pix) → IsFirstPixel inside p → IsFirstPixel inside q → p ≡ q
same-first inside p q one two = by (int_lt p.y q.y) (int_lt q.y p.y) (int_lt p.x q.x) (int_lt q.x p.x) refl refl refl refl
  where
    by : (a b c d : Bool) → int_lt p.y q.y ≡ a → int_lt q.y p.y ≡ b → int_lt p.x q.x ≡ c → int_lt q.x p.x ≡ d → p ≡ q
    by true b c d e f g h = absurd (two.least p one.there (inl (omega (arith, ints))))
    by false true c d e f g h = absurd (one.least q two.there (inl (omega (arith, ints))))
    by false false true d e f g h = absurd (two.least p one.there (inr (omega (arith, ints), omega (arith, ints))))
    by false false false true e f g h = absurd (one.least q two.there (inr (omega (arith, ints), omega (arith, ints))))
    by false false false false e f g h = pix-is p q (omega (arith, ints)) (omega (arith, ints))

part-is : (p q : Part) → p.rects ≡ q.rects → p.start ≡ q.start → p.polygons ≡ q.polygons → p ≡ q
part-is p q a b c = λ i. record { rects = a i; start = b i; polygons = c i }

-- ---- lists of points are equal or are not

abbrev Decided : {X : Type 0} → X → X → Type 0
Decided x y = (x ≡ y) ⊎ (x ≢ y)

decide-int : (a b : ℤ) → Decided a b
decide-int a b = by (int_eq a b) refl
  where
    by : (t : Bool) → int_eq a b ≡ t → (a ≡ b) ⊎ (a ≢ b)
    by true e = inl ((Decides-int_eq a b).0 e)
    by false e = inr (not_from_Decides _ (Decides-int_eq a b) e)

decide-pix : (p q : Pix) → Decided p q
decide-pix p q = elim (decide-int p.x q.x) [
  | inl a ↦ elim (decide-int p.y q.y) [
    | inl b ↦ inl (pix-is p q a b)
    | inr b ↦ inr (λ e. b (ap (λ (r : Pix). r.y) e))
  ]
  | inr a ↦ inr (λ e. a (ap (λ (r : Pix). r.x) e))
]

head-of : {X : Type 0} → X → List X → X
head-of d [] = d
head-of d (x ∷ xs) = x

tail-of : {X : Type 0} → List X → List X
tail-of [] = []
tail-of (x ∷ xs) = xs

decide-list : {X : Type 0} → ((x y : X) → Decided x y) → (xs ys : List X) → Decided xs ys
decide-list decide [] [] = inl refl
decide-list decide [] (y ∷ ys) = inr (λ e. cc e)
decide-list decide (x ∷ xs) [] = inr (λ e. cc e)
decide-list decide (x ∷ xs) (y ∷ ys) = elim (decide x y) [
  | inl a ↦ elim (decide-list decide xs ys) [
    | inl b ↦ inl (ap₂ (λ h l. h ∷ l) a b)
    | inr b ↦ inr (λ e. b (cc e))
  ]
  | inr a ↦ inr (λ e. a (cc e))
]

not-apart : (xs ys : List (List Pix)) → ((xs ≢ ys) → ⊥) → xs ≡ ys
not-apart xs ys never = elim (decide-list (decide-list decide-pix) xs ys) [ inl e ↦ e | inr apart ↦ absurd (never apart) ]

-- ---- a set has a list of its holes

pairs-cons : (x : Pix) (ys : List Pix) → AllPairs (λ p q. p ≢ q) ys → ¬ Contains ys x → AllPairs (λ p q. p ≢ q) (x ∷ ys)
pairs-cons x ys pairs out zero zero d less below = absurd (omega arith)
pairs-cons x ys pairs out (suc i) zero d less below = absurd (omega arith)
pairs-cons x ys pairs out zero (suc j) d less below =
    λ e. out (j, (let a = below in omega arith), (let inner : j < length ys = omega arith in get_or_default ys j x d inner ∙ sym e))
pairs-cons x ys pairs out (suc i) (suc j) d less below = pairs i j d (omega arith) (omega arith)

-- those of a list of points that have a property, but for that no test may tell which
choose : (P : Pix → Type 0) (xs : List Pix)
    → ((ys : List Pix) → AllPairs (λ p q. p ≢ q) ys → ((q : Pix) → Contains ys q ↔ (Contains xs q × P q)) → ⊥) → ⊥
choose P [] none = none [] (λ i j d less below. absurd (omega arith)) (λ q. (λ at. absurd (let a = at.1 in omega arith), λ h. absurd (let a = h.0.1 in omega arith)))
choose P (x ∷ xs) none = choose P xs (λ ys distinct each. by ys distinct each)
  where
    by : (ys : List Pix) → AllPairs (λ p q. p ≢ q) ys → ((q : Pix) → Contains ys q ↔ (Contains xs q × P q)) → ⊥
    by ys distinct each = none ys distinct (λ q. (
      out q,
      λ h. elim (head_or_tail x q xs h.0) [
        | inl same ↦ absurd (without (subst P (sym same) h.1))
        | inr at ↦ (each q).1 (at, h.1)
      ],
    ))
      where
        out : (q : Pix) → Contains ys q → Contains (x ∷ xs) q × P q
        out q at = let h = (each q).0 at in (contains_tail x q xs h.0, h.1)

        without : P x → ⊥
        without here = none (x ∷ ys) (pairs-cons x ys distinct not_in) (λ q. (
          λ at. elim (head_or_tail x q ys at) [
            | inl same ↦ (subst (Contains (x ∷ xs)) same (contains_head x xs), subst P same here)
            | inr later ↦ out q later
          ],
          λ h. elim (head_or_tail x q xs h.0) [
            | inl same ↦ subst (Contains (x ∷ ys)) same (contains_head x ys)
            | inr at ↦ contains_tail x q ys ((each q).1 (at, h.1))
          ],
        ))
          where
            not_in : ¬ Contains ys x
            not_in at = none ys distinct (λ q. (
              out q,
              λ h. elim (head_or_tail x q xs h.0) [
                | inl same ↦ subst (Contains ys) same at
                | inr later ↦ (each q).1 (later, h.1)
              ],
            ))

some-holes : (inside : PixelSet) (es : List Edge) → AreEdges inside es → ((holes : List Pix) → AreHoles inside holes → ⊥) → ⊥
some-holes inside es edges none = choose (IsHoleStart inside) (map start_of es) (λ holes distinct each. none holes (record {
  distinct = distinct;
  each = λ q. (
    λ at. ((each q).0 at).1,
    λ is. (each q).1 (
      (let e = is.1 in let l = is.3 in
          subst (Contains (map start_of es)) l.begins (Contains-map start_of es e (edge-in inside es e edges (All-head (IsEdgeOf inside) e is.2 l.edges)))),
      is,
    ),
  );
}))

-- ---- one part

abbrev IsPartOf : PixelSet → Part → Type 0
IsPartOf inside p = ArePolygonsOfPart inside p.rects p.start p.polygons

-- parts with a common pixel are one
same-part : (inside : PixelSet) (p q : Part) (at : Pix) → NoTouch inside → IsPartOf inside p → IsPartOf inside q → Has (cover p.rects) at → Has (cover q.rects) at → p ≡ q
same-part inside p q at none one two here there = part-is p q rects start (not-apart p.polygons q.polygons polygons)
  where
    set : cover p.rects ≡ cover q.rects
    set = same-set (cover p.rects) (cover q.rects) (same-component inside (cover p.rects) (cover q.rects) at one.component two.component here there)

    rects : p.rects ≡ q.rects
    rects = canonical_is_unique (cover q.rects) p.rects q.rects
        (subst (λ (s : PixelSet). IsCanonical s p.rects) set (canonical_for_cover p.rects one.canonical)) (canonical_for_cover q.rects two.canonical)

    start : p.start ≡ q.start
    start = same-first (cover q.rects) p.start q.start (subst (λ (s : PixelSet). IsFirstPixel s p.start) set one.first) two.first

    no_touch : NoTouch (cover q.rects)
    no_touch = part-no_touch inside (cover q.rects) two.component none

    edges : one.edges ≡ two.edges
    edges = all_edges_are_unique (cover q.rects) one.edges two.edges (subst (λ (s : PixelSet). AreEdges s one.edges) set one.are_edges) two.are_edges

    polygons : p.polygons ≢ q.polygons → ⊥
    polygons apart = some-holes (cover q.rects) two.edges two.are_edges (λ holes are_holes. by holes are_holes (nat_lt most_points (point_count two.edges holes)) refl)
      where
        count : (holes : List Pix) → point_count one.edges holes ≡ point_count two.edges holes
        count holes = ap (λ (es : List Edge). point_count es holes) edges

        its : (holes : List Pix) → AreHoles (cover q.rects) holes → AreHoles (cover p.rects) holes
        its holes are_holes = subst (λ (s : PixelSet). AreHoles s holes) (sym set) are_holes

        by : (holes : List Pix) → AreHoles (cover q.rects) holes → (t : Bool) → nat_lt most_points (point_count two.edges holes) ≡ t → ⊥
        by holes are_holes true e =
            let long : most_points < point_count two.edges holes = (Decides-ltb most_points (point_count two.edges holes)).0 e in
            apart (one.long holes (its holes are_holes) (subst (λ n. most_points < n) (sym (count holes)) long) ∙ ap (map around) rects ∙ sym (two.long holes are_holes long))
        by holes are_holes false e =
            let past = not_from_Decides _ (Decides-ltb most_points (point_count two.edges holes)) e in
            let short : point_count two.edges holes ≤ most_points = omega (arith, past) in
            let a = one.short holes (its holes are_holes) (subst (λ n. n ≤ most_points) (sym (count holes)) short) in
            let b = two.short holes are_holes short in
            let walk : a.0 ≡ b.0 = same-walk (cover q.rects) q.start a.0 b.0 no_touch
            (subst (λ s. IsWalk (cover q.rects) s a.0) start (subst (λ (s : PixelSet). IsWalk s p.start a.0) set a.1)) b.1 in
            apart (a.2 ∙ ap (λ w. w ∷ []) walk ∙ sym b.2)

found-in : (inside : PixelSet) (polygons others : List (List Pix)) → NoTouch inside → (one : ArePolygonsOf inside polygons) → (two : ArePolygonsOf inside others)
    → (p : Part) → Contains one.parts p → Contains two.parts p
found-in inside polygons others none one two p at =
    let is : IsPartOf inside p = All-contains (IsPartOf inside) one.parts p one.each at in
    let here = is.first.there in
    let found = two.all p.start.x p.start.y (part-within inside (cover p.rects) p.start is.component here) in
    let q = found.0 in
    let its : IsPartOf inside q = All-contains (IsPartOf inside) two.parts q two.each found.1 in
    subst (Contains two.parts) (sym (same-part inside p q p.start none is its here found.2)) found.1

-- The definition determines the list.
pub polygons_are_unique : (inside : PixelSet) (polygons others : List (List Pix)) → NoTouch inside → ArePolygonsOf inside polygons → ArePolygonsOf inside others
    → polygons ≡ others
polygons_are_unique inside polygons others none one two =
    let parts : one.parts ≡ two.parts =
    same_if_ordered (λ (p q : Part). ComesBefore p.start q.start) (λ p q. not-both-before p.start q.start) one.parts two.parts one.sorted two.sorted
    (found-in inside polygons others none one two) (found-in inside others polygons none two one) in
    one.listed ∙ ap (flat_map (λ (p : Part). p.polygons)) parts ∙ sym two.listed

-- The later loops of a border are the holes of the definition.
use Rattle.std.proofs.Common.{◌≡◌, ◌≢◌, ◌⊎◌, inl, inr, ℕ, zero, suc, ◌==◌, ◌+◌, ◌<◌, ◌≤◌, ℤ, pos, ◌-ℤ◌, ◌<ℤ◌, int_lt, Bool, true, false, if◌then◌else◌, List, [], ◌∷◌, length, get_or, map, Contains, refl, ap, sym, ◌∙◌, subst, arith}
use Rattle.std.proofs.lemmas.Int.{ints}
use Rattle.std.proofs.lemmas.Bool.{cases_order}
use Rattle.std.proofs.lemmas.Bool.Decides.{eqb_tells}
use Rattle.std.proofs.lemmas.List.{get_or_default, get_or-map, length-map}
use Rattle.std.proofs.lemmas.List.Elements.{All-contains, All-get_or, All-head, Contains-get_or}
use Rattle.opc_base.specs.declared.plane.Pix.{Pix}
use Rattle.opc_base.specs.Plane.{PixelSet}
use Rattle.opc_base.specs.Runs.{IsRun}
use Rattle.opc_base.specs.Sums.{sum_each}
use Rattle.outline_model.specs.declared.edge.Edge.{Edge}
use Rattle.outline_model.specs.declared.fragment.Fragment.{Fragment}
use Rattle.outline_model.specs.Outline.{fragment_at, is_vertical, next}
use Rattle.outline_model.proofs.Totals.{total-at_equal}
use Rattle.opc_base.proofs.ListsInOrder.{contains_head, contains_tail, head_or_tail}
use Rattle.rect_union.proofs.Pigeonhole.{at_most_partners}
use Rattle.mask_polygons.specs.Border.{IsBorder, start_pix}
use Rattle.mask_polygons.specs.Loops.{AreLoops, IsChain, IsLoop, IsLowestFirst, loop_start}
use Rattle.mask_polygons.specs.Scripts.{row_at}
use Rattle.mask_polygons.specs.Seams.{EndRight, EndsOn, IsHoleCorner}
use Rattle.mask_polygons.specs.Walk.{AreHangingOn, AreHoles, ComesBefore, HangsOn, IsEdgeOf, IsFirstPixel, IsHoleStart, IsLoopFrom, LeadsTo, finish_of, start_of}
use Rattle.mask_polygons.specs.Walks.{pix_at}
use Rattle.mask_polygons.proofs.BorderOrder.{hi-is, line-is, lo-is, side-is}
use Rattle.mask_polygons.proofs.CountLaws.{AreJoinedPix}
use Rattle.mask_polygons.proofs.BorderLaws.{IsOf}
use Rattle.mask_polygons.proofs.EdgeSet.{Contains-map}
use Rattle.mask_polygons.proofs.EdgeNumbers.{IsEdgeList, edge_no, finish-same, loop-from, start-same}
use Rattle.mask_polygons.proofs.Holes.{NotBefore, loop-not-before}
use Rattle.mask_polygons.proofs.LoopStarts.{chain_of, start-of, starts-rise}
use Rattle.mask_polygons.proofs.StraightLaws.{joined-pix}
use Rattle.mask_polygons.proofs.Uniqueness.{NoTouch, not-before-itself, not-both-before, one-edge-starts, pix-is}

-- a component with its border, edges, loops and start corners
pub record IsTaken (part : PixelSet) (fs : List Fragment) (es : List Edge) (loops : List (List ℕ)) (starts : List Pix) : Type 0 where
  pub border : IsBorder part fs
  pub list : IsEdgeList part fs es
  pub are : AreLoops fs loops
  pub starts_are : starts ≡ map (loop_start fs) loops
  pub no_touch : NoTouch part
  pub some : 0 < length loops
  pub first : IsFirstPixel part (loop_start fs (chain_of loops 0))
  pub corners : (h : ℕ) → 0 < h → h < length loops → IsHoleCorner part (pix_at starts h)

pub same-place : (p q : Pix) → ¬ ComesBefore p q → ¬ ComesBefore q p → p ≡ q
same-place p q one two = by (int_lt p.y q.y) (int_lt q.y p.y) (int_lt p.x q.x) (int_lt q.x p.x) refl refl refl refl
  where
    by : (a b c d : Bool) → int_lt p.y q.y ≡ a → int_lt q.y p.y ≡ b → int_lt p.x q.x ≡ c → int_lt q.x p.x ≡ d → p ≡ q
    by true b c d e f g h = absurd (one (inl (omega (arith, ints))))
    by false true c d e f g h = absurd (two (inl (omega (arith, ints))))
    by false false true d e f g h = absurd (one (inr (omega (arith, ints), omega (arith, ints))))
    by false false false true e f g h = absurd (two (inr (omega (arith, ints), omega (arith, ints))))
    by false false false false e f g h = pix-is p q (omega (arith, ints)) (omega (arith, ints))

-- ---- each fragment is in a loop

abbrev is_it : ℕ → ℕ → ℤ
is_it k j = if j == k then pos 1 else pos 0

in-list : (k : ℕ) (ks : List ℕ) → sum_each (is_it k) ks ≢ pos 0 → Contains ks k
unfolding sum_each
in-list k [] some = absurd (some refl)
in-list k (j ∷ ks) some = elim (eqb_tells j k) [
  | inl w ↦ subst (Contains (j ∷ ks)) w.1 (contains_head j ks)
  | inr w ↦ contains_tail j k ks (in-list k ks (λ none. some
      (let one : Bool → ℤ = λ t. if t then pos 1 else pos 0 in let a = ap one w.0 in omega (arith, ints, a, none))))
]

is-zero : (z : ℤ) → (z ≡ pos 0) ⊎ (z ≢ pos 0)
is-zero z = at (int_lt z (pos 0)) (int_lt (pos 0) z) refl refl
  where
    at : (a b : Bool) → int_lt z (pos 0) ≡ a → int_lt (pos 0) z ≡ b → (z ≡ pos 0) ⊎ (z ≢ pos 0)
    at true b e f = inr (λ h. omega (arith, ints))
    at false true e f = inr (λ h. omega (arith, ints))
    at false false e f = inl (omega (arith, ints))

in-loops : (k : ℕ) (loops : List (List ℕ)) → sum_each (λ ks. sum_each (is_it k) ks) loops ≢ pos 0 → (c : ℕ) × (c < length loops) × Contains (chain_of loops c) k
unfolding sum_each
in-loops k [] some = absurd (some refl)
in-loops k (ks ∷ loops) some = elim (is-zero (sum_each (is_it k) ks)) [
  | inr here ↦ (0, omega arith, in-list k ks here)
  | inl none ↦
      (let rest = in-loops k loops (λ e. some (omega (arith, ints, none, e))) in
      (suc rest.0, (let a = rest.1 in omega (arith, a)), rest.2))
]

in-some-loop : (fs : List Fragment) (loops : List (List ℕ)) (k : ℕ) → AreLoops fs loops → k < length fs → (c : ℕ) × (c < length loops) × Contains (chain_of loops c) k
in-some-loop fs loops k are below =
    in-loops k loops (λ none. (let a = are.once (is_it k) in let b = total-at_equal (length fs) k (λ j. pos 1) below in omega (arith, ints, none, a, b)))

-- ---- what holds of a fragment and goes on to the next holds at the end of the chain

chain-on : (fs : List Fragment) (P : ℕ → Type 0) (k : ℕ) (ks : List ℕ) (end : ℕ) → ((i : ℕ) → i < length fs → P i → P (next fs i)) → k < length fs → IsChain fs k ks end → P k → P end
chain-on fs P k [] end goes below chain here = subst P chain (goes k below here)
chain-on fs P k (j ∷ ks) end goes below chain here = chain-on fs P j ks end goes chain.1 chain.2 (subst P chain.0 (goes k below here))

chain-from : (fs : List Fragment) (P : ℕ → Type 0) (k : ℕ) (ks : List ℕ) (end i : ℕ) → ((i : ℕ) → i < length fs → P i → P (next fs i)) → k < length fs → IsChain fs k ks end
    → Contains (k ∷ ks) i → P i → P end
chain-from fs P k [] end i goes below chain at here = elim (head_or_tail k i [] at) [
  | inl same ↦ chain-on fs P k [] end goes below chain (subst P (sym same) here)
  | inr none ↦ absurd (let a = none.1 in omega (arith, a))
]
chain-from fs P k (j ∷ ks) end i goes below chain at here = elim (head_or_tail k i (j ∷ ks) at) [
  | inl same ↦ chain-on fs P k (j ∷ ks) end goes below chain (subst P (sym same) here)
  | inr later ↦ chain-from fs P j ks end i goes chain.1 chain.2 later here
]

-- the edge after one of a loop is one of it
edge-after : (e : Edge) (es : List Edge) (end : Pix) (z : Edge) → LeadsTo e es end → Contains (e ∷ es) z → ((y : Edge) × Contains es y × (finish_of z ≡ start_of y)) ⊎ (finish_of z ≡ end)
edge-after e [] end z leads at = elim (head_or_tail e z [] at) [
  | inl same ↦ inr (ap finish_of (sym same) ∙ leads)
  | inr none ↦ absurd (let a = none.1 in omega (arith, a))
]
edge-after e (f ∷ es) end z leads at = elim (head_or_tail e z (f ∷ es) at) [
  | inl same ↦ inl (f, contains_head f es, ap finish_of (sym same) ∙ leads.0)
  | inr later ↦ elim (edge-after f es end z leads.1 later) [
    | inl h ↦ inl (h.0, contains_tail f h.0 es h.1, h.2)
    | inr h ↦ inr h
  ]
]

-- ---- holes

pub loop-edges : (part : PixelSet) (fs : List Fragment) (es : List Edge) (chain : List ℕ) → IsEdgeList part fs es → AreJoinedPix fs → IsLoop fs chain → IsLowestFirst fs chain
    → (first : Edge) × (others : List Edge) × IsLoopFrom part (loop_start fs chain) first others × (first ∷ others ≡ map (edge_no es) chain)
loop-edges part fs es [] list joined is lowest = absurd is
loop-edges part fs es (k ∷ ks) list joined is lowest = (edge_no es k, map (edge_no es) ks, loop-from part fs es k ks list joined is lowest, refl)

pub loop-at : (part : PixelSet) (fs : List Fragment) (es : List Edge) (loops : List (List ℕ)) (starts : List Pix) (h : ℕ) → IsTaken part fs es loops starts → h < length loops
    → (first : Edge) × (others : List Edge) × IsLoopFrom part (pix_at starts h) first others × (first ∷ others ≡ map (edge_no es) (chain_of loops h))
loop-at part fs es loops starts h taken below =
    let found = loop-edges part fs es (chain_of loops h) taken.list (joined-pix fs taken.border.joined) (All-get_or (IsLoop fs) loops h [] below taken.are.each)
    (All-get_or (IsLowestFirst fs) loops h [] below taken.are.lowest) in
    (found.0, found.1, subst (λ p. IsLoopFrom part p found.0 found.1) (sym (start-of fs loops starts h taken.starts_are below)) found.2, found.3)

pub later-start : (part : PixelSet) (fs : List Fragment) (es : List Edge) (loops : List (List ℕ)) (starts : List Pix) (h : ℕ) → IsTaken part fs es loops starts → 0 < h → h < length loops
    → IsHoleStart part (pix_at starts h)
later-start part fs es loops starts h taken later below =
    let found = loop-at part fs es loops starts h taken below in
    ((taken.corners h later below).out, found.0, found.1, found.2)

-- a loop of the definition begins where one of these loops begins
same-loop : (part : PixelSet) (fs : List Fragment) (es : List Edge) (loops : List (List ℕ)) (starts : List Pix) (q : Pix) (e : Edge) (others : List Edge) (k c : ℕ)
    → IsTaken part fs es loops starts → IsLoopFrom part q e others → k < length fs → edge_no es k ≡ e → c < length loops → (chain : List ℕ) → chain ≡ chain_of loops c → Contains chain k
    → IsLoop fs chain → IsLowestFirst fs chain → q ≡ loop_start fs chain
same-loop part fs es loops starts q e others k c taken is k_below k_is c_below [] same at whole lowest = absurd whole
same-loop part fs es loops starts q e others k c taken is k_below k_is c_below (m ∷ ms) same at whole lowest =
    same-place q (start_pix (fragment_at fs m)) not_before (back (chain-from fs In m ms m k goes whole.0 whole.1 at (subst (Contains (e ∷ others)) (sym k_is) (contains_head e others))))
  where
    joined : AreJoinedPix fs
    joined = joined-pix fs taken.border.joined

    In : ℕ → Type 0
    In i = Contains (e ∷ others) (edge_no es i)

    starts_at : (i : ℕ) → i < length fs → start_of (edge_no es i) ≡ start_pix (fragment_at fs i)
    starts_at i below = start-same (fragment_at fs i) (edge_no es i) (taken.list.is_of i below)

    not_before : ¬ ComesBefore q (start_pix (fragment_at fs m))
    not_before =
        let all = loop-not-before fs (m ∷ ms) joined whole lowest in
        let here = (All-contains (NotBefore fs (start_pix (fragment_at fs m))) (m ∷ ms) k all at).0 in
        subst (λ p. ¬ ComesBefore p (start_pix (fragment_at fs m))) (sym (starts_at k k_below) ∙ ap start_of k_is ∙ is.begins) here

    goes : (i : ℕ) → i < length fs → Contains (e ∷ others) (edge_no es i) → Contains (e ∷ others) (edge_no es (next fs i))
    goes i below here = by (edge-after e others q (edge_no es i) is.closed here)
      where
        n_below : next fs i < length fs
        n_below = taken.border.outline.next_in i below

        on : start_of (edge_no es (next fs i)) ≡ finish_of (edge_no es i)
        on = starts_at (next fs i) n_below ∙ joined i below ∙ sym (finish-same (fragment_at fs i) (edge_no es i) (taken.list.is_of i below))

        next_is : (y : Edge) → IsEdgeOf part y → finish_of (edge_no es i) ≡ start_of y → edge_no es (next fs i) ≡ y
        next_is y edge h = one-edge-starts part (edge_no es (next fs i)) y taken.no_touch (taken.list.edge (next fs i) n_below) edge (on ∙ h)

        by : ((y : Edge) × Contains others y × (finish_of (edge_no es i) ≡ start_of y)) ⊎ (finish_of (edge_no es i) ≡ q) → Contains (e ∷ others) (edge_no es (next fs i))
        by (inl h) =
            subst (Contains (e ∷ others)) (sym (next_is h.0 (All-contains (IsEdgeOf part) (e ∷ others) h.0 is.edges (contains_tail e h.0 others h.1)) h.2)) (contains_tail e h.0 others h.1)
        by (inr h) =
            subst (Contains (e ∷ others)) (sym (next_is e (All-head (IsEdgeOf part) e others is.edges) (h ∙ sym is.begins))) (contains_head e others)

    back : Contains (e ∷ others) (edge_no es m) → ¬ ComesBefore (start_pix (fragment_at fs m)) q
    back here = elim (head_or_tail e (edge_no es m) others here) [
      | inl first ↦ (λ h. not-before-itself (start_pix (fragment_at fs m)) q (sym (starts_at m whole.0) ∙ ap start_of (sym first) ∙ is.begins) h)
      | inr later ↦ (λ h. not-both-before q (start_pix (fragment_at fs m))
          (subst (ComesBefore q) (starts_at m whole.0) (All-contains (λ f. ComesBefore q (start_of f)) others (edge_no es m) is.lowest later)) h)
    ]

pub hole-number : (part : PixelSet) (fs : List Fragment) (es : List Edge) (loops : List (List ℕ)) (starts : List Pix) (q : Pix) → IsTaken part fs es loops starts → IsHoleStart part q
    → (h : ℕ) × (0 < h) × (h < length loops) × (pix_at starts h ≡ q)
hole-number part fs es loops starts q taken hole = (c, later, c_below, sym at)
  where
    e : Edge
    e = hole.1

    found : (k : ℕ) × (k < length fs) × (edge_no es k ≡ e)
    found = taken.list.all e (All-head (IsEdgeOf part) e hole.2 (hole.3).edges)

    loop : (c : ℕ) × (c < length loops) × Contains (chain_of loops c) found.0
    loop = in-some-loop fs loops found.0 taken.are found.1

    c : ℕ
    c = loop.0

    c_below : loop.0 < length loops
    c_below = loop.1

    same : q ≡ loop_start fs (chain_of loops c)
    same = same-loop part fs es loops starts q e hole.2 found.0 c taken hole.3 found.1 found.2 c_below (chain_of loops c) refl loop.2
        (All-get_or (IsLoop fs) loops c [] c_below taken.are.each) (All-get_or (IsLowestFirst fs) loops c [] c_below taken.are.lowest)

    at : q ≡ pix_at starts c
    at = same ∙ sym (start-of fs loops starts c taken.starts_are c_below)

    later : 0 < loop.0
    later = elim (cases_order 0 c) [
      | inl none ↦ absurd
          (let there = taken.first.there in
          let here : part (loop_start fs (chain_of loops 0)).x (loop_start fs (chain_of loops 0)).y ≡ false =
          subst (λ (p : Pix). part p.x p.y ≡ false) (same ∙ ap (λ i. loop_start fs (chain_of loops i)) (sym none)) hole.0 in cc (there, here))
      | inr other ↦ elim other [ inl less ↦ less | inr more ↦ absurd (omega (arith, more)) ]
    ]

-- ---- all holes

abbrev pub later_starts : List Pix → List Pix
later_starts [] = []
later_starts (p ∷ ps) = ps

pub length-later : (starts : List Pix) → 0 < length starts → length (later_starts starts) + 1 ≡ length starts
length-later [] some = absurd (omega (arith, some))
length-later (p ∷ ps) some = omega arith

later-at : (starts : List Pix) (k : ℕ) (d : Pix) → k < length (later_starts starts) → get_or (later_starts starts) k d ≡ pix_at starts (suc k)
later-at [] k d below = absurd (omega (arith, below))
later-at (p ∷ ps) k d below = get_or_default ps k d (record { x = pos 0; y = pos 0 }) below

pub are-holes : (part : PixelSet) (fs : List Fragment) (es : List Edge) (loops : List (List ℕ)) (starts : List Pix) → IsTaken part fs es loops starts → AreHoles part (later_starts starts)
are-holes part fs es loops starts taken = record {
  distinct = λ i j d less below e. not-before-itself (pix_at starts (suc i)) (pix_at starts (suc j))
      (sym (later-at starts i d (omega (arith, less, below))) ∙ e ∙ later-at starts j d below)
      (starts-rise fs loops starts (suc i) (suc j) taken.are taken.starts_are (omega (arith, less)) (omega (arith, count, more, below)));
  each = λ q. (there q, back q);
}
  where
    count : length starts ≡ length loops
    count = ap length taken.starts_are ∙ length-map loops (loop_start fs)

    more : length (later_starts starts) + 1 ≡ length starts
    more = length-later starts (let s = taken.some in omega (arith, count, s))

    there : (q : Pix) → Contains (later_starts starts) q → IsHoleStart part q
    there q at =
        let below = at.1 in
        subst (IsHoleStart part) (sym (later-at starts at.0 q below) ∙ at.2)
        (later-start part fs es loops starts (suc at.0) taken (omega arith) (omega (arith, count, more, below)))

    back : (q : Pix) → IsHoleStart part q → Contains (later_starts starts) q
    back q hole = by (hole-number part fs es loops starts q taken hole)
      where
        by : (h : ℕ) × (0 < h) × (h < length loops) × (pix_at starts h ≡ q) → Contains (later_starts starts) q
        by (zero, later, below, is) = absurd (omega (arith, later))
        by (suc h, later, below, is) =
            let inner : h < length (later_starts starts) = omega (arith, count, more, below) in
            (h, inner, later-at starts h q inner ∙ is)

-- all lists of the holes are of one length
pub same-many : (part : PixelSet) (holes others : List Pix) → AreHoles part holes → AreHoles part others → length holes ≡ length others
same-many part holes others one two =
    let a = most holes others one (λ q at. (two.each q).1 ((one.each q).0 at)) in
    let b = most others holes two (λ q at. (one.each q).1 ((two.each q).0 at)) in omega (arith, a, b)
  where
    most : (xs ys : List Pix) → AreHoles part xs → ((q : Pix) → Contains xs q → Contains ys q) → length xs ≤ length ys
    most xs ys are within =
        at_most_partners (λ (a b : Pix). a ≡ b) xs ys (λ i d below. (get_or xs i d, within (get_or xs i d) (Contains-get_or xs i d below), refl))
        (λ i j d less below y a b. are.distinct i j d less below (a ∙ sym b))

-- ---- the holes that hang on an edge

run-one : (f : ℤ → Bool) (a b c : ℤ) → IsRun f a c → IsRun f b c → a ≡ b
run-one f a b c one two = by (int_lt a b) (int_lt b a) refl refl
  where
    by : (s t : Bool) → int_lt a b ≡ s → int_lt b a ≡ t → a ≡ b
    by true t e g = absurd (let x = two.before in let some = two.some in let y = one.all (b -ℤ pos 1) (omega (arith, ints)) (omega (arith, ints)) in cc (x, y))
    by false true e g = absurd (let x = one.before in let some = one.some in let y = two.all (a -ℤ pos 1) (omega (arith, ints)) (omega (arith, ints)) in cc (x, y))
    by false false e g = omega (arith, ints)

hangs-on : (part : PixelSet) (f : Fragment) (e : Edge) (q : Pix) → IsOf f e → IsHoleStart part q → EndsOn part f q → HangsOn part e q
hangs-on part f e q of hole ends = record {
  hole = hole;
  left = sym (side-is f e of) ∙ ends.left;
  ends = (refl, subst (λ a. IsRun (λ s. part s q.y) a q.x) (line-is f e of) ends.run);
  from = (let a = ends.from in let b = lo-is f e of in omega (arith, ints, a, b));
  to = (let a = ends.to in let b = hi-is f e of in omega (arith, ints, a, b));
}

pub hanging : (part : PixelSet) (fs : List Fragment) (es : List Edge) (loops hung : List (List ℕ)) (starts : List Pix) (k : ℕ) → IsTaken part fs es loops starts → EndRight part fs starts hung
    → k < length fs → AreHangingOn part (edge_no es k) (map (pix_at starts) (row_at hung k))
hanging part fs es loops hung starts k taken right below = record {
  sorted = λ i j d less j_below. sorted i j d less j_below;
  each = λ q. (there q, back q);
}
  where
    row : List ℕ
    row = row_at hung k

    count : length starts ≡ length loops
    count = ap length taken.starts_are ∙ length-map loops (loop_start fs)

    many : length (map (pix_at starts) (row_at hung k)) ≡ length (row_at hung k)
    many = length-map (row_at hung k) (pix_at starts)

    number : (i : ℕ) → i < length (row_at hung k) → Contains (row_at hung k) (get_or (row_at hung k) i 0)
    number i i_below = Contains-get_or (row_at hung k) i 0 i_below

    at : (i : ℕ) (d : Pix) → i < length (row_at hung k) → get_or (map (pix_at starts) (row_at hung k)) i d ≡ pix_at starts (get_or (row_at hung k) i 0)
    at i d i_below = get_or-map (pix_at starts) (row_at hung k) i 0 d i_below

    sorted : (i j : ℕ) (d : Pix) → i < j → j < length (map (pix_at starts) (row_at hung k))
        → (get_or (map (pix_at starts) (row_at hung k)) j d).y <ℤ (get_or (map (pix_at starts) (row_at hung k)) i d).y
    sorted i j d less j_below =
        let j_in : j < length (row_at hung k) = omega (arith, many, j_below) in
        let i_in : i < length (row_at hung k) = omega (arith, less, j_in) in
        let falls = right.falling k i j 0 less j_in in
        subst (λ (p : Pix). p.y <ℤ (get_or (map (pix_at starts) (row_at hung k)) i d).y) (sym (at j d j_in))
        (subst (λ (p : Pix). (pix_at starts (get_or (row_at hung k) j 0)).y <ℤ p.y) (sym (at i d i_in))
        (strictly (get_or (row_at hung k) j 0) (get_or (row_at hung k) i 0) (number j j_in) (number i i_in)
        (starts-rise fs loops starts (get_or (row_at hung k) j 0) (get_or (row_at hung k) i 0) taken.are taken.starts_are falls
        (let b = right.below k (get_or (row_at hung k) i 0) (number i i_in) in omega (arith, count, b)))))
      where
        strictly : (h i : ℕ) → Contains (row_at hung k) h → Contains (row_at hung k) i → ComesBefore (pix_at starts h) (pix_at starts i) → (pix_at starts h).y <ℤ (pix_at starts i).y
        strictly h i h_in i_in (inl low) = low
        strictly h i h_in i_in (inr level) =
            let one = (right.ends k h h_in).run in
            let two = (right.ends k i i_in).run in
            let x_less = level.1 in
            absurd (let there = two.all (pix_at starts h).x (let s = one.some in omega (arith, ints)) (omega (arith, ints)) in
            let out = subst (λ y. part (pix_at starts h).x y ≡ false) level.0 one.after in cc (there, out))

    there : (q : Pix) → Contains (map (pix_at starts) (row_at hung k)) q → HangsOn part (edge_no es k) q
    there q found =
        let i_in : found.0 < length (row_at hung k) = (let b = found.1 in omega (arith, many, b)) in
        let h = get_or (row_at hung k) found.0 0 in
        let h_in = number found.0 i_in in
        let is : pix_at starts h ≡ q = sym (at found.0 q i_in) ∙ found.2 in
        subst (HangsOn part (edge_no es k)) is
        (hangs-on part (fragment_at fs k) (edge_no es k) (pix_at starts h) (taken.list.is_of k below)
        (later-start part fs es loops starts h taken (right.later k h h_in) (let b = right.below k h h_in in omega (arith, count, b))) (right.ends k h h_in))

    back : (q : Pix) → HangsOn part (edge_no es k) q → Contains (map (pix_at starts) (row_at hung k)) q
    back q hangs =
        let of = taken.list.is_of k below in
        let numbered = hole-number part fs es loops starts q taken hangs.hole in
        let stands = right.all numbered.0 numbered.1 (let b = numbered.2 in omega (arith, count, b)) in
        let ends = subst (EndsOn part (fragment_at fs stands.0)) numbered.3 (right.ends stands.0 numbered.0 stands.2) in
        let line : (fragment_at fs stands.0).edge ≡ (edge_no es k).line =
        run-one (λ s. part s q.y) (fragment_at fs stands.0).edge (edge_no es k).line q.x ends.run hangs.ends.1 in
        let from = hangs.from in let to = hangs.to in
        let lo = lo-is (fragment_at fs k) (edge_no es k) of in let hi = hi-is (fragment_at fs k) (edge_no es k) of in
        let same : stands.0 ≡ k =
        taken.border.boundary.upright_once stands.0 k (edge_no es k).line q.y stands.1 below (ap is_vertical ends.left, line, ends.from, ends.to)
        (ap is_vertical (side-is (fragment_at fs k) (edge_no es k) of ∙ hangs.left), line-is (fragment_at fs k) (edge_no es k) of, omega (arith, ints, from, lo), omega (arith, ints, to, hi)) in
        subst (Contains (map (pix_at starts) (row_at hung k))) numbered.3
        (Contains-map (pix_at starts) (row_at hung k) numbered.0 (subst (λ i. Contains (row_at hung i) numbered.0) same stands.2))

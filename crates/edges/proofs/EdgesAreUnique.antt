-- A set of pixels has one list of edges.
use Rattle.std.proofs.Common.{◌≡◌, ◌≢◌, inl, inr, ◌<◌, ℤ, pos, ◌-ℤ◌, ◌≤ℤ◌, ◌<ℤ◌, int_lt, Bool, true, false, not, List, ◌++◌, length, get_or, Contains, AllPairs, refl, sym, ◌∙◌, ap, subst, arith}
use Rattle.std.proofs.lemmas.Int.{ints}
use Rattle.std.proofs.lemmas.List.{get_or_default}
use Rattle.opc_base.specs.declared.plane.Side.{Side}
use Rattle.opc_base.specs.declared.plane.Side.TheVariants.{Left, Right, Down, Up}
use Rattle.outline_model.specs.Outline.{is_vertical}
use Rattle.outline_model.specs.Target.{opens}
use Rattle.outline_model.specs.declared.edge.Edge.{Edge}
use Rattle.opc_base.specs.Plane.{PixelSet}
use Rattle.opc_base.proofs.ListsInOrder.{same_if_ordered}
use Rattle.outline_model.specs.Edges.{seen, is_convex}
use Rattle.outline_model.specs.Edges.{edge_at, EdgePrecedes, IsEdge, HasEdges, AreEdges}

-- ---- edges that share a place

side_is : (s t : Side) → is_vertical s ≡ is_vertical t → opens s ≡ opens t → s ≡ t
side_is Left Left v o = refl
side_is Right Right v o = refl
side_is Down Down v o = refl
side_is Up Up v o = refl
side_is Left Right v o = absurd (cc o)
side_is Left Down v o = absurd (cc v)
side_is Left Up v o = absurd (cc v)
side_is Right Left v o = absurd (cc o)
side_is Right Down v o = absurd (cc v)
side_is Right Up v o = absurd (cc v)
side_is Down Left v o = absurd (cc v)
side_is Down Right v o = absurd (cc v)
side_is Down Up v o = absurd (cc o)
side_is Up Left v o = absurd (cc v)
side_is Up Right v o = absurd (cc v)
side_is Up Down v o = absurd (cc o)

edge_is : (e f : Edge) → e.side ≡ f.side → e.line ≡ f.line → e.lo ≡ f.lo → e.hi ≡ f.hi → e.low_convex ≡ f.low_convex → e.high_convex ≡ f.high_convex → e ≡ f
edge_is e f a b c d g h =
    ap (λ z. let r : Edge = record { side = z; line = e.line; lo = e.lo; hi = e.hi; low_convex = e.low_convex; high_convex = e.high_convex } in r) a
    ∙ ap (λ z. let r : Edge = record { side = f.side; line = z; lo = e.lo; hi = e.hi; low_convex = e.low_convex; high_convex = e.high_convex } in r) b
    ∙ ap (λ z. let r : Edge = record { side = f.side; line = f.line; lo = z; hi = e.hi; low_convex = e.low_convex; high_convex = e.high_convex } in r) c
    ∙ ap (λ z. let r : Edge = record { side = f.side; line = f.line; lo = f.lo; hi = z; low_convex = e.low_convex; high_convex = e.high_convex } in r) d
    ∙ ap (λ z. let r : Edge = record { side = f.side; line = f.line; lo = f.lo; hi = f.hi; low_convex = z; high_convex = e.high_convex } in r) g
    ∙ ap (λ z. let r : Edge = record { side = f.side; line = f.line; lo = f.lo; hi = f.hi; low_convex = f.low_convex; high_convex = z } in r) h

-- the lower of two edges on a line with a common place does not begin before the other, nor end after it
not_lower : (inside : PixelSet) (e f : Edge) (place : ℤ) → IsEdge inside e → IsEdge inside f → e.side ≡ f.side → e.line ≡ f.line
    → e.lo ≤ℤ place → place <ℤ e.hi → f.lo ≤ℤ place → place <ℤ f.hi → f.lo <ℤ e.lo → ⊥
not_lower inside e f place edge other side line a b c d less =
    let faces = other.along (e.lo -ℤ pos 1) (omega (arith, ints)) (omega (arith, ints)) in
    edge.before (
      ap (λ l. inside l (e.lo -ℤ pos 1)) line ∙ faces.0 ∙ ap opens (sym side),
      ap (λ l. inside (l -ℤ pos 1) (e.lo -ℤ pos 1)) line ∙ faces.1 ∙ ap (λ s. not (opens s)) (sym side),
    )

not_higher : (inside : PixelSet) (e f : Edge) (place : ℤ) → IsEdge inside e → IsEdge inside f → e.side ≡ f.side → e.line ≡ f.line
    → e.lo ≤ℤ place → place <ℤ e.hi → f.lo ≤ℤ place → place <ℤ f.hi → e.hi <ℤ f.hi → ⊥
not_higher inside e f place edge other side line a b c d less =
    let faces = other.along e.hi (omega (arith, ints)) less in
    edge.after (
      ap (λ l. inside l e.hi) line ∙ faces.0 ∙ ap opens (sym side),
      ap (λ l. inside (l -ℤ pos 1) e.hi) line ∙ faces.1 ∙ ap (λ s. not (opens s)) (sym side),
    )

pub same_edge : (inside : PixelSet) (e f : Edge) (place : ℤ) → IsEdge inside e → IsEdge inside f → is_vertical e.side ≡ is_vertical f.side → e.line ≡ f.line
    → e.lo ≤ℤ place → place <ℤ e.hi → f.lo ≤ℤ place → place <ℤ f.hi → e ≡ f
same_edge inside e f place edge other v line a b c d =
    edge_is e f side line lo hi
    (edge.low_convex ∙ ap (λ l. is_convex inside l e.lo) line ∙ ap (is_convex inside f.line) lo ∙ sym other.low_convex)
    (edge.high_convex ∙ ap (λ l. is_convex inside l e.hi) line ∙ ap (is_convex inside f.line) hi ∙ sym other.high_convex)
  where
    side : e.side ≡ f.side
    side = side_is e.side f.side v (sym (edge.along place a b).0 ∙ ap (λ l. inside l place) line ∙ (other.along place c d).0)

    lo : e.lo ≡ f.lo
    lo = by (int_lt f.lo e.lo) (int_lt e.lo f.lo) refl refl
      where
        by : (s t : Bool) → int_lt f.lo e.lo ≡ s → int_lt e.lo f.lo ≡ t → e.lo ≡ f.lo
        by true t g h = absurd (not_lower inside e f place edge other side line a b c d (omega (arith, ints)))
        by false true g h = absurd (not_lower inside f e place other edge (sym side) (sym line) c d a b (omega (arith, ints)))
        by false false g h = omega (arith, ints)

    hi : e.hi ≡ f.hi
    hi = by (int_lt e.hi f.hi) (int_lt f.hi e.hi) refl refl
      where
        by : (s t : Bool) → int_lt e.hi f.hi ≡ s → int_lt f.hi e.hi ≡ t → e.hi ≡ f.hi
        by true t g h = absurd (not_higher inside e f place edge other side line a b c d (omega (arith, ints)))
        by false true g h = absurd (not_higher inside f e place other edge (sym side) (sym line) c d a b (omega (arith, ints)))
        by false false g h = omega (arith, ints)

-- ---- the lists

abbrev InTurn : Edge → Edge → Type 0
InTurn e f = EdgePrecedes e f × (e.lo <ℤ e.hi) × (f.lo <ℤ f.hi)

not_both : (e f : Edge) → InTurn e f → ¬ InTurn f e
not_both e f h k = by h.0 k.0
  where
    by : EdgePrecedes e f → EdgePrecedes f e → ⊥
    by (inl a) (inl b) = omega (arith, ints)
    by (inl a) (inr b) = let c = b.0 in omega (arith, ints)
    by (inr a) (inl b) = let c = a.0 in omega (arith, ints)
    by (inr a) (inr b) = let c = a.1 in let d = b.1 in let s = h.1 in let t = h.2 in omega (arith, ints)

pub not_its_own : (b : Bool) → b ≢ not b
not_its_own true e = cc e
not_its_own false e = cc e

found_in : (upright : Bool) (inside : PixelSet) (es fs : List Edge) → HasEdges upright inside es → HasEdges upright inside fs
    → (e : Edge) → Contains es e → Contains fs e
found_in upright inside es fs has other e at =
    let k = at.0 in
    let is : edge_at es k ≡ e = get_or_default es k _ e at.1 ∙ at.2 in
    let edge : IsEdge inside e = subst (IsEdge inside) is (has.edges k at.1) in
    let side : is_vertical e.side ≡ upright = subst (λ f. is_vertical f.side ≡ upright) is (has.sides k at.1) in
    let some = edge.some in
    let first = edge.along e.lo (omega (arith, ints)) some in
    let found = other.all e.line e.lo (λ same. not_its_own (opens e.side) (sym first.0 ∙ same ∙ first.1)) in
    let f = edge_at fs found.0 in
    let same = same_edge inside f e e.lo (other.edges found.0 found.1) edge (other.sides found.0 found.1 ∙ sym side) found.2 found.3 found.4 (omega (arith, ints)) some in
    (found.0, found.1, get_or_default fs found.0 e _ found.1 ∙ same)

pub edges_are_unique : (upright : Bool) (inside : PixelSet) (es fs : List Edge) → HasEdges upright inside es → HasEdges upright inside fs → es ≡ fs
edges_are_unique upright inside es fs has other =
    same_if_ordered InTurn not_both es fs (in_turn es has) (in_turn fs other) (found_in upright inside es fs has other) (found_in upright inside fs es other has)
  where
    in_turn : (es : List Edge) → HasEdges upright inside es → AllPairs InTurn es
    in_turn es has i j d less below =
        let i_below : i < length es = omega arith in
        subst (λ e. InTurn e (get_or es j d)) (get_or_default es i _ d i_below)
        (subst (InTurn (edge_at es i)) (get_or_default es j _ d below)
        (has.sorted i j less below, (has.edges i i_below).some, (has.edges j below).some))

pub all_edges_are_unique : (inside : PixelSet) (es fs : List Edge) → AreEdges inside es → AreEdges inside fs → es ≡ fs
all_edges_are_unique inside es fs first second =
    first.parts
    ∙ ap (λ t. t ++ first.horizontal) (edges_are_unique true (seen true inside) first.vertical second.vertical first.upright second.upright)
    ∙ ap (λ t. second.vertical ++ t) (edges_are_unique false (seen false inside) first.horizontal second.horizontal first.level second.level)
    ∙ sym second.parts

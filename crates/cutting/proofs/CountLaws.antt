-- The pieces of all edges are few enough to count.
use Rattle.std.proofs.Common.{◌≡◌, ◌≢◌, inl, inr, ℕ, ◌+◌, ◌-◌, ◌*◌, ◌<◌, ◌≤◌, ◌==◌, nat_lt, ℤ, pos, negsuc, ◌+ℤ◌, ◌-ℤ◌, ◌≤ℤ◌, Bool, true, false, if◌then◌else◌, List, [], ◌∷◌, ◌++◌, length, get_or, take, All, refl, sym, ◌∙◌, ap, subst, arith, length-append}
use Rattle.std.specs.Int.RustNames.{unsigned_abs}
use Rattle.std.proofs.lemmas.Int.{ints}
use Rattle.std.proofs.lemmas.List.{get_or_append_left, get_or-append_right}
use Rattle.std.proofs.lemmas.Bool.Decides.{Decides-ltb, Decides-eqb, not_from_Decides}
use Rattle.outline_model.specs.Outline.{is_vertical}
use Rattle.outline_model.specs.declared.edge.Edge.{Edge}
use Rattle.opc_base.specs.Plane.{PixelSet}
use Rattle.outline_model.specs.Edges.{edge_at, EdgePrecedes, AreEdges}
use Rattle.opc_base.specs.declared.rules.CutRules.{CutRules}
use Rattle.outline_model.specs.Lengths.{edge_length, lengths}
use Rattle.cutting.specs.Limits.{IsCuttable, Leads, AreSorted, reach}
use Rattle.outline_model.specs.Pieces.{laid, pieces_along}
use Rattle.cutting.proofs.LengthLaws.{edge_length_is, pieces_along-nil, pieces_along-take_more, size_is}

reach_is : (e : Edge) → IsCuttable e → (n : ℕ) → (if is_vertical e.side then 0 else 8796093022208) ≡ n
    → (a b : ℕ) → pos a ≡ e.line +ℤ pos 1048000 → pos b ≡ e.hi +ℤ pos 1048000 → reach e ≡ n + 2096001 * a + b
unfolding reach
reach_is e cuttable n f a b at to =
    let line_is = size_is (e.line +ℤ pos 1048000) (let l = cuttable.line.0 in omega (arith, ints)) in
    let hi_is = size_is (e.hi +ℤ pos 1048000) (let h = cuttable.high.0 in omega (arith, ints)) in
    let same_a : unsigned_abs (e.line +ℤ pos 1048000) ≡ a = omega (arith, ints) in
    let same_b : unsigned_abs (e.hi +ℤ pos 1048000) ≡ b = omega (arith, ints) in
    rw (f, same_a, same_b) refl

natural : (z : ℤ) → pos 0 ≤ℤ z → (n : ℕ) × (pos n ≡ z)
natural (pos n) h = (n, refl)
natural (negsuc n) h = absurd (omega (arith, ints))

base_value : (v : Bool) → (n : ℕ) × ((if v then 0 else 8796093022208) ≡ n) × (n ≤ 8796093022208)
base_value true = (0, refl, omega arith)
base_value false = (8796093022208, refl, omega arith)

record Reached (e : Edge) : Type 0 where
  n : ℕ
  a : ℕ
  b : ℕ
  base : (if is_vertical e.side then 0 else 8796093022208) ≡ n
  small : n ≤ 8796093022208
  line : pos a ≡ e.line +ℤ pos 1048000
  hi : pos b ≡ e.hi +ℤ pos 1048000
  is : reach e ≡ n + 2096001 * a + b

reached : (e : Edge) → IsCuttable e → Reached e
reached e cuttable =
    let n = base_value (is_vertical e.side) in
    let a = natural (e.line +ℤ pos 1048000) (let l = cuttable.line.0 in omega (arith, ints)) in
    let b = natural (e.hi +ℤ pos 1048000) (let h = cuttable.high.0 in omega (arith, ints)) in
    record { n = n.0; a = a.0; b = b.0; base = n.1; small = n.2; line = a.1; hi = b.1; is = reach_is e cuttable n.0 n.1 a.0 b.0 a.1 b.1 }

pub reach_first : (e : Edge) → IsCuttable e → edge_length e ≤ reach e
reach_first e cuttable =
    let r = reached e cuttable in
    let l = edge_length_is e cuttable in
    let low = cuttable.low.0 in
    let is = r.is in
    let hi = r.hi in
    let few : edge_length e ≤ r.b = omega (arith, ints) in
    omega arith

pub reach_bound : (e : Edge) → IsCuttable e → reach e < 35184372088832
reach_bound e cuttable =
    let r = reached e cuttable in
    let line = r.line in
    let hi = r.hi in
    let line_high = cuttable.line.1 in
    let hi_high = cuttable.high.1 in
    let is = r.is in
    let small = r.small in
    let a : r.a ≤ 2096000 = omega (arith, ints) in
    let b : r.b ≤ 2096000 = omega (arith, ints) in
    omega arith

pub reach_step : (e f : Edge) → IsCuttable e → IsCuttable f → Leads e f → reach e + edge_length f ≤ reach f
reach_step e f cuttable too leads = by leads
  where
    r : Reached e
    r = reached e cuttable

    s : Reached f
    s = reached f too

    long : pos (edge_length f) ≡ f.hi -ℤ f.lo
    long = edge_length_is f too

    by : Leads e f → reach e + edge_length f ≤ reach f
    by (inl h) =
        let one : r.n ≡ 0 = sym r.base ∙ ap (λ (v : Bool). if v then 0 else 8796093022208) h.0 in
        let two : s.n ≡ 8796093022208 = sym s.base ∙ ap (λ (v : Bool). if v then 0 else 8796093022208) h.1 in
        let a = r.is in let b = s.is in
        let bound : r.a ≤ 2096000 = (let l = r.line in let m = cuttable.line.1 in omega (arith, ints)) in
        let bound_b : r.b ≤ 2096000 = (let l = r.hi in let m = cuttable.high.1 in omega (arith, ints)) in
        let few : edge_length f ≤ s.b = (let l = long in let m = s.hi in let n = too.low.0 in omega (arith, ints)) in
        omega arith
    by (inr h) =
        let same : r.n ≡ s.n = sym r.base ∙ ap (λ (v : Bool). if v then 0 else 8796093022208) h.0 ∙ s.base in
        next same h.1
      where
        next : r.n ≡ s.n → EdgePrecedes e f → reach e + edge_length f ≤ reach f
        next same (inl less) =
            let a = r.is in let b = s.is in
            let lines : r.a + 1 ≤ s.a = (let l = r.line in let m = s.line in omega (arith, ints)) in
            let bound_b : r.b ≤ 2096000 = (let l = r.hi in let m = cuttable.high.1 in omega (arith, ints)) in
            let few : edge_length f ≤ s.b = (let l = long in let m = s.hi in let n = too.low.0 in omega (arith, ints)) in
            omega arith
        next same (inr on) =
            let a = r.is in let b = s.is in
            let lines : r.a ≡ s.a = (let l = r.line in let m = s.line in let e = on.0 in omega (arith, ints)) in
            let after : r.b + edge_length f ≤ s.b = (let l = long in let m = s.hi in let n = r.hi in let o = on.1 in omega (arith, ints)) in
            omega arith

-- ---- the edges of a set are sorted

pub edges_sorted : (inside : PixelSet) (es : List Edge) → AreEdges inside es → AreSorted es
edges_sorted inside es edges = subst AreSorted (sym edges.parts) both
  where
    vs : List Edge
    vs = edges.vertical

    hs : List Edge
    hs = edges.horizontal

    left : (k : ℕ) → k < length vs → edge_at (vs ++ hs) k ≡ edge_at vs k
    left k below = get_or_append_left vs hs _ k below

    right : (k : ℕ) → length vs ≤ k → edge_at (vs ++ hs) k ≡ edge_at hs (k - length vs)
    right k above = get_or-append_right vs hs (length vs) k _ refl above

    both : (k : ℕ) → k + 1 < length (vs ++ hs) → Leads (edge_at (vs ++ hs) k) (edge_at (vs ++ hs) (k + 1))
    both k below = by (nat_lt (k + 1) (length vs)) (nat_lt k (length vs)) refl refl
      where
        total : length (vs ++ hs) ≡ length vs + length hs
        total = length-append vs hs

        by : (s t : Bool) → nat_lt (k + 1) (length vs) ≡ s → nat_lt k (length vs) ≡ t → Leads (edge_at (vs ++ hs) k) (edge_at (vs ++ hs) (k + 1))
        by true t e f =
            let in_vs = (Decides-ltb (k + 1) (length vs)).0 e in
            let k_in : k < length vs = omega arith in
            rw (left k k_in, left (k + 1) in_vs)
            (inr (edges.upright.sides k k_in ∙ sym (edges.upright.sides (k + 1) in_vs), edges.upright.sorted k (k + 1) (omega arith) in_vs))
        by false true e f =
            let not_in = not_from_Decides _ (Decides-ltb (k + 1) (length vs)) e in
            let k_in = (Decides-ltb k (length vs)).0 f in
            let sum = total in
            let in_hs : (k + 1) - length vs < length hs = omega arith in
            rw (left k k_in, right (k + 1) (omega arith)) (inl (edges.upright.sides k k_in, edges.level.sides ((k + 1) - length vs) in_hs))
        by false false e f =
            let not_in = not_from_Decides _ (Decides-ltb k (length vs)) f in
            let sum = total in
            let k_in : k - length vs < length hs = omega arith in
            let next_in : (k + 1) - length vs < length hs = omega arith in
            rw (right k (omega arith), right (k + 1) (omega arith))
            (inr (
              edges.level.sides (k - length vs) k_in ∙ sym (edges.level.sides ((k + 1) - length vs) next_in),
              edges.level.sorted (k - length vs) ((k + 1) - length vs) (omega arith) next_in,
            ))

length-laid : (e : Edge) (from : ℤ) (ns : List ℕ) → length (laid e.side e.line from ns) ≡ length ns
unfolding laid
length-laid e from [] = refl
length-laid e from (n ∷ ns) = let rest = length-laid e (from +ℤ pos n) ns in omega arith

pub length-pieces_along_more : (rules : CutRules) (es : List Edge) (i : ℕ) (d : Edge) → i < length es
    → length (pieces_along rules (take (i + 1) es)) ≡ length (pieces_along rules (take i es)) + length (lengths rules (get_or es i d))
length-pieces_along_more rules es i d below =
    let e = get_or es i d in
    ap length (pieces_along-take_more rules es i d below)
    ∙ length-append (pieces_along rules (take i es)) (laid e.side e.line e.lo (lengths rules e))
    ∙ ap (λ n. length (pieces_along rules (take i es)) + n) (length-laid e e.lo (lengths rules e))

-- one more edge
pub step_bound : (es : List Edge) (i total n : ℕ) → All IsCuttable es → AreSorted es → i < length es → (i ≡ 0 → total ≡ 0)
    → (0 < i → total ≤ reach (edge_at es (i - 1))) → n ≤ edge_length (edge_at es i)
    → (total + n ≤ reach (edge_at es i)) × (total + n < 35184372088832)
step_bound es i total n cuttable sorted below none bound few =
    let upto = by (i == 0) refl in
    let most = reach_bound (edge_at es i) (cuttable i _ below) in
    (upto, omega arith)
  where
    by : (t : Bool) → (i == 0) ≡ t → total + n ≤ reach (edge_at es i)
    by true e =
        let zero_is = none ((Decides-eqb i 0).0 e) in
        let first = reach_first (edge_at es i) (cuttable i _ below) in
        omega arith
    by false e =
        let apart : i ≢ 0 = not_from_Decides _ (Decides-eqb i 0) e in
        let before = bound (omega arith) in
        let again : i - 1 + 1 ≡ i = omega arith in
        let leads : Leads (edge_at es (i - 1)) (edge_at es i) = subst (λ k. Leads (edge_at es (i - 1)) (edge_at es k)) again (sorted (i - 1) (omega arith)) in
        let step = reach_step (edge_at es (i - 1)) (edge_at es i) (cuttable (i - 1) _ (omega arith)) (cuttable i _ below) leads in
        omega arith

pub length-pieces_along_none : (rules : CutRules) → length (pieces_along rules []) ≡ 0
length-pieces_along_none rules = ap length (pieces_along-nil rules)

-- The edges of rectangles are within the limit of these.
use Rattle.std.proofs.Common.{◌≡◌, ℕ, suc, ◌<◌, ℤ, pos, neg_ℤ, ◌-ℤ◌, ◌≤ℤ◌, ◌<ℤ◌, Bool, true, false, not, ◌||◌, List, [], ◌∷◌, All, length, get_or, refl, sym, ◌∙◌, ap, subst, arith}
use Rattle.std.proofs.lemmas.Int.{ints}
use Rattle.std.proofs.lemmas.List.{get_or_default}
use Rattle.std.proofs.lemmas.List.Elements.{All-append}
use Rattle.opc_base.specs.declared.plane.Rect.{Rect}
use Rattle.outline_model.specs.Target.{opens}
use Rattle.outline_model.specs.declared.edge.Edge.{Edge}
use Rattle.opc_base.specs.Plane.{IsRectWithin, PixelSet, cover, rect_cover}
use Rattle.outline_model.specs.Edges.{seen}
use Rattle.outline_model.specs.Ranges.{IsWithin}
use Rattle.outline_model.specs.Edges.{IsEdge, HasEdges, AreEdges}
use Rattle.cutting.specs.Limits.{IsCuttable}

-- a row or a column within the limit
abbrev IsPlaceWithin : ℕ → ℤ → Type 0
IsPlaceWithin limit z = (neg_ℤ (pos limit) ≤ℤ z) × (z <ℤ pos limit)

rect_within : (limit : ℕ) (r : Rect) (x y : ℤ) → IsRectWithin limit r → rect_cover r x y ≡ true → IsPlaceWithin limit x × IsPlaceWithin limit y
rect_within limit r x y near is =
    let a = near.0 in let b = near.1 in let c = near.2 in let d = near.3 in
    let from : r.x0 ≤ℤ x = grind (arith, ints) in let to : x <ℤ r.x1 = grind (arith, ints) in
    let bottom : r.y0 ≤ℤ y = grind (arith, ints) in let top : y <ℤ r.y1 = grind (arith, ints) in
    ((omega (arith, ints), omega (arith, ints)), (omega (arith, ints), omega (arith, ints)))

pub rects_within : (limit : ℕ) (rects : List Rect) (x y : ℤ) → All (IsRectWithin limit) rects → cover rects x y ≡ true → IsPlaceWithin limit x × IsPlaceWithin limit y
rects_within limit [] x y near is = absurd (cc)
rects_within limit (r ∷ rects) x y near is =
    by (rect_cover r x y) refl
    (λ off. rects_within limit rects x y (λ k d below. near (suc k) d (omega arith)) (ap (λ b. b || cover rects x y) (sym off) ∙ is))
  where
    Both : Type 0
    Both = IsPlaceWithin limit x × IsPlaceWithin limit y

    by : (t : Bool) → rect_cover r x y ≡ t → (rect_cover r x y ≡ false → Both) → Both
    by true here others = rect_within limit r x y (near 0 r (omega arith)) here
    by false off others = others off

covered_within : (limit : ℕ) (upright : Bool) (rects : List Rect) (line place : ℤ) → All (IsRectWithin limit) rects → seen upright (cover rects) line place ≡ true
    → IsPlaceWithin limit line × IsPlaceWithin limit place
covered_within limit true rects line place near here = rects_within limit rects line place near here
covered_within limit false rects line place near here = let is = rects_within limit rects place line near here in (is.1, is.0)

pub faced_within : (limit : ℕ) (upright : Bool) (rects : List Rect) (o : Bool) (line place : ℤ) → All (IsRectWithin limit) rects
    → seen upright (cover rects) line place ≡ o → seen upright (cover rects) (line -ℤ pos 1) place ≡ not o → IsWithin limit line × IsPlaceWithin limit place
faced_within limit upright rects true line place near here there =
    let a = covered_within limit upright rects line place near here in
    let low = a.0.0 in let high = a.0.1 in ((low, omega (arith, ints)), a.1)
faced_within limit upright rects false line place near here there =
    let a = covered_within limit upright rects (line -ℤ pos 1) place near there in
    let low = a.0.0 in let high = a.0.1 in ((omega (arith, ints), omega (arith, ints)), a.1)

cuttable : (upright : Bool) (rs : List Rect) (e : Edge) → All (IsRectWithin 1048000) rs → IsEdge (seen upright (cover rs)) e → IsCuttable e
cuttable upright rs e near edge =
    let some = edge.some in
    let first = edge.along e.lo (omega (arith, ints)) some in
    let last = edge.along (e.hi -ℤ pos 1) (omega (arith, ints)) (omega (arith, ints)) in
    let a = faced_within 1048000 upright rs (opens e.side) e.line e.lo near first.0 first.1 in
    let b = faced_within 1048000 upright rs (opens e.side) e.line (e.hi -ℤ pos 1) near last.0 last.1 in
    let low = a.1.0 in
    let high = b.1.1 in
    record {
      some = some;
      line = a.0;
      low = (low, omega (arith, ints));
      high = (omega (arith, ints), omega (arith, ints));
    }

pub edges_cuttable : (rs : List Rect) (es : List Edge) → All (IsRectWithin 1048000) rs → AreEdges (cover rs) es → All IsCuttable es
edges_cuttable rs es near edges =
    subst (All IsCuttable) (sym edges.parts) (All-append IsCuttable edges.vertical edges.horizontal
    (λ k d below. cuttable true rs (get_or edges.vertical k d) near (at true (seen true (cover rs)) edges.vertical edges.upright k d below))
    (λ k d below. cuttable false rs (get_or edges.horizontal k d) near (at false (seen false (cover rs)) edges.horizontal edges.level k d below)))
  where
    at : (upright : Bool) (inside : PixelSet) (es : List Edge) → HasEdges upright inside es → (k : ℕ) (d : Edge) → k < length es → IsEdge inside (get_or es k d)
    at upright inside es has k d below = subst (IsEdge inside) (get_or_default es k _ d below) (has.edges k below)

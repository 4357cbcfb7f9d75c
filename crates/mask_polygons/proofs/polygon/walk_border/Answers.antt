use Rattle.std.proofs.Common.{◌≡◌, ◌∙◌, ◌<◌, ◌≤◌, ◌++◌, ℕ, ℤ, pos, List, [], ◌∷◌, length, length-append, map, All, ap, sym, subst, arith}
use Rattle.std.proofs.lemmas.List.{length-map}
use Rattle.std.proofs.lemmas.List.Elements.{All-head, All-tail, All-nil, All-cons}
use Rattle.opc_base.specs.declared.plane.Pix.{Pix}
use Rattle.opc_base.specs.Plane.{PixelSet, cover}
use Rattle.outline_model.specs.declared.fragment.Fragment.{Fragment}
use Rattle.mask_polygons.specs.declared.script.Stop.{Stop}
use Rattle.mask_polygons.specs.Border.{AreNear}
use Rattle.mask_polygons.specs.Loops.{AreLoops, IsLoop, lists, loop_start}
use Rattle.mask_polygons.specs.Polygons.{IsDrawn, IsWalkRound, first_corner}
use Rattle.mask_polygons.specs.Scripts.{AreHung, loop_stops}
use Rattle.mask_polygons.specs.Walks.{HangForward, pix_at, scripts_of, walk_of}
use Rattle.mask_polygons.proofs.CountLaws.{HasParts, walk-back, walk-counts-all}
use Rattle.mask_polygons.proofs.StraightLaws.{are-starts-near, fine-near, fine-straight, joined-pix, walk-is-fine}
use Rattle.mask_polygons.specs.Border.{IsBorder}
use Rattle.mask_polygons.specs.Scripts.{HaveStarts}
use Rattle.mask_polygons.specs.Seams.{EndRight}
use Rattle.mask_polygons.proofs.BorderOrder.{in-order}
use Rattle.mask_polygons.proofs.LoopStarts.{begins-first, chain_of, forward, later-holes, start-of}
use Rattle.mask_polygons.proofs.Winding.{loop-within}
use Rattle.std.specs.Prelude.{None, Some, Vec}
use Rattle.std.specs.declared.alloc.Global.{Global}
use Rattle.opc_base.specs.declared.plane.Rect.{Rect}
use Rattle.opc_base.specs.Canonical.{AreCanonical}
use Rattle.opc_base.specs.Runs.{IsCornerTouch}
use Rattle.mask_polygons.specs.Walk.{IsComponent, IsWalk, most_points, point_count}
use Rattle.mask_polygons.proofs.Drawn.{count-is, walk-is}
use Rattle.mask_polygons.proofs.EdgeNumbers.{edge-list}
use Rattle.mask_polygons.proofs.HoleStarts.{IsTaken}
use Rattle.mask_polygons.proofs.RectLaws.{first-pixel}
use Rattle.mask_polygons.proofs.Uniqueness.{same-first}
use Rattle.mask_polygons.proofs.polygon.walk_border.Goals as goal

loops-within : (fs : List Fragment) (loops : List (List ℕ)) → All (IsLoop fs) loops → All (All (λ j. j < length fs)) loops
loops-within fs [] all = All-nil (All (λ j. j < length fs))
loops-within fs (chain ∷ loops) all =
    All-cons (All (λ j. j < length fs)) chain loops (loop-within fs chain (All-head (IsLoop fs) chain loops all)) (loops-within fs loops (All-tail (IsLoop fs) chain loops all))

walked : (fs : List Fragment) (loops hung : List (List ℕ)) (starts : List Pix) (scripts : List (List Stop)) (points : List Pix) → HasParts fs loops hung starts scripts
    → AreNear fs → 0 < length loops → points ≡ pix_at starts 0 ∷ walk_of scripts starts 0 → length points ≤ most_points → IsWalkRound fs points
walked fs loops hung starts scripts points parts near some is few =
    let many : length scripts ≡ length loops = ap length parts.scripts_are ∙ length-map loops (loop_stops fs hung starts) in
    let any : 0 < length scripts = omega arith in
    let fine = walk-is-fine fs loops hung starts scripts parts near any in
    subst (IsWalkRound fs) (sym is) (record {
      outline = record {
        closed = walk-back fs loops hung starts scripts 0 parts any;
        straight = fine-straight (pix_at starts 0) (walk_of scripts starts 0) fine.1;
        within = fine-near (pix_at starts 0) (walk_of scripts starts 0) fine.0 fine.1;
        few = (let same = ap length is in omega (arith, same, few));
      };
      counts = λ x y. walk-counts-all fs loops hung starts scripts x y parts;
    })

pub find_loops-requires-clause-order : goal.find_loops-requires-clause-order
find_loops-requires-clause-order c = in-order (cover c.args.rects.now) c.args.border.now c.requires.border

pub find_loops-requires-clause-joined : goal.find_loops-requires-clause-joined
find_loops-requires-clause-joined c = c.requires.border.joined

pub find_loops-requires-clause-outline : goal.find_loops-requires-clause-outline
find_loops-requires-clause-outline c = c.requires.border.outline

pub start_corners-requires : goal.start_corners-requires
start_corners-requires c = subst (λ l. All (IsLoop c.args.border.now) (lists l)) (sym c.deref.ensures.value) c.in_ok-loops.ensures.each

pub hang_holes-requires-clause-near : goal.hang_holes-requires-clause-near
hang_holes-requires-clause-near c =
    let starts = c.in_ok-starts.ensures ∙ ap (λ l. map (loop_start c.args.border.now) (lists l)) c.deref.ensures.value in
    are-starts-near c.args.border.now (lists c.in_ok-loops.loops.items) c.deref-2.result.now c.requires.near c.in_ok-loops.ensures.each (c.deref-2.ensures.value ∙ starts)

pub hang_holes-requires-clause-some : goal.hang_holes-requires-clause-some
hang_holes-requires-clause-some c =
    let fs = c.args.border.now in
    let loops = lists c.in_ok-loops.loops.items in
    let starts = c.deref-2.ensures.value ∙ c.in_ok-starts.ensures ∙ ap (λ l. map (loop_start fs) (lists l)) c.deref.ensures.value in
    let first = begins-first c.args.rects.now fs loops c.requires.canonical c.requires.some c.requires.border c.in_ok-loops.ensures in
    let some = first.0 in
    let many : length c.deref-2.result.now ≡ length loops = ap length starts ∙ length-map loops (loop_start fs) in omega (arith, some, many)

pub hang_holes-requires-clause-holes : goal.hang_holes-requires-clause-holes
hang_holes-requires-clause-holes c =
    let fs = c.args.border.now in
    let loops = lists c.in_ok-loops.loops.items in
    let starts = c.deref-2.ensures.value ∙ c.in_ok-starts.ensures ∙ ap (λ l. map (loop_start fs) (lists l)) c.deref.ensures.value in
    let many : length c.deref-2.result.now ≡ length loops = ap length starts ∙ length-map loops (loop_start fs) in
    λ h later below. later-holes c.args.rects.now fs loops c.deref-2.result.now h c.requires.canonical c.requires.some c.requires.component c.requires.border c.in_ok-loops.ensures starts later
    (omega (arith, many, below))

pub write_scripts-requires-clause-loops : goal.write_scripts-requires-clause-loops
write_scripts-requires-clause-loops c =
    loops-within c.args.border.now (lists c.deref-3.result.now) (subst (λ l. All (IsLoop c.args.border.now) (lists l)) (sym c.deref-3.ensures.value) c.in_ok-loops.ensures.each)

pub write_scripts-requires-clause-starts : goal.write_scripts-requires-clause-starts
write_scripts-requires-clause-starts c =
    let within : All (HaveStarts c.in_ok-starts.starts.items) (lists c.in_ok-hung.hung.items) =
    subst (λ s. All (HaveStarts s) (lists c.in_ok-hung.hung.items)) c.deref-2.ensures.value c.in_ok-hung.ensures.hung.within in
    subst (λ s. All (HaveStarts s) (lists c.deref-4.result.now)) (sym c.deref-5.ensures.value)
    (subst (λ h. All (HaveStarts c.in_ok-starts.starts.items) (lists h)) (sym c.deref-4.ensures.value) within)

-- the parts of the walk, once its stops are written
parts-of : (inside : PixelSet) (fs : List Fragment) (loops hung : List (List ℕ)) (starts : List Pix) (scripts : List (List Stop)) → IsBorder inside fs → AreLoops fs loops
    → AreHung fs starts hung → EndRight inside fs starts hung → starts ≡ map (loop_start fs) loops → scripts ≡ map (loop_stops fs hung starts) loops → HasParts fs loops hung starts scripts
parts-of inside fs loops hung starts scripts border are hangs right starts_are scripts_are = record {
  joined = joined-pix fs border.joined;
  are_loops = are;
  hangs = hangs;
  starts_are = starts_are;
  scripts_are = scripts_are;
  forward = forward inside fs loops hung starts scripts (joined-pix fs border.joined) are hangs right starts_are scripts_are;
}

parts : (c : goal.After-deref-7) → HasParts c.args.border.now (lists c.in_ok-loops.loops.items) (lists c.in_ok-hung.hung.items) c.in_ok-starts.starts.items (scripts_of c.in_ok-scripts.scripts.items)
parts c =
    let fs = c.args.border.now in
    let hung = lists c.in_ok-hung.hung.items in
    let starts = c.in_ok-starts.starts.items in
    let e = c.deref-2.ensures.value in
    let written : scripts_of c.in_ok-scripts.scripts.items ≡ map (loop_stops fs hung starts) (lists c.in_ok-loops.loops.items) =
    rw (c.deref-3.ensures.value, c.deref-4.ensures.value, c.deref-5.ensures.value) at c.in_ok-scripts.ensures in
    parts-of (cover c.args.rects.now) fs (lists c.in_ok-loops.loops.items) hung starts (scripts_of c.in_ok-scripts.scripts.items) c.requires.border c.in_ok-loops.ensures
    (subst (λ s. AreHung fs s hung) e c.in_ok-hung.ensures.hung) (subst (λ s. EndRight (cover c.args.rects.now) fs s hung) e c.in_ok-hung.ensures.right)
    (c.in_ok-starts.ensures ∙ ap (λ l. map (loop_start fs) (lists l)) c.deref.ensures.value) written

pub walk-requires-clause-some : goal.walk-requires-clause-some
walk-requires-clause-some c =
    let p = parts c in
    let fs = c.args.border.now in
    let loops = lists c.in_ok-loops.loops.items in
    let first = begins-first c.args.rects.now fs loops c.requires.canonical c.requires.some c.requires.border c.in_ok-loops.ensures in
    let some = first.0 in
    let many = ap length p.scripts_are ∙ length-map loops (loop_stops fs (lists c.in_ok-hung.hung.items) c.in_ok-starts.starts.items) in
    let rows = length-map c.in_ok-scripts.scripts.items (λ v. v.items) in
    let e = ap length c.deref-6.ensures.value in
    omega (arith, some, many, rows, e)

pub walk-requires-clause-starts : goal.walk-requires-clause-starts
walk-requires-clause-starts c =
    let p = parts c in
    let fs = c.args.border.now in
    let loops = lists c.in_ok-loops.loops.items in
    let many = ap length p.scripts_are ∙ length-map loops (loop_stops fs (lists c.in_ok-hung.hung.items) c.in_ok-starts.starts.items) in
    let count = ap length p.starts_are ∙ length-map loops (loop_start fs) in
    let rows = length-map c.in_ok-scripts.scripts.items (λ v. v.items) in
    let e = ap length c.deref-6.ensures.value in
    let f = ap length c.deref-7.ensures.value in
    omega (arith, many, count, rows, e, f)

pub walk-requires-clause-forward : goal.walk-requires-clause-forward
walk-requires-clause-forward c = subst (λ s. HangForward (scripts_of s)) (sym c.deref-6.ensures.value) (parts c).forward

pub returns-clause-round : goal.returns-clause-round
returns-clause-round c =
    let fs = c.args.border.now in
    let loops = lists c.in_ok-loops.loops.items in
    let hung = lists c.in_ok-hung.hung.items in
    let starts = c.in_ok-starts.starts.items in
    let scripts = scripts_of c.in_ok-scripts.scripts.items in
    let e = c.deref-2.ensures.value in
    let written : scripts_of c.in_ok-scripts.scripts.items ≡ map (loop_stops fs hung starts) loops =
    rw (c.deref-3.ensures.value, c.deref-4.ensures.value, c.deref-5.ensures.value) at c.in_ok-scripts.ensures in
    let all = parts-of (cover c.args.rects.now) fs loops hung starts scripts c.requires.border c.in_ok-loops.ensures
    (subst (λ s. AreHung fs s hung) e c.in_ok-hung.ensures.hung) (subst (λ s. EndRight (cover c.args.rects.now) fs s hung) e c.in_ok-hung.ensures.right)
    (c.in_ok-starts.ensures ∙ ap (λ l. map (loop_start fs) (lists l)) c.deref.ensures.value) written in
    let points : c.in_ok-points.points.items ≡ pix_at starts 0 ∷ walk_of scripts starts 0 =
    rw (c.deref-6.ensures.value, c.deref-7.ensures.value) at c.in_ok-points.ensures in
    let first = begins-first c.args.rects.now fs loops c.requires.canonical c.requires.some c.requires.border c.in_ok-loops.ensures in
    walked fs loops hung starts scripts c.in_ok-points.points.items all c.requires.near first.0 points
    (let a = c.len.ensures in let b = c.if-len-gt-MAX_POINTS.false in let d = c.in_ok-points.points.ok in omega (arith, a, b, d))

-- the component with its loops and start corners
taken : (rects : List Rect) (fs : List Fragment) (loops : List (List ℕ)) (starts : List Pix) → AreCanonical rects → 0 < length rects → IsComponent (cover rects) (cover rects)
    → (border : IsBorder (cover rects) fs) → AreLoops fs loops → starts ≡ map (loop_start fs) loops → ((x y : ℤ) → ¬ IsCornerTouch (cover rects) x y)
    → IsTaken (cover rects) fs (border.are_edges.horizontal ++ border.are_edges.vertical) loops starts
taken rects fs loops starts canonical some component border are starts_are none =
    let first = begins-first rects fs loops canonical some border are in
    record {
      border = border;
      list = edge-list (cover rects) fs border;
      are = are;
      starts_are = starts_are;
      no_touch = none;
      some = first.0;
      first = first.1;
      corners = λ h later below. later-holes rects fs loops starts h canonical some component border are starts_are later below;
    }

edges-swapped : (part : PixelSet) (fs : List Fragment) (border : IsBorder part fs) (holes : List Pix)
    → point_count (border.are_edges.horizontal ++ border.are_edges.vertical) holes ≡ point_count border.edges holes
edges-swapped part fs border holes =
    let a = length-append border.are_edges.horizontal border.are_edges.vertical in
    let b = ap length border.are_edges.parts ∙ length-append border.are_edges.vertical border.are_edges.horizontal in omega (arith, a, b)

start-first : (rects : List Rect) (fs : List Fragment) (loops : List (List ℕ)) (starts : List Pix) → AreCanonical rects → 0 < length rects → IsBorder (cover rects) fs → AreLoops fs loops
    → starts ≡ map (loop_start fs) loops → pix_at starts 0 ≡ first_corner rects
start-first rects fs loops starts canonical some border are starts_are =
    let none : Rect = record { x0 = pos 0; y0 = pos 0; x1 = pos 0; y1 = pos 0 } in
    let first = begins-first rects fs loops canonical some border are in
    start-of fs loops starts 0 starts_are first.0
    ∙ same-first (cover rects) (loop_start fs (chain_of loops 0)) (first_corner rects) first.1 (first-pixel rects none canonical some)

drawn-some : (rects : List Rect) (fs : List Fragment) (loops hung : List (List ℕ)) (starts : List Pix) (scripts : List (List Stop)) (points : Vec Pix Global) → AreCanonical rects
    → 0 < length rects → IsComponent (cover rects) (cover rects) → (border : IsBorder (cover rects) fs) → AreLoops fs loops → ((x y : ℤ) → ¬ IsCornerTouch (cover rects) x y)
    → HasParts fs loops hung starts scripts → EndRight (cover rects) fs starts hung → points.items ≡ pix_at starts 0 ∷ walk_of scripts starts 0 → length points.items ≤ most_points
    → IsDrawn rects (Some points)
drawn-some rects fs loops hung starts scripts points canonical some component border are none parts right is few =
    let its = taken rects fs loops starts canonical some component border are parts.starts_are none in
    record {
      edges = border.edges;
      are_edges = border.are_edges;
      walk = (
        few,
        subst (λ p. IsWalk (cover rects) p points.items) (start-first rects fs loops starts canonical some border are parts.starts_are)
            (walk-is (cover rects) fs (border.are_edges.horizontal ++ border.are_edges.vertical) loops hung starts scripts points.items its parts right is),
        λ holes are_holes. count-is (cover rects) fs (border.are_edges.horizontal ++ border.are_edges.vertical) loops hung starts scripts points.items holes its parts is are_holes
            ∙ edges-swapped (cover rects) fs border holes,
      );
    }

drawn-none : (rects : List Rect) (fs : List Fragment) (loops hung : List (List ℕ)) (starts : List Pix) (scripts : List (List Stop)) (points : List Pix) → AreCanonical rects
    → 0 < length rects → IsComponent (cover rects) (cover rects) → (border : IsBorder (cover rects) fs) → AreLoops fs loops → ((x y : ℤ) → ¬ IsCornerTouch (cover rects) x y)
    → HasParts fs loops hung starts scripts → EndRight (cover rects) fs starts hung → points ≡ pix_at starts 0 ∷ walk_of scripts starts 0 → most_points < length points
    → IsDrawn rects None
drawn-none rects fs loops hung starts scripts points canonical some component border are none parts right is many =
    let its = taken rects fs loops starts canonical some component border are parts.starts_are none in
    record {
      edges = border.edges;
      are_edges = border.are_edges;
      walk = λ holes are_holes.
          (let count = count-is (cover rects) fs (border.are_edges.horizontal ++ border.are_edges.vertical) loops hung starts scripts points holes its parts is are_holes in
          let swapped = edges-swapped (cover rects) fs border holes in omega (arith, count, swapped, many));
    }

pub returns-clause-drawn : goal.returns-clause-drawn
returns-clause-drawn c =
    let fs = c.args.border.now in
    let loops = lists c.in_ok-loops.loops.items in
    let hung = lists c.in_ok-hung.hung.items in
    let starts = c.in_ok-starts.starts.items in
    let scripts = scripts_of c.in_ok-scripts.scripts.items in
    let e = c.deref-2.ensures.value in
    let written : scripts_of c.in_ok-scripts.scripts.items ≡ map (loop_stops fs hung starts) loops =
    rw (c.deref-3.ensures.value, c.deref-4.ensures.value, c.deref-5.ensures.value) at c.in_ok-scripts.ensures in
    let right = subst (λ s. EndRight (cover c.args.rects.now) fs s hung) e c.in_ok-hung.ensures.right in
    let all = parts-of (cover c.args.rects.now) fs loops hung starts scripts c.requires.border c.in_ok-loops.ensures
    (subst (λ s. AreHung fs s hung) e c.in_ok-hung.ensures.hung) right
    (c.in_ok-starts.ensures ∙ ap (λ l. map (loop_start fs) (lists l)) c.deref.ensures.value) written in
    let points : c.in_ok-points.points.items ≡ pix_at starts 0 ∷ walk_of scripts starts 0 =
    rw (c.deref-6.ensures.value, c.deref-7.ensures.value) at c.in_ok-points.ensures in
    drawn-some c.args.rects.now fs loops hung starts scripts c.in_ok-points.points c.requires.canonical c.requires.some c.requires.component c.requires.border c.in_ok-loops.ensures c.requires.no_touch
    all right points (let a = c.len.ensures in let b = c.if-len-gt-MAX_POINTS.false in let d = c.in_ok-points.points.ok in omega (arith, a, b, d))

pub returns-then-len-gt-MAX_POINTS-clause-drawn : goal.returns-then-len-gt-MAX_POINTS-clause-drawn
returns-then-len-gt-MAX_POINTS-clause-drawn c =
    let fs = c.args.border.now in
    let loops = lists c.in_ok-loops.loops.items in
    let hung = lists c.in_ok-hung.hung.items in
    let starts = c.in_ok-starts.starts.items in
    let scripts = scripts_of c.in_ok-scripts.scripts.items in
    let e = c.deref-2.ensures.value in
    let written : scripts_of c.in_ok-scripts.scripts.items ≡ map (loop_stops fs hung starts) loops =
    rw (c.deref-3.ensures.value, c.deref-4.ensures.value, c.deref-5.ensures.value) at c.in_ok-scripts.ensures in
    let right = subst (λ s. EndRight (cover c.args.rects.now) fs s hung) e c.in_ok-hung.ensures.right in
    let all = parts-of (cover c.args.rects.now) fs loops hung starts scripts c.requires.border c.in_ok-loops.ensures
    (subst (λ s. AreHung fs s hung) e c.in_ok-hung.ensures.hung) right
    (c.in_ok-starts.ensures ∙ ap (λ l. map (loop_start fs) (lists l)) c.deref.ensures.value) written in
    let points : c.in_ok-points.points.items ≡ pix_at starts 0 ∷ walk_of scripts starts 0 =
    rw (c.deref-6.ensures.value, c.deref-7.ensures.value) at c.in_ok-points.ensures in
    drawn-none c.args.rects.now fs loops hung starts scripts c.in_ok-points.points.items c.requires.canonical c.requires.some c.requires.component c.requires.border c.in_ok-loops.ensures c.requires.no_touch
    all right points (let a = c.len.ensures in let b = c.if-len-gt-MAX_POINTS.true in let d = c.in_ok-points.points.ok in omega (arith, a, b, d))

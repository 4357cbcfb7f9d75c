use Rattle.std.proofs.Common.{◌≡◌, ◌∙◌, ◌<◌, ◌||◌, ℕ, List, [], length, get_or, All, ap, ap₂, sym, subst, arith}
use Rattle.std.specs.Prelude.{Vec}
use Rattle.std.specs.declared.alloc.Global.{Global}
use Rattle.std.proofs.lemmas.List.{get_or-map, length-map}
use Rattle.std.proofs.lemmas.List.Elements.{All-get_or}
use Rattle.opc_base.specs.declared.plane.Rect.{Rect}
use Rattle.opc_base.specs.Canonical.{AreCanonical}
use Rattle.opc_base.specs.Plane.{IsRectWithin, cover}
use Rattle.outline_model.specs.MaskRange.{mask_limit}
use Rattle.mask_polygons.specs.Components.{IsOneComponent, part_at, rect_lists}
use Rattle.mask_polygons.proofs.CoverLaws.{any-more}
use Rattle.mask_polygons.specs.Polygons.{first_corner}
use Rattle.mask_polygons.specs.Walk.{ArePolygonsOfPart}
use Rattle.mask_polygons.proofs.Listed.{all-listed, one-listed}
use Rattle.mask_polygons.proofs.region_polygons.part_polygons.Goals as goal

part-read : (rows : List (Vec Rect Global)) (k : ℕ) (row : Vec Rect Global) (now : List Rect) → k < length rows → row ≡ get_or rows k row → now ≡ row.items
    → now ≡ part_at (rect_lists rows) k
part-read rows k row now below is value =
    value ∙ ap (λ (v : Vec Rect Global). v.items) is ∙ sym (get_or-map (λ (v : Vec Rect Global). v.items) rows k row [] below)

part-all : (P : List Rect → Type 0) (rows : List (Vec Rect Global)) (k : ℕ) (row : Vec Rect Global) (now : List Rect) → All P (rect_lists rows) → k < length rows
    → row ≡ get_or rows k row → now ≡ row.items → P now
part-all P rows k row now all below is value =
    let many : length (rect_lists rows) ≡ length rows = length-map rows (λ v. v.items) in
    subst P (sym (part-read rows k row now below is value)) (All-get_or P (rect_lists rows) k [] (omega arith) all)

pub push_polygons-requires-clause-canonical : goal.push_polygons-requires-clause-canonical
push_polygons-requires-clause-canonical c =
    part-all AreCanonical c.args.parts.now c.loop-part.part-index c.part-item.result c.deref.result.now c.requires.canonical c.loop-part-test.true c.part-item.is c.deref.ensures.value

pub push_polygons-requires-clause-whole : goal.push_polygons-requires-clause-whole
push_polygons-requires-clause-whole c =
    part-all IsOneComponent c.args.parts.now c.loop-part.part-index c.part-item.result c.deref.result.now c.requires.whole c.loop-part-test.true c.part-item.is c.deref.ensures.value

pub push_polygons-requires-clause-within : goal.push_polygons-requires-clause-within
push_polygons-requires-clause-within c =
    part-all (All (IsRectWithin mask_limit)) c.args.parts.now c.loop-part.part-index c.part-item.result c.deref.result.now c.requires.within c.loop-part-test.true c.part-item.is c.deref.ensures.value

pub loop-part-preserved : goal.loop-part-preserved
loop-part-preserved c =
    let rows = rect_lists c.args.parts.now in
    let i = c.loop-part.part-index in
    let part = part-read c.args.parts.now i c.part-item.result c.deref.result.now c.loop-part-test.true c.part-item.is c.deref.ensures.value in
    let many : length rows ≡ length c.args.parts.now = length-map c.args.parts.now (λ v. v.items) in
    let below : i < length rows = (let t = c.loop-part-test.true in omega (arith, t, many)) in
    record {
      outlines = c.in_ok-push_polygons.ensures.outlines;
      covers = λ x y.
          c.in_ok-push_polygons.ensures.covers x y ∙ ap₂ (λ a b. a || b) (c.loop-part.invariant.covers x y) (ap (λ p. cover p x y) part)
          ∙ sym (any-more (λ p. cover p x y) rows i [] below);
      list = (let more = c.in_ok-push_polygons.ensures.list in
          one-listed rows i c.loop-part.polygons.items c.push_polygons.new.polygons.items more.0 below c.loop-part.invariant.list more.1
          (subst (λ p. ArePolygonsOfPart (cover p) p (first_corner p) more.0) part more.2));
    }

pub returns-clause-list : goal.returns-clause-list
returns-clause-list c =
    all-listed (rect_lists c.args.parts.now) c.loop-part.part-index c.loop-part.polygons.items
    (let a = c.loop-part-test.false in let b = length-map c.args.parts.now (λ (v : Vec Rect Global). v.items) in omega (arith, a, b)) c.loop-part.invariant.list

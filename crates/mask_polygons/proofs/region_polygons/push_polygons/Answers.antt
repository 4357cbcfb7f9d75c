use Rattle.std.proofs.Common.{◌≡◌, ◌∙◌, ◌∷◌, ◌++◌, ◌||◌, [], pos, List, arith, refl, map, ap, sym, subst}
use Rattle.opc_base.specs.declared.outline.Outline.TheVariants.{Polygon}
use Rattle.opc_base.specs.Cover.{outline_cover}
use Rattle.opc_base.specs.Plane.{cover}
use Rattle.opc_base.specs.Target.{target}
use Rattle.gds_writer.specs.Outlines.{IsOutline}
use Rattle.std.specs.Prelude.{None, Some, Vec, OnOk, Result, Ok, Err}
use Rattle.std.specs.declared.alloc.Global.{Global}
use Rattle.opc_base.specs.declared.plane.Pix.{Pix}
use Rattle.opc_base.specs.declared.plane.Rect.{Rect}
use Rattle.opc_base.specs.Canonical.{AreCanonical}
use Rattle.gds_writer.specs.MaskFile.{around}
use Rattle.mask_polygons.specs.Components.{IsOneComponent}
use Rattle.mask_polygons.specs.Polygons.{IsDrawn, IsPolygonOf, first_corner}
use Rattle.mask_polygons.specs.Walk.{ArePolygonsOfPart}
use Rattle.mask_polygons.proofs.RectLaws.{first-pixel}
use Rattle.mask_polygons.proofs.CoverLaws.{outline-push, polygon-covers, target-push}
use Rattle.mask_polygons.proofs.region_polygons.push_polygons.Goals as goal

pub polygon_of-requires-clause-some : goal.polygon_of-requires-clause-some
polygon_of-requires-clause-some c = c.requires.whole.some

pub polygon_of-requires-clause-component : goal.polygon_of-requires-clause-component
polygon_of-requires-clause-component c = c.requires.whole.component

pub polygon_of-requires-clause-no_touch : goal.polygon_of-requires-clause-no_touch
polygon_of-requires-clause-no_touch c = c.requires.whole.no_touch

pub returns-in_ok-push-in-Some-clause-outlines : goal.returns-in_ok-push-in-Some-clause-outlines
returns-in_ok-push-in-Some-clause-outlines c =
    let polygon : IsPolygonOf (cover c.args.rects.now) c.in-Some.points.items = rw c.in-Some.is at c.in_ok-points.ensures.polygon in
    outline-push c.args.polygons.now.items c.push.new.self.items c.from_vec.result c.requires.outlines (subst IsOutline (sym c.from_vec.ensures.list) polygon.outline)
    c.in_ok-push-in-Some.ensures.items

pub returns-in_ok-push-in-Some-clause-covers : goal.returns-in_ok-push-in-Some-clause-covers
returns-in_ok-push-in-Some-clause-covers c =
    let polygon : IsPolygonOf (cover c.args.rects.now) c.in-Some.points.items = rw c.in-Some.is at c.in_ok-points.ensures.polygon in
    λ x y. target-push c.args.polygons.now.items c.push.new.self.items c.from_vec.result x y c.in_ok-push-in-Some.ensures.items
    ∙ ap (λ b. target (map Polygon c.args.polygons.now.items) x y || b)
    (ap (λ p. outline_cover (Polygon p) x y) c.from_vec.ensures.list ∙ polygon-covers (cover c.args.rects.now) c.in-Some.points.items x y polygon)

-- the polygons of a part, with its walk or without
part-with : (rects : List Rect) (points : Vec Pix Global) → AreCanonical rects → IsOneComponent rects → IsDrawn rects (Some points)
    → ArePolygonsOfPart (cover rects) rects (first_corner rects) (points.items ∷ [])
part-with rects points canonical whole drawn =
    let walk = drawn.walk in
    let few = walk.0 in
    record {
      canonical = canonical;
      component = whole.component;
      first = first-pixel rects (record { x0 = pos 0; y0 = pos 0; x1 = pos 0; y1 = pos 0 }) canonical whole.some;
      edges = drawn.edges;
      are_edges = drawn.are_edges;
      short = λ holes are less. (points.items, walk.1, refl);
      long = λ holes are more. absurd (let count = walk.2 holes are in omega (arith, count, few, more));
    }

part-without : (rects : List Rect) → AreCanonical rects → IsOneComponent rects → IsDrawn rects None → ArePolygonsOfPart (cover rects) rects (first_corner rects) (map around rects)
part-without rects canonical whole drawn = record {
  canonical = canonical;
  component = whole.component;
  first = first-pixel rects (record { x0 = pos 0; y0 = pos 0; x1 = pos 0; y1 = pos 0 }) canonical whole.some;
  edges = drawn.edges;
  are_edges = drawn.are_edges;
  short = λ holes are less. absurd (let many = drawn.walk holes are in omega (arith, many, less));
  long = λ holes are more. refl;
}

if-listed : {T E : Type 0} (r : Result T E) (P Q : Type 0) → (P → Q) → OnOk r P → OnOk r Q
if-listed (Ok x) P Q make h = make h
if-listed (Err e) P Q make h = tt

pub returns-in_ok-push-in-Some-clause-list : goal.returns-in_ok-push-in-Some-clause-list
returns-in_ok-push-in-Some-clause-list c =
    let drawn : IsDrawn c.args.rects.now (Some c.in-Some.points) = rw c.in-Some.is at c.in_ok-points.ensures.drawn in (
      c.in-Some.points.items ∷ [],
      c.in_ok-push-in-Some.ensures.items ∙ ap (λ p. c.args.polygons.now.items ++ p ∷ []) c.from_vec.ensures.list,
      part-with c.args.rects.now c.in-Some.points c.requires.canonical c.requires.whole drawn,
    )

pub returns-in-None-clause-list : goal.returns-in-None-clause-list
returns-in-None-clause-list c =
    let drawn : IsDrawn c.args.rects.now None = rw c.in-None.is at c.in_ok-points.ensures.drawn in
    if-listed c.push_rects.result (c.push_rects.new.polygons.items ≡ c.args.polygons.now.items ++ map around c.args.rects.now) _
    (λ e. (map around c.args.rects.now, e, part-without c.args.rects.now c.requires.canonical c.requires.whole drawn)) c.push_rects.ensures.list

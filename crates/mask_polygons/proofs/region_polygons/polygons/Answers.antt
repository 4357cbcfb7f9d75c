use Rattle.std.proofs.Common.{ℤ, List, All, subst, sym}
use Rattle.std.specs.Prelude.{Err, IfOk, Ok, Result}
use Rattle.opc_base.specs.declared.plane.Rect.{Rect}
use Rattle.mask_polygons.specs.Polygons.{AreListed}
use Rattle.mask_polygons.specs.Walk.{ArePolygonsOf}
use Rattle.mask_polygons.proofs.Listed.{are-polygons}
use Rattle.opc_base.specs.Canonical.{AreCanonical}
use Rattle.opc_base.specs.Plane.{cover}
use Rattle.opc_base.specs.Runs.{IsCornerTouch}
use Rattle.mask_polygons.specs.Components.{ArePartsOf, IsOneComponent, rect_lists}
use Rattle.mask_polygons.proofs.Ways.{own-component, part-no_touch}
use Rattle.mask_polygons.proofs.region_polygons.polygons.Goals as goal

-- each part is one component
are-whole : (rects : List Rect) (parts : List (List Rect)) → ((x y : ℤ) → ¬ IsCornerTouch (cover rects) x y) → ArePartsOf rects parts → All IsOneComponent parts
are-whole rects parts none are k d below = record {
  some = are.some k d below;
  component = own-component (cover rects) _ (are.components k d below);
  no_touch = part-no_touch (cover rects) _ (are.components k d below) none;
}

pub part_polygons-requires-clause-canonical : goal.part_polygons-requires-clause-canonical
part_polygons-requires-clause-canonical c =
    subst (λ l. All AreCanonical (rect_lists l)) (sym c.deref.ensures.value) c.in_ok-parts.ensures.canonical

pub part_polygons-requires-clause-whole : goal.part_polygons-requires-clause-whole
part_polygons-requires-clause-whole c =
    subst (λ l. All IsOneComponent (rect_lists l)) (sym c.deref.ensures.value) (are-whole c.args.rects.now (rect_lists c.in_ok-parts.parts.items) c.requires.no_touch c.in_ok-parts.ensures)

if-are : {T E : Type 0} (r : Result T E) (P Q : T → Type 0) → ((x : T) → P x → Q x) → IfOk r P → IfOk r Q
if-are (Ok x) P Q make h = make x h
if-are (Err e) P Q make h = tt

pub returns-clause-list : goal.returns-clause-list
returns-clause-list c =
    if-are c.part_polygons.result (λ polygons. AreListed (rect_lists c.deref.result.now) polygons.items) (λ polygons. ArePolygonsOf (cover c.args.rects.now) polygons.items)
    (λ polygons listed. are-polygons c.args.rects.now (rect_lists c.in_ok-parts.parts.items) polygons.items c.in_ok-parts.ensures
    (subst (λ l. AreListed (rect_lists l) polygons.items) c.deref.ensures.value listed)) c.part_polygons.ensures.list

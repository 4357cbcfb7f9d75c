use Rattle.std.proofs.Common.{arith, ◌∙◌, List, All, subst, sym}
use Rattle.std.specs.Prelude.{Option, Some, None, IfSome, Vec}
use Rattle.std.specs.declared.alloc.Global.{Global}
use Rattle.opc_base.specs.declared.plane.Pix.{Pix}
use Rattle.opc_base.specs.declared.plane.Rect.{Rect}
use Rattle.opc_base.specs.Plane.{IsRectWithin, cover}
use Rattle.outline_model.specs.MaskRange.{mask_limit}
use Rattle.outline_model.specs.declared.fragment.Fragment.{Fragment}
use Rattle.mask_polygons.specs.Border.{AreNear, IsBorder}
use Rattle.mask_polygons.specs.Polygons.{IsPolygonOf, IsWalkRound}
use Rattle.mask_polygons.proofs.BorderLaws.{border-counts}
use Rattle.mask_polygons.proofs.StraightLaws.{joined-pix}
use Rattle.mask_polygons.proofs.polygon.polygon_of.Goals as goal

-- a walk round the border of the set is its polygon
polygon-is : (rects : List Rect) (fs : List Fragment) (points : List Pix) → All (IsRectWithin mask_limit) rects → IsBorder (cover rects) fs → IsWalkRound fs points
    → IsPolygonOf (cover rects) points
polygon-is rects fs points near border walk = record {
  outline = walk.outline;
  winds = λ x y. walk.counts x y ∙ border-counts rects fs x y near border.outline border.boundary (joined-pix fs border.joined);
}

polygon-if : (rects : List Rect) (fs : List Fragment) (found : Option (Vec Pix Global)) → All (IsRectWithin mask_limit) rects → IsBorder (cover rects) fs
    → IfSome found (λ points. IsWalkRound fs points.items) → IfSome found (λ points. IsPolygonOf (cover rects) points.items)
polygon-if rects fs None near border walk = tt
polygon-if rects fs (Some points) near border walk = polygon-is rects fs points.items near border walk

pub walk_border-requires-clause-border : goal.walk_border-requires-clause-border
walk_border-requires-clause-border c =
    subst (IsBorder (cover c.args.rects.now)) (sym c.deref.ensures.value) (rw c.in-Some.is at c.in_ok-border.ensures.border)

pub walk_border-requires-clause-near : goal.walk_border-requires-clause-near
walk_border-requires-clause-near c = subst AreNear (sym c.deref.ensures.value) (rw c.in-Some.is at c.in_ok-border.ensures.near)

pub returns-clause-polygon : goal.returns-clause-polygon
returns-clause-polygon c =
    let border = rw c.in-Some.is at c.in_ok-border.ensures.border in
    polygon-if c.args.rects.now c.deref.result.now c.in_ok-points.points c.requires.within
    (subst (IsBorder (cover c.args.rects.now)) (sym c.deref.ensures.value) border) c.in_ok-points.ensures.round

-- with so many edges there are too many points
pub returns-in_default-clause-drawn : goal.returns-in_default-clause-drawn
returns-in_default-clause-drawn c =
    let many = rw c.in_default.is at c.in_ok-border.ensures.many in
    record { edges = many.0; are_edges = many.1; walk = λ holes are. (let a = many.2 in omega (arith, a)) }

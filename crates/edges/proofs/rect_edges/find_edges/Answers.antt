-- The corners along both directions are paired.
use Rattle.std.proofs.Common.{pos, true, false, refl, sym, subst}
use Rattle.opc_base.specs.Plane.{cover}
use Rattle.outline_model.specs.Edges.{seen}
use Rattle.outline_model.specs.MaskRange.{mask_limit}
use Rattle.edges.specs.Corners.{AreCorners}
use Rattle.edges.proofs.EdgeLaws.{ends_below, has_edges, met_across, no_touch_seen}
use Rattle.edges.proofs.rect_edges.find_edges.Goals as goal

pub pair_corners-requires-clause-shared : goal.pair_corners-requires-clause-shared
pair_corners-requires-clause-shared c k below =
    met_across (seen true (cover c.args.rects.now)) (seen false (cover c.args.rects.now)) c.deref.result.now c.deref-2.result.now k
    (subst (AreCorners (seen true (cover c.args.rects.now))) (sym c.deref.ensures.value) c.in_ok-columns.ensures)
    (subst (AreCorners (seen false (cover c.args.rects.now))) (sym c.deref-2.ensures.value) c.in_ok-rows.ensures) (λ line place. refl) below

pub pair_corners-requires-2-clause-shared : goal.pair_corners-requires-2-clause-shared
pair_corners-requires-2-clause-shared c k below =
    met_across (seen false (cover c.args.rects.now)) (seen true (cover c.args.rects.now)) c.deref-3.result.now c.deref-4.result.now k
    (subst (AreCorners (seen false (cover c.args.rects.now))) (sym c.deref-3.ensures.value) c.in_ok-rows.ensures)
    (subst (AreCorners (seen true (cover c.args.rects.now))) (sym c.deref-4.ensures.value) c.in_ok-columns.ensures) (λ line place. refl) below

pub returns : goal.returns
returns c =
    let inside = cover c.args.rects.now in
    record {
      vertical = c.in_ok-edges.edges.items;
      horizontal = c.in_ok-level_edges.level_edges.items;
      parts = c.in_ok-append.ensures.items;
      upright = has_edges true (seen true inside) (seen false inside) c.deref.result.now c.deref-2.result.now c.in_ok-edges.edges.items (pos mask_limit)
          (subst (AreCorners (seen true inside)) (sym c.deref.ensures.value) c.in_ok-columns.ensures)
          (subst (AreCorners (seen false inside)) (sym c.deref-2.ensures.value) c.in_ok-rows.ensures) (λ line place. refl)
          (no_touch_seen true inside c.requires.no_touch) (no_touch_seen false inside c.requires.no_touch)
          (ends_below true c.args.rects.now c.requires.disjoint.solid) c.in_ok-edges.ensures;
      level = has_edges false (seen false inside) (seen true inside) c.deref-3.result.now c.deref-4.result.now c.in_ok-level_edges.level_edges.items (pos mask_limit)
          (subst (AreCorners (seen false inside)) (sym c.deref-3.ensures.value) c.in_ok-rows.ensures)
          (subst (AreCorners (seen true inside)) (sym c.deref-4.ensures.value) c.in_ok-columns.ensures) (λ line place. refl)
          (no_touch_seen false inside c.requires.no_touch) (no_touch_seen true inside c.requires.no_touch)
          (ends_below false c.args.rects.now c.requires.disjoint.solid) c.in_ok-level_edges.ensures;
    }

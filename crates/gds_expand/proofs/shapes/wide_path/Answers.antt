use Rattle.std.proofs.Common.{◌≡◌, None, List, map, ap, sym, ◌∙◌, subst}
use Rattle.opc_base.specs.Cover.{AreRectangles}
use Rattle.opc_base.specs.declared.plane.Rect.{Rect}
use Rattle.gds_model.specs.Outlines.{pixels_in}
use Rattle.gds_model.specs.PathRects.{path_rects}
use Rattle.gds_model.specs.PlaceFaults.{rects_fault}
use Rattle.gds_expand.proofs.OutlineLemmas.{near_rects, placed_rects}
use Rattle.gds_expand.proofs.shapes.wide_path.Goals as goal

pub pixel_rects-requires : goal.pixel_rects-requires
pixel_rects-requires c = record {
  near = near_rects c.args.side.now.length c.args.offset c.deref-in-None.result.now
      (ap (rects_fault c.args.side.now.length c.args.offset) (c.deref-in-None.ensures.value ∙ sym c.deref.ensures.value) ∙ sym c.rects_fault.ensures ∙ c.in-None.is);
}

pub returns-clause-placed : goal.returns-clause-placed
returns-clause-placed c =
    let rects = path_rects c.args.form.now c.args.points.now in
    let right : rects_fault c.args.side.now.length c.args.offset rects ≡ None =
    ap (rects_fault c.args.side.now.length c.args.offset) (sym (c.deref.ensures.value ∙ c.in_ok-rects.ensures)) ∙ sym c.rects_fault.ensures ∙ c.in-None.is in
    subst (λ (rs : List Rect). AreRectangles rs)
    (sym (c.from_vec.ensures.list ∙ c.in_ok-pixel_rects-in-None.ensures ∙ ap (map (pixels_in c.args.side.now.length)) (c.deref-in-None.ensures.value ∙ c.in_ok-rects.ensures)))
    (placed_rects c.args.side.now.length c.args.offset c.args.form.now c.args.points.now c.args.side.now.positive right)

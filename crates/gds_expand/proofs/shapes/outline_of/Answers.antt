use Rattle.std.proofs.Common.{ap, sym, ◌∙◌}
use Rattle.gds_model.specs.Outlines.{placed_points}
use Rattle.gds_expand.specs.Placement.{placed}
use Rattle.gds_expand.proofs.OutlineLemmas.{if_ok, if_err, path_fault_of, path_outline_of, polygon_fault_of, wrong_as}
use Rattle.gds_expand.proofs.shapes.outline_of.Goals as goal

pub returns-in-None-clause-wrong : goal.returns-in-None-clause-wrong
returns-in-None-clause-wrong c =
    let shape = c.args.placed.now.shape.now in
    let same = polygon_fault_of c.args.pick.now.grid shape.offset shape.kind c.side_of.result.length _ _ (sym c.form_in.ensures ∙ c.in-None.is) c.side_of.ensures
    (c.deref.ensures.value ∙ c.in_ok-points.ensures.value ∙ ap (placed_points (placed c.args.placed.now.placement)) c.as_slice.ensures.list) in
    if_err _ _ (λ f h. wrong_as f _ _ same h) c.polygon.result c.polygon.ensures.wrong

pub returns-clause-right : goal.returns-clause-right
returns-clause-right c =
    let shape = c.args.placed.now.shape.now in
    let same = path_fault_of c.args.pick.now.grid shape.offset shape.kind c.in-Some.form _ _ (sym c.form_in.ensures ∙ c.in-Some.is) (c.deref-in-Some.ensures.value ∙ c.in_ok-points.ensures.value ∙ ap (placed_points (placed c.args.placed.now.placement)) c.as_slice.ensures.list) in
    if_ok _ _ (λ o e. same ∙ e) c.path.result c.path.ensures.right

pub returns-clause-outline : goal.returns-clause-outline
returns-clause-outline c =
    let shape = c.args.placed.now.shape.now in
    let same = path_outline_of c.args.pick.now.grid shape.kind c.in-Some.form _ _ (sym c.form_in.ensures ∙ c.in-Some.is) (c.deref-in-Some.ensures.value ∙ c.in_ok-points.ensures.value ∙ ap (placed_points (placed c.args.placed.now.placement)) c.as_slice.ensures.list) in
    if_ok _ _ (λ o e. e ∙ sym same) c.path.result c.path.ensures.outline

pub returns-clause-wrong : goal.returns-clause-wrong
returns-clause-wrong c =
    let shape = c.args.placed.now.shape.now in
    let same = path_fault_of c.args.pick.now.grid shape.offset shape.kind c.in-Some.form _ _ (sym c.form_in.ensures ∙ c.in-Some.is) (c.deref-in-Some.ensures.value ∙ c.in_ok-points.ensures.value ∙ ap (placed_points (placed c.args.placed.now.placement)) c.as_slice.ensures.list) in
    if_err _ _ (λ f h. wrong_as f _ _ same h) c.path.result c.path.ensures.wrong

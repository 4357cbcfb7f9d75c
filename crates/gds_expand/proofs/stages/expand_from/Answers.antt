use Rattle.std.proofs.Common.{◌≡◌, ℕ, ◌<◌, ◌≤◌, All, length, map, subst, ap, sym, ◌∙◌, arith}
use Rattle.gds_model.specs.PlacedList.{is_on}
use Rattle.gds_model.specs.PlaceFaults.{point_count}
use Rattle.gds_expand.specs.Points.{Plan, points_in, targets_of}
use Rattle.gds_expand.specs.Steps.{mapped}
use Rattle.gds_model.proofs.Chains.{number_below}
use Rattle.gds_expand.proofs.GraphLemmas.{closed_graph, order_of_plan}
use Rattle.gds_expand.proofs.StageLemmas.{cycle_stage, judged, made_graph, no_stage, plan_sized, point_stage, points_are_placed, shape_stage}
use Rattle.std.proofs.lemmas.Result.{err_from_is_err_and}
use Rattle.gds_expand.proofs.stages.expand_from.Goals as goal

pub judge_references-requires-clause-graph : goal.judge_references-requires-clause-graph
judge_references-requires-clause-graph c =
    made_graph c.args.library.now.structures (is_on c.args.pick.now.layer c.args.pick.now.datatype) c.in_ok-parts.parts.items c.deref.result.now c.in_ok-graph.graph.items c.deref-2.result.now
    c.in_ok-parts.ensures.parts c.deref.ensures.value c.in_ok-graph.ensures c.deref-2.ensures.value

pub order_from-requires-clause-closed : goal.order_from-requires-clause-closed
order_from-requires-clause-closed c =
    closed_graph c.args.library.now.structures c.deref-3.result.now
    (made_graph c.args.library.now.structures (is_on c.args.pick.now.layer c.args.pick.now.datatype) c.in_ok-parts.parts.items c.deref.result.now c.in_ok-graph.graph.items c.deref-3.result.now
    c.in_ok-parts.ensures.parts c.deref.ensures.value c.in_ok-graph.ensures c.deref-3.ensures.value)

pub order_from-requires-clause-few : goal.order_from-requires-clause-few
order_from-requires-clause-few c =
    let g = made_graph c.args.library.now.structures (is_on c.args.pick.now.layer c.args.pick.now.datatype) c.in_ok-parts.parts.items c.deref.result.now c.in_ok-graph.graph.items c.deref-3.result.now
    c.in_ok-parts.ensures.parts c.deref.ensures.value c.in_ok-graph.ensures c.deref-3.ensures.value in
    let sized = plan_sized c.args.library.now.structures (is_on c.args.pick.now.layer c.args.pick.now.datatype) c.in_ok-parts.parts.items c.in_ok-parts.ensures.parts in
    omega (arith, g.sized, sized, c.in_ok-parts.ensures.few)

pub returns-in_err-order-clause-fault : goal.returns-in_err-order-clause-fault
returns-in_err-order-clause-fault c =
    let p = err_from_is_err_and c.from_residual-in_err-order.result c.from_residual-in_err-order.ensures.1 in
    let g = made_graph c.args.library.now.structures (is_on c.args.pick.now.layer c.args.pick.now.datatype) c.in_ok-parts.parts.items c.deref.result.now c.in_ok-graph.graph.items c.deref-3.result.now
    c.in_ok-parts.ensures.parts c.deref.ensures.value c.in_ok-graph.ensures c.deref-3.ensures.value in
    rw (p.1, p.2) (cycle_stage c.args.library.now.structures c.args.pick.now c.deref-3.result.now c.args.top _ g c.in_ok-judge_references.ensures.right c.in_err-order.ensures.cycle)

pub judge_points-requires-clause-order : goal.judge_points-requires-clause-order
judge_points-requires-clause-order c =
    rw (c.deref-5.ensures.value, c.deref-4.ensures.value)
    (order_of_plan c.in_ok-parts.parts.items c.deref-3.result.now c.in_ok-order.order.items
    (ap (map (λ row. row.items)) c.deref-3.ensures.value ∙ c.in_ok-graph.ensures ∙ ap (map (λ row. targets_of row.items)) c.deref.ensures.value)
    c.in_ok-order.ensures.order.up)

pub judge_points-requires-clause-in_range : goal.judge_points-requires-clause-in_range
judge_points-requires-clause-in_range c =
    let library = c.args.library.now.structures in
    let chosen = is_on c.args.pick.now.layer c.args.pick.now.datatype in
    let g = made_graph library chosen c.in_ok-parts.parts.items c.deref.result.now c.in_ok-graph.graph.items c.deref-3.result.now
    c.in_ok-parts.ensures.parts c.deref.ensures.value c.in_ok-graph.ensures c.deref-3.ensures.value in
    let j = judged library c.deref-3.result.now c.args.top c.in_ok-order.order.items c.deref-5.result.now g (number_below library c.args.pick.now.top c.args.top c.requires.top)
    c.in_ok-judge_references.ensures.right c.in_ok-order.ensures.order c.deref-5.ensures.value in
    let sized : length c.deref-4.result.now ≡ length library = ap length c.deref-4.ensures.value ∙ plan_sized library chosen c.in_ok-parts.parts.items c.in_ok-parts.ensures.parts in
    subst (λ (n : ℕ). All (λ s. s < n) c.deref-5.result.now) (sym sized) j.ordered.in_range

pub judge_points-requires-clause-top : goal.judge_points-requires-clause-top
judge_points-requires-clause-top c =
    let library = c.args.library.now.structures in
    let chosen = is_on c.args.pick.now.layer c.args.pick.now.datatype in
    let g = made_graph library chosen c.in_ok-parts.parts.items c.deref.result.now c.in_ok-graph.graph.items c.deref-3.result.now
    c.in_ok-parts.ensures.parts c.deref.ensures.value c.in_ok-graph.ensures c.deref-3.ensures.value in
    let j = judged library c.deref-3.result.now c.args.top c.in_ok-order.order.items c.deref-5.result.now g (number_below library c.args.pick.now.top c.args.top c.requires.top)
    c.in_ok-judge_references.ensures.right c.in_ok-order.ensures.order c.deref-5.ensures.value in
    j.listed

pub returns-in_err-judge_points-clause-fault : goal.returns-in_err-judge_points-clause-fault
returns-in_err-judge_points-clause-fault c =
    let p = err_from_is_err_and c.from_residual-in_err-judge_points.result c.from_residual-in_err-judge_points.ensures.1 in
    let library = c.args.library.now.structures in
    let chosen = is_on c.args.pick.now.layer c.args.pick.now.datatype in
    let g = made_graph library chosen c.in_ok-parts.parts.items c.deref.result.now c.in_ok-graph.graph.items c.deref-3.result.now
    c.in_ok-parts.ensures.parts c.deref.ensures.value c.in_ok-graph.ensures c.deref-3.ensures.value in
    let j = judged library c.deref-3.result.now c.args.top c.in_ok-order.order.items c.deref-5.result.now g (number_below library c.args.pick.now.top c.args.top c.requires.top)
    c.in_ok-judge_references.ensures.right c.in_ok-order.ensures.order c.deref-5.ensures.value in
    let count = ap (λ (plan : Plan). points_in plan (length plan) c.args.top) c.deref-4.ensures.value ∙ points_are_placed library chosen c.in_ok-parts.parts.items c.args.top c.in_ok-parts.ensures.parts in
    rw (p.1, p.2) (point_stage library c.args.pick.now c.args.top _ _ c.in_ok-judge_references.ensures.right j.no_cycle count c.in_err-judge_points.ensures.many)

pub chosen_shapes-requires-clause-order : goal.chosen_shapes-requires-clause-order
chosen_shapes-requires-clause-order c =
    let library = c.args.library.now.structures in
    let chosen = is_on c.args.pick.now.layer c.args.pick.now.datatype in
    let g = made_graph library chosen c.in_ok-parts.parts.items c.deref.result.now c.in_ok-graph.graph.items c.deref-3.result.now
    c.in_ok-parts.ensures.parts c.deref.ensures.value c.in_ok-graph.ensures c.deref-3.ensures.value in
    let j = judged library c.deref-3.result.now c.args.top c.in_ok-order.order.items c.deref-6.result.now g (number_below library c.args.pick.now.top c.args.top c.requires.top)
    c.in_ok-judge_references.ensures.right c.in_ok-order.ensures.order c.deref-6.ensures.value in
    j.ordered

pub chosen_shapes-requires-clause-top : goal.chosen_shapes-requires-clause-top
chosen_shapes-requires-clause-top c =
    let library = c.args.library.now.structures in
    let chosen = is_on c.args.pick.now.layer c.args.pick.now.datatype in
    let g = made_graph library chosen c.in_ok-parts.parts.items c.deref.result.now c.in_ok-graph.graph.items c.deref-3.result.now
    c.in_ok-parts.ensures.parts c.deref.ensures.value c.in_ok-graph.ensures c.deref-3.ensures.value in
    let j = judged library c.deref-3.result.now c.args.top c.in_ok-order.order.items c.deref-6.result.now g (number_below library c.args.pick.now.top c.args.top c.requires.top)
    c.in_ok-judge_references.ensures.right c.in_ok-order.ensures.order c.deref-6.ensures.value in
    j.listed

pub chosen_shapes-requires-clause-right : goal.chosen_shapes-requires-clause-right
chosen_shapes-requires-clause-right c =
    let library = c.args.library.now.structures in
    let chosen = is_on c.args.pick.now.layer c.args.pick.now.datatype in
    let g = made_graph library chosen c.in_ok-parts.parts.items c.deref.result.now c.in_ok-graph.graph.items c.deref-3.result.now
    c.in_ok-parts.ensures.parts c.deref.ensures.value c.in_ok-graph.ensures c.deref-3.ensures.value in
    let j = judged library c.deref-3.result.now c.args.top c.in_ok-order.order.items c.deref-6.result.now g (number_below library c.args.pick.now.top c.args.top c.requires.top)
    c.in_ok-judge_references.ensures.right c.in_ok-order.ensures.order c.deref-6.ensures.value in
    j.right

pub returns-in_err-outlines-clause-fault : goal.returns-in_err-outlines-clause-fault
returns-in_err-outlines-clause-fault c =
    let p = err_from_is_err_and c.from_residual-in_err-outlines.result c.from_residual-in_err-outlines.ensures.1 in
    let library = c.args.library.now.structures in
    let chosen = is_on c.args.pick.now.layer c.args.pick.now.datatype in
    let g = made_graph library chosen c.in_ok-parts.parts.items c.deref.result.now c.in_ok-graph.graph.items c.deref-3.result.now
    c.in_ok-parts.ensures.parts c.deref.ensures.value c.in_ok-graph.ensures c.deref-3.ensures.value in
    let j = judged library c.deref-3.result.now c.args.top c.in_ok-order.order.items c.deref-5.result.now g (number_below library c.args.pick.now.top c.args.top c.requires.top)
    c.in_ok-judge_references.ensures.right c.in_ok-order.ensures.order c.deref-5.ensures.value in
    let count = ap (λ (plan : Plan). points_in plan (length plan) c.args.top) c.deref-4.ensures.value ∙ points_are_placed library chosen c.in_ok-parts.parts.items c.args.top c.in_ok-parts.ensures.parts in
    let few : point_count library c.args.pick.now c.args.top ≤ 1048576 = omega (arith, count, c.in_ok-judge_points.ensures.few) in
    let seen = ap (map mapped) c.deref-7.ensures.value ∙ c.in_ok-shapes.ensures.chosen in
    rw (p.1, p.2) (shape_stage library c.args.pick.now c.args.top _ _ c.in_ok-judge_references.ensures.right j.no_cycle few seen c.in_err-outlines.ensures.wrong)

pub returns-clause-placement : goal.returns-clause-placement
returns-clause-placement c =
    let library = c.args.library.now.structures in
    let chosen = is_on c.args.pick.now.layer c.args.pick.now.datatype in
    let g = made_graph library chosen c.in_ok-parts.parts.items c.deref.result.now c.in_ok-graph.graph.items c.deref-3.result.now
    c.in_ok-parts.ensures.parts c.deref.ensures.value c.in_ok-graph.ensures c.deref-3.ensures.value in
    let j = judged library c.deref-3.result.now c.args.top c.in_ok-order.order.items c.deref-5.result.now g (number_below library c.args.pick.now.top c.args.top c.requires.top)
    c.in_ok-judge_references.ensures.right c.in_ok-order.ensures.order c.deref-5.ensures.value in
    let count = ap (λ (plan : Plan). points_in plan (length plan) c.args.top) c.deref-4.ensures.value ∙ points_are_placed library chosen c.in_ok-parts.parts.items c.args.top c.in_ok-parts.ensures.parts in
    let few : point_count library c.args.pick.now c.args.top ≤ 1048576 = omega (arith, count, c.in_ok-judge_points.ensures.few) in
    let seen = ap (map mapped) c.deref-7.ensures.value ∙ c.in_ok-shapes.ensures.chosen in
    no_stage library c.args.pick.now c.args.top _ _ c.requires.top c.in_ok-judge_references.ensures.right j.no_cycle few seen
    c.in_ok-outlines.ensures.right (c.from_outlines.ensures.list ∙ c.in_ok-outlines.ensures.outlines)

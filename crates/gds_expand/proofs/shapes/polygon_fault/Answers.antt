use Rattle.std.proofs.Common.{true, false, sym, refl, ◌∙◌}
use Rattle.gds_expand.proofs.OutlineLemmas.{polygon_fault_is}
use Rattle.gds_expand.proofs.shapes.polygon_fault.Goals as goal

pub returns-then-is_some_point_off : goal.returns-then-is_some_point_off
returns-then-is_some_point_off c =
    sym (polygon_fault_is c.args.side.now.length c.args.offset c.args.points.now true true true _
    (sym c.is_closed.ensures ∙ c.if-not-is_closed.false) (sym c.is_rectilinear.ensures ∙ c.if-not-is_rectilinear.false)
    (sym c.is_some_point_off.ensures ∙ c.if-is_some_point_off.true) refl)

pub returns-then-is_some_point_far : goal.returns-then-is_some_point_far
returns-then-is_some_point_far c =
    sym (polygon_fault_is c.args.side.now.length c.args.offset c.args.points.now true true false true
    (sym c.is_closed.ensures ∙ c.if-not-is_closed.false) (sym c.is_rectilinear.ensures ∙ c.if-not-is_rectilinear.false)
    (sym c.is_some_point_off.ensures ∙ c.if-is_some_point_off.false) (sym c.is_some_point_far.ensures ∙ c.if-is_some_point_far.true))

pub returns-else-is_some_point_far : goal.returns-else-is_some_point_far
returns-else-is_some_point_far c =
    sym (polygon_fault_is c.args.side.now.length c.args.offset c.args.points.now true true false false
    (sym c.is_closed.ensures ∙ c.if-not-is_closed.false) (sym c.is_rectilinear.ensures ∙ c.if-not-is_rectilinear.false)
    (sym c.is_some_point_off.ensures ∙ c.if-is_some_point_off.false) (sym c.is_some_point_far.ensures ∙ c.if-is_some_point_far.false))

use Rattle.std.proofs.Common.{true, false, sym, refl, ◌∙◌}
use Rattle.gds_expand.proofs.OutlineLemmas.{rects_fault_is}
use Rattle.gds_expand.proofs.shapes.rects_fault.Goals as goal

pub returns-then-is_some_rect_off : goal.returns-then-is_some_rect_off
returns-then-is_some_rect_off c =
    sym (rects_fault_is c.args.side.now.length c.args.offset c.args.rects.now true _ (sym c.is_some_rect_off.ensures ∙ c.if-is_some_rect_off.true) refl)

pub returns-then-is_some_rect_far : goal.returns-then-is_some_rect_far
returns-then-is_some_rect_far c =
    sym (rects_fault_is c.args.side.now.length c.args.offset c.args.rects.now false true
    (sym c.is_some_rect_off.ensures ∙ c.if-is_some_rect_off.false) (sym c.is_some_rect_far.ensures ∙ c.if-is_some_rect_far.true))

pub returns-else-is_some_rect_far : goal.returns-else-is_some_rect_far
returns-else-is_some_rect_far c =
    sym (rects_fault_is c.args.side.now.length c.args.offset c.args.rects.now false false
    (sym c.is_some_rect_off.ensures ∙ c.if-is_some_rect_off.false) (sym c.is_some_rect_far.ensures ∙ c.if-is_some_rect_far.false))

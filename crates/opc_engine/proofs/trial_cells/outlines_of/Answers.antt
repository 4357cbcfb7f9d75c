use Rattle.std.proofs.Common.{pos, map, ap, ◌∙◌}
use Rattle.std.proofs.lemmas.List.{take_all}
use Rattle.opc_base.specs.declared.plane.Rect.{Rect}
use Rattle.gds_writer.specs.MaskFile.{around}
use Rattle.opc_engine.proofs.TrialInputLaws.{outlines-next}
use Rattle.opc_engine.proofs.trial_cells.outlines_of.Goals as goal

pub loop-rect-preserved : goal.loop-rect-preserved
loop-rect-preserved c =
    let none : Rect = record { x0 = pos 0; y0 = pos 0; x1 = pos 0; y1 = pos 0 } in
    outlines-next c.args.rects.now c.loop-rect.rect-index none c.loop-rect.outlines.items c.push.new.self.items c.from_vec.result c.loop-rect-test.true c.loop-rect.invariant
    (c.from_vec.ensures.list ∙ c.in_ok-around.ensures) c.in_ok-push.ensures.items

pub returns : goal.returns
returns c = c.loop-rect.invariant ∙ ap (map around) (take_all c.loop-rect.rect-index c.args.rects.now c.loop-rect-test.false)

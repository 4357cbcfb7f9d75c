use Rattle.std.proofs.Common.{All, map, sym, subst, ap, ◌∙◌}
use Rattle.gds_writer.specs.MaskFile.{around}
use Rattle.gds_writer.specs.Outlines.{IsOutline}
use Rattle.gds_writer.proofs.Said.{all-around}
use Rattle.opc_engine.proofs.TrialInputLaws.{layout-written}
use Rattle.opc_engine.proofs.trial_cells.trial_layout.Goals as goal

pub write_outlines-requires-clause-outlines : goal.write_outlines-requires-clause-outlines
write_outlines-requires-clause-outlines c =
    subst (All IsOutline) (sym (c.deref-2.ensures.value ∙ c.in_ok-outlines.ensures ∙ ap (map around) c.deref.ensures.value))
    (all-around c.in_ok-rects.rects.items c.in_ok-rects.ensures.within)

pub returns : goal.returns
returns c =
    layout-written c.write_outlines.result c.args.count c.in_ok-out.out c.in_ok-head.head c.deref-2.result.now c.in_ok-out.ensures.layer c.in_ok-out.ensures.datatype c.in_ok-out.ensures.name c.in_ok-head.ensures
    (c.deref-2.ensures.value ∙ c.in_ok-outlines.ensures ∙ ap (map around) (c.deref.ensures.value ∙ c.in_ok-rects.ensures.rects)) c.write_outlines.ensures.file

use Rattle.std.proofs.Common.{ap, ◌∙◌, w16, to_z, of_z}
use Rattle.opc_engine.specs.TrialInput.{entry_bytes, place}
use Rattle.opc_engine.specs.TrialShapes.{entry_of}
use Rattle.opc_engine.proofs.TextLaws.{texts_after}
use Rattle.opc_engine.proofs.TrialInputLaws.{near}
use Rattle.opc_engine.proofs.trial_shapes.put_row.Goals as goal

pub loop-column-preserved : goal.loop-column-preserved
loop-column-preserved c =
    texts_after (λ u. entry_bytes (entry_of c.args.shape (place u) (to_z w16 (of_z w16 c.args.v)))) c.loop-column.column c.args.file.now c.loop-column.file c.append.new.self c.bytes_of.result
    c.loop-column.invariant c.in_ok-append.ensures.appended
    (c.bytes_of.ensures ∙ ap entry_bytes (c.entry.ensures ∙ ap (λ u. entry_of c.args.shape u (to_z w16 (of_z w16 c.args.v))) (near c.place.result c.place.ensures.range ∙ c.place.ensures.is)))

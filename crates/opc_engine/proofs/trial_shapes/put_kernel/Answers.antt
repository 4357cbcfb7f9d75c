use Rattle.std.proofs.Common.{◌≡◌, ◌++◌, ap, ◌∙◌, append_assoc, arith, w16}
use Rattle.std.specs.Int.{to_be_bytes}
use Rattle.opc_engine.specs.ErrorTable.{texts_of}
use Rattle.opc_engine.specs.TrialInput.{entry_bytes, place}
use Rattle.opc_engine.specs.TrialShapes.{entry_of}
use Rattle.opc_engine.proofs.TextLaws.{texts_after}
use Rattle.opc_engine.proofs.TrialInputLaws.{near}
use Rattle.opc_engine.proofs.trial_shapes.put_kernel.Goals as goal

pub loop-row-preserved : goal.loop-row-preserved
loop-row-preserved c =
    texts_after (λ v. texts_of (λ u. entry_bytes (entry_of c.args.shape (place u) (place v))) 17) c.loop-row.row (c.args.file.now ++ to_be_bytes w16 c.args.weight) c.loop-row.file
    c.put_row.new.file _ c.loop-row.invariant c.in_ok-put_row.ensures
    (ap (λ v. texts_of (λ u. entry_bytes (entry_of c.args.shape (place u) v)) 17) (near c.place.result c.place.ensures.range ∙ c.place.ensures.is))

pub returns : goal.returns
returns c =
    let all : c.loop-row.row ≡ 17 = omega (arith, c.loop-row-test.false, c.loop-row.auto.row-end) in
    c.loop-row.invariant
    ∙ ap (λ n. (c.args.file.now ++ to_be_bytes w16 c.args.weight) ++ texts_of (λ v. texts_of (λ u. entry_bytes (entry_of c.args.shape (place u) (place v))) 17) n)
    all
    ∙ append_assoc c.args.file.now (to_be_bytes w16 c.args.weight) (texts_of (λ v. texts_of (λ u. entry_bytes (entry_of c.args.shape (place u) (place v))) 17) 17)

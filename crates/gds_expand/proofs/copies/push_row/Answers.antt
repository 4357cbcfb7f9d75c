use Rattle.std.proofs.Common.{◌∙◌, ◌^◌}
use Rattle.gds_model.specs.PlacedList.{copy_map}
use Rattle.gds_expand.specs.Placement.{placed}
use Rattle.gds_expand.proofs.AddLemmas.{adds_column}
use Rattle.gds_expand.proofs.copies.push_row.Goals as goal

pub loop-column-preserved : goal.loop-column-preserved
loop-column-preserved c =
    rw c.in_ok-push.ensures.items
    (adds_column (λ column. copy_map c.args.reference.now c.args.row column) c.loop-column.column c.args.base.now c.args.steps.now.items c.loop-column.steps.items c.after-placement.result
    (λ p. c.after-placement.ensures.value p ∙ c.copy_placement.ensures.value (placed c.args.base.now.placement p))
    (λ n within. c.after-placement.ensures.bound (2 ^ 34) n c.copy_placement.ensures.near within)
    c.loop-column.invariant)

use Rattle.std.proofs.Common.{◌∙◌, ap}
use Rattle.gds_model.specs.PlacedList.{is_on}
use Rattle.gds_expand.specs.Parts.{parts_in}
use Rattle.gds_expand.proofs.RowLemmas.{mapped_next}
use Rattle.gds_expand.proofs.parts.part_plan.Goals as goal

pub loop-i-preserved : goal.loop-i-preserved
loop-i-preserved c =
    let library = c.args.library.now.structures in
    let chosen = is_on c.args.pick.now.layer c.args.pick.now.datatype in
    rw c.in_ok-push.ensures.items
    (mapped_next (λ row. row.items) (λ s. parts_in library chosen s.elements) c.loop-i.plan.items c.in_ok-row.row library c.loop-i.i c.structure-structure.result.now
    c.loop-i.invariant c.structure-structure.ensures.structure (c.in_ok-row.ensures ∙ ap (parts_in library chosen) c.as_slice.ensures.list))

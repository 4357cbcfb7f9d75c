use Rattle.gds_model.specs.PlacedList.{is_on}
use Rattle.gds_expand.proofs.RowMeanings.{row_more}
use Rattle.gds_expand.proofs.rows.row_of.Goals as goal

pub loop-element-preserved : goal.loop-element-preserved
loop-element-preserved c =
    row_more c.args.library.now.structures (is_on c.args.pick.now.layer c.args.pick.now.datatype) c.args.plan.now c.args.elements.now c.loop-element.element-index c.element-item.result
    c.loop-element.row.items c.push_element.new.steps.items c.loop-element-test.true c.element-item.is c.loop-element.invariant c.in_ok-push_element.ensures

use Rattle.gds_model.specs.PlacedList.{is_on}
use Rattle.gds_expand.proofs.StepLemmas.{IsMade}
use Rattle.gds_expand.proofs.plans.step_plan.Given as goal

abbrev pub invariant-loop-number : goal.invariant-loop-number
invariant-loop-number l = IsMade l.library.structures (is_on l.pick.layer l.pick.datatype) l.order l.number-index l.plan.items

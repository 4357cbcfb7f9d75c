use Rattle.std.proofs.Common.{◌≡◌, [], subst, sym, arith}
use Rattle.gds_expand.specs.Steps.{Plan, steps_of}
use Rattle.gds_expand.proofs.StepLemmas.{empty_more}
use Rattle.gds_expand.proofs.plans.empty_plan.Goals as goal

pub loop-preserved : goal.loop-preserved
loop-preserved c = record {
  sized = omega (arith, c.in_ok-push.ensures.len, c.loop.invariant.sized);
  empty = λ s.
      subst (λ (rows : Plan). steps_of rows s ≡ []) (sym c.in_ok-push.ensures.items)
      (empty_more c.loop.plan.items c.new.result c.new.ensures.items c.loop.invariant.empty s);
}

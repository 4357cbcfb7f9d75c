use Rattle.std.proofs.Common.{◌≡◌, ℕ, [], vec_len}
use Rattle.gds_expand.specs.Steps.{steps_of}
use Rattle.gds_expand.proofs.plans.empty_plan.Given as goal

abbrev pub invariant-loop : goal.invariant-loop
invariant-loop l = record {
  sized : vec_len l.plan ≡ l.counter;
  empty : (s : ℕ) → steps_of l.plan.items s ≡ [];
}

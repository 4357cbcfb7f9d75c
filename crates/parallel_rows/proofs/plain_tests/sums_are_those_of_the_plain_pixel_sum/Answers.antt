use Rattle.std.proofs.Common.{[], ◌∷◌}
use Rattle.std.proofs.lemmas.List.Elements.{All-cons, All-nil}
use Rattle.opc_parallel.specs.Conditions.{IsSweepable}
use Rattle.parallel_rows.proofs.plain_tests.sums_are_those_of_the_plain_pixel_sum.Goals as goal

pub sums_of-requires-clause-swept : goal.sums_of-requires-clause-swept
sums_of-requires-clause-swept g c κs =
    All-cons IsSweepable c.swept.result (c.swept-2.result ∷ c.swept-3.result ∷ []) c.swept.ensures
    (All-cons IsSweepable c.swept-2.result (c.swept-3.result ∷ []) c.swept-2.ensures
    (All-cons IsSweepable c.swept-3.result [] c.swept-3.ensures (All-nil IsSweepable)))

use Rattle.std.proofs.Common.{[], ◌∷◌, ap}
use Rattle.gds_expand.proofs.BaseLemmas.{base_through}
use Rattle.gds_expand.specs.declared.walk.Step.{Step}
use Rattle.gds_expand.proofs.bases.base_of_step.Goals as goal

pub returns-in-Copy : goal.returns-in-Copy
returns-in-Copy c = base_through (c.args.step ∷ []) c.args.target c.in-Copy.through c.in-Copy.placement (ap (λ (x : Step). x ∷ []) c.in-Copy.is)

pub returns-in-Shape : goal.returns-in-Shape
returns-in-Shape c = c.own_base.ensures (c.args.step ∷ [])

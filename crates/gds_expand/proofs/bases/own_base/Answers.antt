use Rattle.std.proofs.Common.{refl}
use Rattle.gds_expand.proofs.BaseLemmas.{base_itself}
use Rattle.gds_expand.proofs.bases.own_base.Goals as goal

pub returns : goal.returns
returns c = λ row. base_itself row c.args.target _ (refl, refl, refl, refl)

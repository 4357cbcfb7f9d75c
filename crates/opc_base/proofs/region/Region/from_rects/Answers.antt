-- The canonical list of any set may be given.
use Rattle.opc_base.proofs.CanonicalConverse.{canonical_for_any}
use Rattle.opc_base.proofs.region.Region.from_rects.Goals as goal

pub returns-clause-any_set : goal.returns-clause-any_set
returns-clause-any_set c inside others canonical = canonical_for_any inside others canonical

-- The list is canonical, so it is the one list of the pixels that it covers.
use Rattle.std.proofs.Common.{subst}
use Rattle.opc_base.specs.Plane.{cover}
use Rattle.opc_base.specs.Canonical.{AreCanonical}
use Rattle.opc_base.proofs.CanonicalLaws.{canonical_for_cover}
use Rattle.opc_base.proofs.CanonicalIsUnique.{canonical_is_unique}
use Rattle.opc_base.proofs.region.Region.rects.Goals as goal

pub returns-clause-stacks : goal.returns-clause-stacks
returns-clause-stacks c = canonical_for_cover c.args.self.now (subst AreCanonical c.self.view_is c.self.invariant)

pub returns-clause-one : goal.returns-clause-one
returns-clause-one c others canonical =
    canonical_is_unique (cover c.args.self.now) others c.args.self.now canonical
    (canonical_for_cover c.args.self.now (subst AreCanonical c.self.view_is c.self.invariant))

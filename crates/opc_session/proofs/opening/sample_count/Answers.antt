use Rattle.std.proofs.Common.{◌*◌, length, unsigned_abs, ap}
use Rattle.opc_session.specs.Kept.{Parts}
use Rattle.opc_session.proofs.HoldLaws.{stored_samples}
use Rattle.opc_session.proofs.opening.sample_count.Goals as goal

pub returns : goal.returns
returns c =
    let range = c.scene.inside.rules.now.site.samples_in_range in
    rw (stored_samples c.scene.inside.rules.now.site.samples range.0 range.1, c.count.ensures.count)
    (ap (λ (p : Parts). 2 * unsigned_abs p.rules.site.samples * length p.fragments) c.scene.view_is)

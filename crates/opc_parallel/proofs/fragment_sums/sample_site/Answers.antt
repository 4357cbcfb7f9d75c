use Rattle.std.proofs.Common.{ap, ◌∙◌}
use Rattle.outline_model.specs.Outline.{fragment_at, site_of}
use Rattle.opc_parallel.proofs.StoredLaws.{sample-number}
use Rattle.opc_parallel.proofs.fragment_sums.sample_site.Goals as goal

pub returns-clause-site : goal.returns-clause-site
returns-clause-site c =
    c.site.ensures.site ∙ ap (site_of (fragment_at c.args.work.now.fragments.now c.args.number)) (sample-number c.args.sample c.args.work.now.samples c.requires.ready.samples_few c.requires.sample)

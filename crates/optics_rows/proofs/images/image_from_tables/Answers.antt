use Rattle.std.proofs.Common.{◌∙◌, sym, subst}
use Rattle.lane_intensity.specs.Differences.{IsLight}
use Rattle.lane_intensity.proofs.WeightLaws.{weights_of-light}
use Rattle.optics_rows.proofs.images.image_from_tables.Goals as goal

pub intensity-requires-clause-weights : goal.intensity-requires-clause-weights
intensity-requires-clause-weights c =
    subst IsLight (sym (c.deref-2.ensures.value ∙ c.in_ok-weights_of.ensures)) (weights_of-light c.args.set.now c.requires.bounds)

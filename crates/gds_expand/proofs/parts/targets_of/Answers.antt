use Rattle.gds_expand.proofs.RowLemmas.{targets_next}
use Rattle.gds_expand.specs.declared.points.Part.TheVariants.{Points}
use Rattle.gds_expand.proofs.parts.targets_of.Goals as goal

pub loop-part-preserved : goal.loop-part-preserved
loop-part-preserved c =
    targets_next c.args.parts.now c.loop-part.part-index (Points 0) c.loop-part.targets.items _ c.loop-part-test.true c.loop-part.invariant c.in_ok-push_target.ensures

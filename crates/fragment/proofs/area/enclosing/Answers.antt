use Rattle.fragment.proofs.AreaLaws.{round_more}
use Rattle.fragment.proofs.area.enclosing.Goals as goal

pub loop-k-preserved : goal.loop-k-preserved
loop-k-preserved c =
    round_more c.args.areas.now c.loop-k.area c.around-area.result c.args.first c.loop-k.k c.loop-k.invariant c.around-area.ensures.first c.around-area.ensures.second

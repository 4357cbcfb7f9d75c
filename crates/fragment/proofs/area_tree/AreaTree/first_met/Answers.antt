use Rattle.std.proofs.Common.{arith}
use Rattle.fragment.proofs.AreaLaws.{none_more}
use Rattle.fragment.proofs.area_tree.AreaTree.first_met.Goals as goal

pub loop-k-init : goal.loop-k-init
loop-k-init c = (omega arith, omega arith, λ j low high within. absurd (omega arith))

pub loop-k-preserved : goal.loop-k-preserved
loop-k-preserved c = (
  omega arith,
  omega arith,
  none_more c.args.self.now c.args.rect.now c.args.from c.loop-k.k c.missed_from-missed.result c.loop-k.invariant.2 c.missed_from-missed.ensures.missed,
)

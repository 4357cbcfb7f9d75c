use Rattle.std.proofs.Common.{⊎_elim, arith}
use Rattle.std.proofs.lemmas.Bool.{cases_lt}
use Rattle.tiles.proofs.index.TileIndex.first_met.Goals as goal

pub loop-at-preserved : goal.loop-at-preserved
loop-at-preserved c = (
  omega (arith, c.loop-at.invariant.0, c.missed_upto-next.ensures.from),
  λ k from below. ⊎_elim
      (λ before. c.loop-at.invariant.1 k from before)
      (λ later. c.missed_upto-next.ensures.missed k later below)
      (cases_lt k c.loop-at.at),
)

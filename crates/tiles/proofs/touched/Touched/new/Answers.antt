use Rattle.tiles.proofs.TouchedLaws.{touched_between-all}
use Rattle.tiles.proofs.touched.Touched.new.Goals as goal

pub returns : goal.returns
returns c = rw c.count.ensures.count (touched_between-all c.args.index.now c.args.rect)

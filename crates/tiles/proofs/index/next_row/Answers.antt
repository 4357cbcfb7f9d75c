use Rattle.std.proofs.Common.{arith}
use Rattle.std.proofs.lemmas.Int.{ints, clamps}
use Rattle.tiles.proofs.index.next_row.Goals as goal
use Rattle.tiles.proofs.index.next_row.Goals.{then-from-right, else-from-right}

pub returns-clause-between : goal.returns-clause-between
returns-clause-between c b least up less = elim c.if-from-right.branch [
  | then-from-right w ↦ absurd (grind (arith, ints, clamps, c.from-row.ensures, w.row-is, c.max.ensures.value))
  | else-from-right w ↦ (grind (arith, ints, clamps, c.from-row.ensures, w.row-is, c.max.ensures.value), grind (arith, ints, clamps, w.if-from-right.false))
]

use Rattle.std.proofs.Common.{arith}
use Rattle.mask_rules.proofs.line_sets.line_rects.Goals as goal

pub returns-clause-within : goal.returns-clause-within
returns-clause-within c = c.in_ok-lines.ensures.within 1048576 (omega arith) (rw c.deref.ensures.value c.in_ok-corners.ensures.set.within)

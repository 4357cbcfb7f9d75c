-- Each side is the lesser or the greater of two.
use Rattle.std.proofs.Common.{arith}
use Rattle.std.proofs.lemmas.Int.{ints, clamps}
use Rattle.mask_rules.proofs.search.around.Goals as goal

pub returns-clause-first : goal.returns-clause-first
returns-clause-first c = record {
  left = omega (arith, ints, clamps);
  below = omega (arith, ints, clamps);
  right = omega (arith, ints, clamps);
  above = omega (arith, ints, clamps);
}

pub returns-clause-second : goal.returns-clause-second
returns-clause-second c = record {
  left = omega (arith, ints, clamps);
  below = omega (arith, ints, clamps);
  right = omega (arith, ints, clamps);
  above = omega (arith, ints, clamps);
}

use Rattle.std.proofs.Common.{take}
use Rattle.rect_union.specs.Target.{AreQuadrantsOf}
use Rattle.rect_union.proofs.outlines.quadrants_of.Given as goal

abbrev pub invariant-loop-owner : goal.invariant-loop-owner
invariant-loop-owner l = AreQuadrantsOf (take l.owner l.outlines) l.quadrants.items

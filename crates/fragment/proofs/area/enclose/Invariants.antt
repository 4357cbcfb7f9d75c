-- The blocks so far have an area round each.
use Rattle.fragment.proofs.AreaLaws.{AreBlocks}
use Rattle.fragment.proofs.area.enclose.Given as goal

abbrev pub invariant-loop-i : goal.invariant-loop-i
invariant-loop-i l = AreBlocks l.areas l.outer.items l.i

use Rattle.gds_expand.specs.Wrong.{IsLowest, IsMarkedBelow}
use Rattle.gds_expand.proofs.wrong.lowest_wrong.Given as goal

abbrev pub invariant-loop-i : goal.invariant-loop-i
invariant-loop-i l = IsLowest l.library.structures (IsMarkedBelow l.library.structures l.marks l.i) l.lowest

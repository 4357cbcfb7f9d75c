use Rattle.std.proofs.Common.{◌+◌, ◌-◌, length}
use Rattle.rect_union.specs.Merges.{IsMerging}
use Rattle.rect_union.proofs.merge.merged.Given as goal

abbrev pub invariant-loop-i : goal.invariant-loop-i
invariant-loop-i l = IsMerging l.first l.second l.columns.items l.i l.j

abbrev pub decreases-loop-i : goal.decreases-loop-i
decreases-loop-i l = (length l.first - l.i) + (length l.second - l.j)

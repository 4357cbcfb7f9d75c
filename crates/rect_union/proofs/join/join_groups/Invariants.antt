use Rattle.std.proofs.Common.{length}
use Rattle.rect_union.specs.Joins.{IsJoining}
use Rattle.rect_union.proofs.join.join_groups.Given as goal

abbrev pub invariant-loop-rest : goal.invariant-loop-rest
invariant-loop-rest l = IsJoining l.fn.outlines l.joined.items l.rest

abbrev pub decreases-loop-rest : goal.decreases-loop-rest
decreases-loop-rest l = length l.rest

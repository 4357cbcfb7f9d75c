use Rattle.rect_union.specs.Joins.{JoinsTo}
use Rattle.rect_union.proofs.join.joined_in_groups.Given as goal

abbrev pub invariant-loop : goal.invariant-loop
invariant-loop l = JoinsTo l.fn.outlines l.joined.items

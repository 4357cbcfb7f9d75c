use Rattle.tiles.specs.Keys.{AreGroups}
use Rattle.tiles.proofs.groups.groups_of.Given as goal

abbrev pub invariant-loop-place : goal.invariant-loop-place
invariant-loop-place l = AreGroups l.keys l.place l.squares.items l.firsts.items

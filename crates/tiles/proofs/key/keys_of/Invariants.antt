use Rattle.tiles.specs.Keys.{ListsKeys}
use Rattle.tiles.proofs.key.keys_of.Given as goal

abbrev pub invariant-loop-number : goal.invariant-loop-number
invariant-loop-number l = ListsKeys l.fragments l.side l.number l.keys.items

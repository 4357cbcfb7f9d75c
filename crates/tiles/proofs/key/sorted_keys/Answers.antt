use Rattle.std.proofs.Common.{w32, length, subst}
use Rattle.std.proofs.lemmas.Int.{to_z-of_z}
use Rattle.tiles.specs.Keys.{ListsKeys}
use Rattle.tiles.proofs.KeyLaws.{keys_sorted}
use Rattle.tiles.proofs.key.sorted_keys.Goals as goal

pub returns : goal.returns
returns c =
    keys_sorted c.args.fragments.now c.args.side c.in_ok-keys.keys.items c.sort_unstable.new.self.items
    (subst (λ side. ListsKeys c.args.fragments.now side (length c.args.fragments.now) c.in_ok-keys.keys.items) (to_z-of_z w32 c.args.side c.ranges.side) c.in_ok-keys.ensures)
    c.sort_unstable.ensures.permutation c.sort_unstable.ensures.sorted

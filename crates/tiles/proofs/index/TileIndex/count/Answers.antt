use Rattle.std.proofs.Common.{arith}
use Rattle.tiles.proofs.ListedLaws.{count-seen}
use Rattle.tiles.proofs.index.TileIndex.count.Goals as goal

pub returns-clause-count : goal.returns-clause-count
returns-clause-count c =
    let few = c.self.invariant.firsts_are.few in
    let seen = count-seen c.self.inside.side c.self.inside.halo c.self.inside.squares.items c.self.inside.firsts.items c.self.inside.numbers.items c.args.self.now c.self.view_is in
    omega (arith, seen)

pub returns-clause-few : goal.returns-clause-few
returns-clause-few c = let few = c.self.invariant.firsts_are.few in omega arith

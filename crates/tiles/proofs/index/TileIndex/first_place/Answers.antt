use Rattle.std.proofs.Common.{length, ◌∙◌, sym, arith}
use Rattle.std.proofs.lemmas.Grind.{get_or_default_zero}
use Rattle.tiles.proofs.ListedLaws.{count-seen, first-seen}
use Rattle.tiles.proofs.index.TileIndex.first_place.Goals as goal

pub index-requires : goal.index-requires
index-requires c =
    let seen = count-seen c.self.inside.side c.self.inside.halo c.self.inside.squares.items c.self.inside.firsts.items c.self.inside.numbers.items c.args.self.now c.self.view_is in
    omega (arith, seen, c.self.invariant.firsts_are.count)

pub returns-clause-first : goal.returns-clause-first
returns-clause-first c =
    let seen = count-seen c.self.inside.side c.self.inside.halo c.self.inside.squares.items c.self.inside.firsts.items c.self.inside.numbers.items c.args.self.now c.self.view_is in
    c.index.ensures ∙ get_or_default_zero c.self.inside.firsts.items c.args.tile c.index.result.now (omega (arith, seen, c.self.invariant.firsts_are.count))
    ∙ sym (first-seen c.self.inside.side c.self.inside.halo c.self.inside.squares.items c.self.inside.firsts.items c.self.inside.numbers.items c.args.self.now c.self.view_is c.args.tile c.self.invariant.firsts_are (omega (arith, seen)))

pub returns-clause-few : goal.returns-clause-few
returns-clause-few c =
    let seen = count-seen c.self.inside.side c.self.inside.halo c.self.inside.squares.items c.self.inside.firsts.items c.self.inside.numbers.items c.args.self.now c.self.view_is in
    let read = c.index.ensures ∙ get_or_default_zero c.self.inside.firsts.items c.args.tile c.index.result.now (omega (arith, seen, c.self.invariant.firsts_are.count)) in
    omega (arith, seen, read, c.self.invariant.few, c.self.invariant.firsts_are.ends, c.self.invariant.firsts_are.ascend c.args.tile (length c.self.inside.squares.items) (omega (arith, seen)) (omega arith))

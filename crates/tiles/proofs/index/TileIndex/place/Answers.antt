use Rattle.std.proofs.Common.{length, ◌∙◌, ap, arith}
use Rattle.std.proofs.lemmas.Grind.{get_or_default_zero}
use Rattle.tiles.proofs.ListedLaws.{places-seen}
use Rattle.tiles.proofs.index.TileIndex.place.Goals as goal

pub index-requires : goal.index-requires
index-requires c =
    let seen = places-seen c.self.inside.side c.self.inside.halo c.self.inside.squares.items c.self.inside.firsts.items c.self.inside.numbers.items c.args.self.now c.self.view_is c.self.invariant.firsts_are in
    omega (arith, ap length seen, c.self.invariant.same_count)

pub returns : goal.returns
returns c =
    let seen = places-seen c.self.inside.side c.self.inside.halo c.self.inside.squares.items c.self.inside.firsts.items c.self.inside.numbers.items c.args.self.now c.self.view_is c.self.invariant.firsts_are in
    let read = c.index.ensures ∙ get_or_default_zero c.self.inside.places.items c.args.i c.index.result.now (omega (arith, ap length seen, c.self.invariant.same_count)) in
    rw (seen, read) (c.self.invariant.placed c.args.i (omega (arith, ap length seen, c.self.invariant.same_count)))

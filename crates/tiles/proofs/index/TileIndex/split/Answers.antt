use Rattle.std.proofs.Common.{length, arith}
use Rattle.tiles.proofs.TilingLaws.{stored-within}
use Rattle.tiles.proofs.index.TileIndex.split.Goals as goal

pub overflow_mul-stride : goal.overflow_mul-stride
overflow_mul-stride c =
    let own = stored-within c.args.self.now c.args.tile c.args.stride (length c.args.sums.now) c.requires.tile c.requires.size in
    record { fits = rw c.fragments-sites.ensures (omega (arith, own)) }

pub split_at_mut-own-requires : goal.split_at_mut-own-requires
split_at_mut-own-requires c =
    rw c.fragments-sites.ensures (stored-within c.args.self.now c.args.tile c.args.stride (length c.args.sums.now) c.requires.tile c.requires.size)

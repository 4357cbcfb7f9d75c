use Rattle.tiles.proofs.MeetLaws.{far}
use Rattle.tiles.specs.Tiles.{tile_at}
use Rattle.outline_model.specs.Outline.{fragment_at}
use Rattle.tiles.proofs.index.TileIndex.touched.Goals as goal

pub returns-clause-far : goal.returns-clause-far
returns-clause-far c set samples fs k i wide is below away has =
    far set samples (fragment_at fs i) (tile_at c.args.self.now k) c.args.self.now.side c.args.self.now.halo c.args.rect.now wide (is.in_tile k i below has) away

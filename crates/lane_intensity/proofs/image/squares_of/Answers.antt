use Rattle.lane_intensity.proofs.Vectors.{asks_squares, squares_are}
use Rattle.lane_intensity.proofs.image.squares_of.Goals as goal

pub overflow_mul-result : goal.overflow_mul-result
overflow_mul-result c = asks_squares c.args.lane c.args.acc.now c.requires.lane c.requires.lanes

pub returns : goal.returns
returns c = squares_are c.args.lane c.args.acc.now c.requires.lane c.requires.lanes

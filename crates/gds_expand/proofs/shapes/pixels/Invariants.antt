use Rattle.std.proofs.Common.{◌≡◌, take, map}
use Rattle.gds_model.specs.Outlines.{pixel_at}
use Rattle.gds_expand.proofs.shapes.pixels.Given as goal

abbrev pub invariant-loop-point : goal.invariant-loop-point
invariant-loop-point l = l.pixels.items ≡ map (pixel_at l.side.length) (take l.point-index l.points)

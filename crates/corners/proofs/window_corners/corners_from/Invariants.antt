use Rattle.std.proofs.Common.{◌≡◌, map, take}
use Rattle.corners.specs.Points.{corner_from}
use Rattle.corners.proofs.window_corners.corners_from.Given as goal

abbrev pub invariant-loop-point : goal.invariant-loop-point
invariant-loop-point l = l.corners.items ≡ map corner_from (take l.point-index l.points)

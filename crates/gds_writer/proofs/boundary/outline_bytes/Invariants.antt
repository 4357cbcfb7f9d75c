use Rattle.std.proofs.Common.{◌≡◌, take}
use Rattle.std.specs.List.{flat_map}
use Rattle.gds_writer.specs.MaskFile.{point_bytes}
use Rattle.gds_writer.proofs.boundary.outline_bytes.Given as goal

abbrev pub invariant-loop-point : goal.invariant-loop-point
invariant-loop-point l = l.body.items ≡ flat_map (point_bytes l.grid) (take l.point-index l.points)

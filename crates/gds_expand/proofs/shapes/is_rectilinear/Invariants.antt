use Rattle.std.proofs.Common.{◌≡◌, drop}
use Rattle.gds_model.specs.PlaceFaults.{is_rectilinear, is_rectilinear_after}
use Rattle.gds_expand.proofs.shapes.is_rectilinear.Given as goal

abbrev pub invariant-loop-point : goal.invariant-loop-point
invariant-loop-point l = is_rectilinear_after l.before (drop l.point-index l.rest) ≡ is_rectilinear l.points

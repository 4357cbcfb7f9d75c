use Rattle.std.proofs.Common.{◌≡◌, ◌^◌, take, All}
use Rattle.gds_model.specs.Outlines.{placed_points}
use Rattle.gds_model.specs.Placement.{IsPositionWithin}
use Rattle.gds_expand.specs.Placement.{placed}
use Rattle.gds_expand.proofs.shapes.place_points.Given as goal

abbrev pub invariant-loop-point : goal.invariant-loop-point
invariant-loop-point l = record {
  made : l.positions.items ≡ placed_points (placed l.placement) (take l.point-index l.points);
  near : All (IsPositionWithin (2 ^ 51)) l.positions.items;
}

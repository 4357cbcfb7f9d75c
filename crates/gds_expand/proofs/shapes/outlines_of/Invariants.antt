use Rattle.std.proofs.Common.{◌≡◌, All, take, drop, map}
use Rattle.opc_base.specs.Cover.{IsPlaced}
use Rattle.gds_model.specs.Outlines.{outline_of}
use Rattle.gds_model.specs.PlaceFaults.{first_fault}
use Rattle.gds_expand.specs.Steps.{mapped}
use Rattle.gds_expand.proofs.shapes.outlines_of.Given as goal

abbrev pub invariant-loop-shape : goal.invariant-loop-shape
invariant-loop-shape l = record {
  made : l.outlines.items ≡ map (outline_of l.pick.grid) (map mapped (take l.shape-index l.shapes));
  right : first_fault l.pick.grid (map mapped (drop l.shape-index l.shapes)) ≡ first_fault l.pick.grid (map mapped l.shapes);
  placed : All IsPlaced l.outlines.items;
}

use Rattle.std.proofs.Common.{◌≡◌, ◌∙◌, ap, take, FitsSigned, w32}
use Rattle.std.specs.List.{flat_map}
use Rattle.std.proofs.lemmas.Int.{to_z-of_z}
use Rattle.std.proofs.lemmas.List.{take_all}
use Rattle.gds_writer.specs.MaskFile.{point_bytes}
use Rattle.gds_writer.proofs.boundary.outline_bytes.Goals as goal

pub returns : goal.returns
returns c =
    let fits : FitsSigned w32 c.args.grid = c.ranges.grid in
    let written : c.loop-point.body.items ≡ flat_map (point_bytes c.args.grid) (take c.loop-point.point-index c.args.points.now) =
    simp to_z-of_z at c.loop-point.invariant in
    written ∙ ap (λ l. flat_map (point_bytes c.args.grid) l) (take_all c.loop-point.point-index c.args.points.now c.loop-point-test.false)

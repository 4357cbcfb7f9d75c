use Rattle.std.proofs.Common.{pos, arith}
use Rattle.opc_base.specs.declared.plane.Pix.{Pix}
use Rattle.rect_union.proofs.ClosedWalks.{closed_if}
use Rattle.geometry_rows.proofs.shapes.is_closed.Goals as goal

pub returns : goal.returns
returns c is =
    let pix : Pix = record { x = pos 0; y = pos 0 } in
    closed_if c.args.points.now pix pix (omega arith) (c.is_same.ensures is)

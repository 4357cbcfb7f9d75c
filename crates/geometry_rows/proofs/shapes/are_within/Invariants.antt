use Rattle.std.proofs.Common.{ℕ, ◌<◌, length, get_or}
use Rattle.opc_base.specs.declared.plane.Pix.{Pix}
use Rattle.opc_base.specs.Plane.{IsPixWithin}
use Rattle.geometry_rows.proofs.shapes.are_within.Given as goal

abbrev pub invariant-loop-point : goal.invariant-loop-point
invariant-loop-point l = (k : ℕ) (d : Pix) → k < l.point-index → k < length l.points → IsPixWithin 1048000 (get_or l.points k d)

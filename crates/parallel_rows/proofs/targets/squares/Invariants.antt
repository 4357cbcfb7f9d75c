use Rattle.std.proofs.Common.{All}
use Rattle.opc_base.specs.Canonical.{IsSolid}
use Rattle.opc_base.specs.Plane.{IsRectWithin}
use Rattle.parallel_rows.proofs.targets.squares.Given as goal

abbrev pub invariant-loop-number : goal.invariant-loop-number
invariant-loop-number l = All IsSolid l.rects.items × All (IsRectWithin 1048000) l.rects.items

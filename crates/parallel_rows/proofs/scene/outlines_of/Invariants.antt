use Rattle.std.proofs.Common.{All}
use Rattle.opc_base.specs.Cover.{IsPlaced}
use Rattle.parallel_rows.proofs.scene.outlines_of.Given as goal

abbrev pub invariant-loop-rect : goal.invariant-loop-rect
invariant-loop-rect l = All IsPlaced l.outlines.items

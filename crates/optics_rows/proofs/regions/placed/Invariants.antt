use Rattle.opc_base.specs.Cover.{AreRectangles}
use Rattle.optics_rows.proofs.regions.placed.Given as goal

abbrev pub invariant-loop-rect : goal.invariant-loop-rect
invariant-loop-rect l = AreRectangles l.kept.items

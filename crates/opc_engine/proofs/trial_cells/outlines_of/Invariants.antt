use Rattle.std.proofs.Common.{◌≡◌, map, take}
use Rattle.gds_writer.specs.MaskFile.{around}
use Rattle.opc_engine.proofs.trial_cells.outlines_of.Given as goal

abbrev pub invariant-loop-rect : goal.invariant-loop-rect
invariant-loop-rect l = l.outlines.items ≡ map around (take l.rect-index l.rects)

use Rattle.std.proofs.Common.{◌-ℤ◌, unsigned_abs}
use Rattle.opc_engine.proofs.BarPrintLaws.{NoneBelow}
use Rattle.opc_engine.proofs.bar_print.rect_prints.Given as goal

abbrev pub invariant-loop-y0 : goal.invariant-loop-y0
invariant-loop-y0 g l = NoneBelow l.light l.rect l.y0

abbrev pub decreases-loop-y0 : goal.decreases-loop-y0
decreases-loop-y0 g l = unsigned_abs (l.rect.y1 -ℤ l.y0)

use Rattle.std.proofs.Common.{◌-ℤ◌, unsigned_abs}
use Rattle.opc_engine.proofs.BarPrintLaws.{NoneLeft}
use Rattle.opc_engine.proofs.bar_print.band_prints.Given as goal

abbrev pub invariant-loop-x0 : goal.invariant-loop-x0
invariant-loop-x0 g l = NoneLeft l.light l.band l.x0

abbrev pub decreases-loop-x0 : goal.decreases-loop-x0
decreases-loop-x0 g l = unsigned_abs (l.band.x1 -ℤ l.x0)

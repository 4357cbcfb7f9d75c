use Rattle.std.proofs.Common.{◌≡◌, ◌↔◌, ℕ, ◌<◌, IsTrue, false, get_or, length}
use Rattle.opc_engine.specs.BarImages.{HasPrinted}
use Rattle.opc_engine.specs.BarRuns.{bar_at}
use Rattle.opc_engine.proofs.bar_print.printed_bars.Given as goal

abbrev pub invariant-loop-bar : goal.invariant-loop-bar
invariant-loop-bar g l = record {
  count : length l.flags.items ≡ l.bar-index;
  each : (k : ℕ) → k < l.bar-index → IsTrue (get_or l.flags.items k false) ↔ HasPrinted l.light (bar_at l.bars k);
}

use Rattle.std.proofs.Common.{◌≡◌, ◌++◌, false, get_or}
use Rattle.opc_engine.specs.BarRuns.{bar_at}
use Rattle.opc_engine.specs.BarTable.{bar_line}
use Rattle.opc_engine.specs.ErrorTable.{texts_of}
use Rattle.opc_engine.proofs.bar_table.put_bars.Given as goal

abbrev pub invariant-loop-k : goal.invariant-loop-k
invariant-loop-k l = l.out ≡ l.fn.out ++ texts_of (λ k. bar_line k (bar_at l.bars k) (get_or l.flags k false)) l.k

use Rattle.std.proofs.Common.{◌↔◌, IsTrue, length-append, arith}
use Rattle.opc_engine.specs.BarImages.{HasPrinted}
use Rattle.opc_engine.specs.BarRuns.{bar_at}
use Rattle.opc_engine.proofs.BarPrintLaws.{flag_more}
use Rattle.opc_engine.proofs.bar_print.printed_bars.Goals as goal

pub loop-bar-preserved : goal.loop-bar-preserved
loop-bar-preserved g c =
    rw c.in_ok-push.ensures.items (record {
      count = simp length-append (omega (arith, c.loop-bar.invariant.count));
      each = flag_more (λ k flag. IsTrue flag ↔ HasPrinted c.args.light.now (bar_at c.args.bars.now k)) c.loop-bar.flags.items c.loop-bar.bar-index c.in_ok-prints.prints c.loop-bar.invariant.count
          c.in_ok-prints.ensures c.loop-bar.invariant.each;
    })

pub returns : goal.returns
returns g c = record {
  count = omega (arith, c.loop-bar.invariant.count, c.loop-bar-test.false, c.loop-bar.auto.bar-index-end);
  each = λ k below. c.loop-bar.invariant.each k (omega (arith, below, c.loop-bar-test.false));
}

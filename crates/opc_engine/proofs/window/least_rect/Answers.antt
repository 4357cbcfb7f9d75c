use Rattle.print_check.proofs.NearLaws.{enclosed_more}
use Rattle.opc_engine.proofs.window.least_rect.Goals as goal

pub loop-rect-preserved : goal.loop-rect-preserved
loop-rect-preserved c = record {
  each = enclosed_more c.loop-rect.least c.least_of_both-least.result c.args.rects.now c.loop-rect.rect-index _ c.least_of_both-least.ensures.a c.least_of_both-least.ensures.b
      c.loop-rect-test.true c.loop-rect.invariant.each;
  least = λ other all. c.least_of_both-least.ensures.least other (c.loop-rect.invariant.least other all) (all c.loop-rect.rect-index _ c.loop-rect-test.true);
  within = c.least_of_both-least.ensures.within;
}

use Rattle.opc_engine.proofs.PolygonLaws.{drawn_run_is}
use Rattle.opc_engine.proofs.polygon_mask.drawn_run.Goals as goal

pub returns : goal.returns
returns g c = drawn_run_is c.args.given.now c.run.new.session _ _ _ c.drawn.result c.run.ensures.over (c.in_ok-rounds.ensures.run) (c.as_slice.ensures.list) c.drawn.ensures

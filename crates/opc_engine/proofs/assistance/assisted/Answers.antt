use Rattle.opc_engine.proofs.BarTableLaws.{assisted_is}
use Rattle.opc_engine.proofs.assistance.assisted.Goals as goal

pub returns : goal.returns
returns g c = assisted_is c.args.given.now c.run_bars.new.session c.run_bars.ensures.over c.requires _ _ c.bars_written.result c.in_ok-lines.ensures.run c.as_slice.ensures.list c.bars_written.ensures

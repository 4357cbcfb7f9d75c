use Rattle.std.proofs.Common.{◌∙◌}
use Rattle.opc_base.specs.Plane.{cover}
use Rattle.opc_engine.proofs.BarTableLaws.{bar_table_is}
use Rattle.opc_engine.proofs.bar_table.bar_table_of.Goals as goal

pub returns-clause-text : goal.returns-clause-text
returns-clause-text c =
    bar_table_is (cover c.args.given.now.target) c.args.session.now c.args.rounds.now c.in_ok-text.text c.append.new.self c.put_bars.new.out c.append-2.new.self c.as_slice.result.now
    c.args.given.now.bars.items c.args.flags.now c.args.rectangles
    c.in_ok-text.ensures c.in_ok-append.ensures.appended (rw c.deref.ensures.value at c.in_ok-put_bars.ensures) (c.as_slice.ensures.list ∙ c.in_ok-last.ensures) c.in_ok-append-2.ensures.appended

use Rattle.std.proofs.Common.{ap, ◌∙◌}
use Rattle.opc_base.specs.Plane.{cover}
use Rattle.opc_base.specs.declared.rules.Rules.{Rules}
use Rattle.opc_engine.specs.BarRuns.{own_error}
use Rattle.opc_engine.proofs.BarTableLaws.{bar_end_is}
use Rattle.opc_engine.proofs.bar_table.end_of.Goals as goal

pub returns : goal.returns
returns c =
    let target = cover c.args.given.now.target in
    let tells = c.are_settled-settled.ensures (own_error target) c.args.session.now (ap (λ (r : Rules). r.run) c.requires.over.rules) c.find_totals-totals.ensures.totals in
    bar_end_is target c.args.session.now c.from_vec-last.result c.put_summary.new.out c.find_totals-totals.result c.are_settled-settled.result c.args.rectangles
    (c.from_vec-last.ensures.list ∙ c.new.ensures.items) c.find_totals-totals.ensures.totals tells c.in_ok-put_summary.ensures.ok

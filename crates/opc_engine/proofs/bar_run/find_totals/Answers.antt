use Rattle.std.proofs.Common.{subst, ◌<◌}
use Rattle.opc_engine.proofs.BarRunLaws.{totals_from}
use Rattle.opc_engine.proofs.bar_run.find_totals.Goals as goal

pub totals_of-requires-clause-few : goal.totals_of-requires-clause-few
totals_of-requires-clause-few c = c.find_errors.ensures.few

pub totals_of-requires-clause-small : goal.totals_of-requires-clause-small
totals_of-requires-clause-small c i below = c.find_errors.ensures.small i (subst (λ n. i < n) c.find_errors.ensures.count below)

pub returns-clause-totals : goal.returns-clause-totals
returns-clause-totals c = totals_from c.args.given.now c.args.session.now c.find_errors.new.errors c.totals_of.result c.find_errors.ensures c.totals_of.ensures.worst c.totals_of.ensures.total

use Rattle.std.proofs.Common.{SFits, w32, length, unsigned_abs, rules, ap, sym, ◌∙◌}
use Rattle.opc_base.specs.declared.moves.Totals.{Totals}
use Rattle.opc_base.specs.declared.rules.RunRules.{RunRules}
use Rattle.opc_session.specs.Errors.{greatest_size}
use Rattle.opc_engine.specs.Runs.{all_settled}
use Rattle.opc_engine.proofs.SettledLaws.{settled_by_greatest, settled_test}
use Rattle.opc_engine.proofs.bar_run.are_settled.Goals as goal

pub returns : goal.returns
returns c error s run_is total_is =
    let run = c.args.rules.now in
    let fits : SFits w32 c.args.totals.now.worst = search rules in
    settled_test c.args.totals.now.worst run.settle (greatest_size (error s) (length s.fragments)) run.settle_in_range fits (ap (λ (t : Totals). t.worst) total_is)
    ∙ sym (settled_by_greatest (unsigned_abs run.settle) (error s) (length s.fragments))
    ∙ ap (λ (r : RunRules). all_settled (unsigned_abs r.settle) (error s) (length s.fragments)) (sym run_is)

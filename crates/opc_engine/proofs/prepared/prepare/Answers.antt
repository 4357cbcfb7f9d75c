use Rattle.std.proofs.lemmas.Result.{err_from_is_err_and}
use Rattle.opc_engine.specs.ReadyTarget.{pattern_of}
use Rattle.opc_engine.proofs.SetsLaws.{at_kernel_files, at_layout_file, at_rule_file, sets_accepted}
use Rattle.opc_engine.proofs.prepared.prepare.Goals as goal

pub returns-in_err-rules-clause-refusal : goal.returns-in_err-rules-clause-refusal
returns-in_err-rules-clause-refusal c =
    let p = err_from_is_err_and c.from_residual.result c.from_residual.ensures.1 in
    rw (p.1, p.2) (at_rule_file c.args.layout.now c.args.kernels.now c.args.rules.now _ c.in_err-rules.ensures.refusal)

pub returns-in_err-sets-clause-refusal : goal.returns-in_err-sets-clause-refusal
returns-in_err-sets-clause-refusal c =
    let p = err_from_is_err_and c.from_residual-in_err-sets.result c.from_residual-in_err-sets.ensures.1 in
    rw (p.1, p.2) (at_kernel_files c.args.layout.now c.args.kernels.now c.args.rules.now c.in_ok-rules.rules c.in_ok-rules.ensures.rules _ c.in_err-sets.ensures.refusal)

pub returns-in_err-target-clause-refusal : goal.returns-in_err-target-clause-refusal
returns-in_err-target-clause-refusal c =
    let p = err_from_is_err_and c.from_residual-in_err-target.result c.from_residual-in_err-target.ensures.1 in
    rw (p.1, p.2) (at_layout_file c.args.layout.now c.args.kernels.now c.args.rules.now c.in_ok-rules.rules c.in_ok-rules.ensures.rules c.in_ok-sets.sets c.in_ok-sets.ensures.sets _ c.in_err-target.ensures.refusal)

pub returns-clause-accepted : goal.returns-clause-accepted
returns-clause-accepted c =
    sets_accepted c.args.layout.now c.args.kernels.now c.args.rules.now c.in_ok-rules.rules c.in_ok-rules.ensures.rules c.in_ok-sets.sets c.in_ok-sets.ensures.sets (pattern_of c.in_ok-target.target) c.in_ok-target.ensures.accepted

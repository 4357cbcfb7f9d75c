use Rattle.std.proofs.lemmas.Result.{err_from_is_err_and}
use Rattle.opc_engine.specs.Ready.{subject_of}
use Rattle.opc_engine.proofs.PrepareLaws.{accepted_rules, after_rules}
use Rattle.opc_engine.proofs.ready.ready_from.Goals as goal

pub returns-in_err-given-clause-refusal : goal.returns-in_err-given-clause-refusal
returns-in_err-given-clause-refusal c =
    let p = err_from_is_err_and c.from_residual-in_err-given.result c.from_residual-in_err-given.ensures.1 in
    rw (p.1, p.2) (after_rules c.args.layout.now c.args.kernels.now c.args.rules.now c.in_ok-rules.rules c.in_ok-rules.ensures.rules _ c.in_err-given.ensures.refusal)

pub returns-clause-accepted : goal.returns-clause-accepted
returns-clause-accepted c =
    accepted_rules c.args.layout.now c.args.kernels.now c.args.rules.now c.in_ok-rules.rules c.in_ok-rules.ensures.rules (subject_of c.in_ok-given.given) c.in_ok-given.ensures.accepted

pub returns-in_err-given-clause-memory : goal.returns-in_err-given-clause-memory
returns-in_err-given-clause-memory c =
    let p = err_from_is_err_and c.from_residual-in_err-given.result c.from_residual-in_err-given.ensures.1 in
    rw (p.1, p.2) c.in_err-given.ensures.memory

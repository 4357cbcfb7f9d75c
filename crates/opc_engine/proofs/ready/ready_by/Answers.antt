use Rattle.std.proofs.lemmas.Result.{err_from_is_err_and}
use Rattle.opc_engine.proofs.PrepareLaws.{accepted, at_kernels, at_layout}
use Rattle.opc_engine.specs.ReadyTarget.{pattern_of}
use Rattle.opc_engine.proofs.ready.ready_by.Goals as goal

pub returns-in_err-kernels-clause-refusal : goal.returns-in_err-kernels-clause-refusal
returns-in_err-kernels-clause-refusal c =
    let p = err_from_is_err_and c.from_residual.result c.from_residual.ensures.1 in
    rw (p.1, p.2) (at_kernels c.args.layout.now c.args.kernels.now c.args.rules _ c.in_err-kernels.ensures.refusal)

pub returns-in_err-target-clause-refusal : goal.returns-in_err-target-clause-refusal
returns-in_err-target-clause-refusal c =
    let p = err_from_is_err_and c.from_residual-in_err-target.result c.from_residual-in_err-target.ensures.1 in
    rw (p.1, p.2) (at_layout c.args.layout.now c.args.kernels.now c.args.rules c.in_ok-kernels.kernels c.in_ok-kernels.ensures.set _ c.in_err-target.ensures.refusal)

pub returns-clause-accepted : goal.returns-clause-accepted
returns-clause-accepted c =
    accepted c.args.layout.now c.args.kernels.now c.args.rules c.in_ok-kernels.kernels c.in_ok-kernels.ensures.set (pattern_of c.in_ok-target.target) c.in_ok-target.ensures.accepted

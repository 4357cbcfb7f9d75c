use Rattle.std.proofs.Common.{inl, refl}
use Rattle.std.proofs.lemmas.Result.{err_from_is_err_and}
use Rattle.opc_engine.specs.Ready.{subject_of}
use Rattle.opc_engine.proofs.CheckLaws.{at_window, check_is}
use Rattle.opc_engine.proofs.printing.check.Goals as goal

pub returns-in_err-window-clause-refusal : goal.returns-in_err-window-clause-refusal
returns-in_err-window-clause-refusal g c =
    let p = err_from_is_err_and c.from_residual-in_err-window.result c.from_residual-in_err-window.ensures.1 in
    rw (p.1, p.2) (at_window c.args.layout.now c.args.kernels.now c.args.rules.now (subject_of c.in_ok-given.given) _ c.in_ok-given.ensures.accepted c.in_err-window.ensures.gives)

pub returns-in_err-checked-clause-refusal : goal.returns-in_err-checked-clause-refusal
returns-in_err-checked-clause-refusal g c =
    let p = err_from_is_err_and c.from_residual-in_err-checked.result c.from_residual-in_err-checked.ensures.1 in
    rw (p.1, p.2) (inl refl)

pub returns-clause-answer : goal.returns-clause-answer
returns-clause-answer g c =
    check_is c.args.layout.now c.args.kernels.now c.args.rules.now c.in_ok-given.given c.in_ok-window.window c.in_ok-checked.field-0
    c.in_ok-given.ensures.accepted c.in_ok-window.ensures.gives c.in_ok-checked.ensures

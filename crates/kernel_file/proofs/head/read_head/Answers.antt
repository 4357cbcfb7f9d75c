use Rattle.std.proofs.Common.{◌≡◌, Some, subst}
use Rattle.std.proofs.lemmas.Result.{err_from_is_err_and}
use Rattle.kernel_file.specs.Faults.{transmission_fault}
use Rattle.kernel_file.proofs.HeadLemmas.{no_magic, kernel_fault-head, kernel_fault-transmission}
use Rattle.kernel_file.proofs.head.read_head.Goals as goal

pub returns-in_default-clause-err : goal.returns-in_default-clause-err
returns-in_default-clause-err c = kernel_fault-head c.args.bytes.now _ (no_magic c.args.bytes.now c.in_default.ensures)

pub returns-in_err-count-clause-err : goal.returns-in_err-count-clause-err
returns-in_err-count-clause-err c =
    let p = err_from_is_err_and c.from_residual.result c.from_residual.ensures.1 in
    rw (p.1, p.2) (kernel_fault-head c.args.bytes.now _ c.in_err-count.ensures.err)

pub returns-in_err-covered-clause-err : goal.returns-in_err-covered-clause-err
returns-in_err-covered-clause-err c =
    let p = err_from_is_err_and c.from_residual-in_err-covered.result c.from_residual-in_err-covered.ensures.1 in
    rw (p.1, p.2) (kernel_fault-transmission c.args.bytes.now _ c.in_ok-count.ensures.ok.2
    (subst (λ format. transmission_fault format c.args.bytes.now ≡ Some c.in_err-covered.field-0.0) c.in-Some.ensures.1 c.in_err-covered.ensures.err))

use Rattle.std.proofs.Common.{refl}
use Rattle.std.proofs.lemmas.Result.{err_from_is_err_and}
use Rattle.kernel_file.specs.declared.format.Format.TheVariants.{TwoTransmissions}
use Rattle.kernel_file.proofs.HeadLemmas.{covered_is_bad, uncovered_is_bad, transmissions_pass}
use Rattle.kernel_file.proofs.head.read_transmissions.Goals as goal

pub returns-in_err-transmission_at-in-TwoTransmissions-clause-err : goal.returns-in_err-transmission_at-in-TwoTransmissions-clause-err
returns-in_err-transmission_at-in-TwoTransmissions-clause-err c =
    let p = err_from_is_err_and c.from_residual.result c.from_residual.ensures.1 in
    rw (p.1, p.2) (covered_is_bad c.args.format c.args.bytes.now _ c.in-TwoTransmissions.is c.in_err-transmission_at-in-TwoTransmissions.ensures.err)

pub returns-in_err-transmission_at-in-TwoTransmissions-2-clause-err : goal.returns-in_err-transmission_at-in-TwoTransmissions-2-clause-err
returns-in_err-transmission_at-in-TwoTransmissions-2-clause-err c =
    let p = err_from_is_err_and c.from_residual-in_err-transmission_at-in-TwoTransmissions-2.result c.from_residual-in_err-transmission_at-in-TwoTransmissions-2.ensures.1 in
    rw (p.1, p.2) (uncovered_is_bad c.args.format c.args.bytes.now _ c.in-TwoTransmissions.is
    c.in_ok-transmission_at-in-TwoTransmissions.ensures.ok.1 c.in_err-transmission_at-in-TwoTransmissions-2.ensures.err)

pub returns-in_ok-transmission_at-in-TwoTransmissions-2-clause-ok : goal.returns-in_ok-transmission_at-in-TwoTransmissions-2-clause-ok
returns-in_ok-transmission_at-in-TwoTransmissions-2-clause-ok c =
    let first = c.in_ok-transmission_at-in-TwoTransmissions.ensures.ok in
    let second = c.in_ok-transmission_at-in-TwoTransmissions-2.ensures.ok in
    rw c.in-TwoTransmissions.is (first.0, second.0, transmissions_pass TwoTransmissions c.args.bytes.now refl first.1 second.1)

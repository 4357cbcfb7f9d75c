use Rattle.std.proofs.Common.{[], refl}
use Rattle.std.proofs.lemmas.Result.{err_from_is_err_and}
use Rattle.opc_cli.specs.Plan.{line_said}
use Rattle.opc_cli.specs.declared.command.Command.TheVariants.{Trial}
use Rattle.opc_cli.proofs.Planned.{answers, stops}
use Rattle.opc_cli.proofs.trial.trial.Goals as goal

pub returns-in_err-given-clause-stop : goal.returns-in_err-given-clause-stop
returns-in_err-given-clause-stop g c =
    let outside = g.H.Host.outside in
    let p = err_from_is_err_and c.from_residual.result c.from_residual.ensures.1 in
    rw (p.1, p.2) (stops (Trial c.args.n) [] (outside c.args.host.now) (outside c.args.host.now) _ tt c.in_err-given.ensures.refusal)

pub returns-clause-answer : goal.returns-clause-answer
returns-clause-answer g c =
    let outside = g.H.Host.outside in
    answers (Trial c.args.n) [] (outside c.args.host.now) (line_said c.in_ok-given.given) c.line_alone.result tt
    (c.in_ok-given.given, (c.in_ok-given.ensures.answer, refl)) c.line_alone.ensures

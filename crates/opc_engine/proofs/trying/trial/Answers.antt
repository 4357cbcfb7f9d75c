use Rattle.std.proofs.Common.{◌∙◌}
use Rattle.std.proofs.lemmas.Result.{err_from_is_err_and}
use Rattle.opc_engine.proofs.TrialLaws.{ends_trial, prepares_trial, tries_is}
use Rattle.opc_engine.proofs.trying.trial.Goals as goal

pub returns-in_err-given-clause-refusal : goal.returns-in_err-given-clause-refusal
returns-in_err-given-clause-refusal g c =
    let p = err_from_is_err_and c.from_residual-in_err-given.result c.from_residual-in_err-given.ensures.1 in
    rw (p.1, p.2) (ends_trial c.args.n _ _ _ _ (c.as_slice.ensures.list ∙ c.in_ok-files.ensures.layout) (c.as_slice-2.ensures.list ∙ c.in_ok-files.ensures.kernels)
    (c.as_slice-3.ensures.list ∙ c.in_ok-files.ensures.rules) c.in_err-given.ensures.refusal)

pub returns-clause-answer : goal.returns-clause-answer
returns-clause-answer g c =
    tries_is c.args.n c.in_ok-given.given _ (prepares_trial c.args.n _ _ _ _ (c.as_slice.ensures.list ∙ c.in_ok-files.ensures.layout)
    (c.as_slice-2.ensures.list ∙ c.in_ok-files.ensures.kernels) (c.as_slice-3.ensures.list ∙ c.in_ok-files.ensures.rules) c.in_ok-given.ensures.accepted) c.in_ok-tried.ensures

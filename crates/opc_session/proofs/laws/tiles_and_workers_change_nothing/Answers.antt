use Rattle.opc_session.proofs.RunLaws.{errors_of_any_run, moves_of_any_run, round_of_any_run}
use Rattle.opc_session.proofs.laws.tiles_and_workers_change_nothing.Goals as goal

pub returns-clause-errors : goal.returns-clause-errors
returns-clause-errors c = λ s t i alike. errors_of_any_run s t i alike

pub returns-clause-moves : goal.returns-clause-moves
returns-clause-moves c = λ old new other next moves answers others before after from to count other_count alike first second.
    moves_of_any_run old new other next moves answers others before after from to count other_count alike first second

pub returns-clause-round : goal.returns-clause-round
returns-clause-round c = λ old new other next a b before after from to alike first second.
    round_of_any_run old new other next a b before after from to alike first second

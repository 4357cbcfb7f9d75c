use Rattle.opc_engine.proofs.SharingLaws.{check_shared, correct_shared, moves_shared, simulate_shared}
use Rattle.opc_engine.proofs.laws.sharing_changes_nothing.Goals as goal

pub returns-clause-simulate : goal.returns-clause-simulate
returns-clause-simulate c = λ layout kernels a b result apart gives. simulate_shared layout kernels a b apart result gives

pub returns-clause-correct : goal.returns-clause-correct
returns-clause-correct c = λ layout kernels a b result apart gives. correct_shared layout kernels a b apart result gives

pub returns-clause-moves : goal.returns-clause-moves
returns-clause-moves c = λ layout kernels a b moves result apart gives. moves_shared layout kernels a b apart moves result gives

pub returns-clause-check : goal.returns-clause-check
returns-clause-check c = λ layout kernels a b result apart gives. check_shared layout kernels a b apart result gives

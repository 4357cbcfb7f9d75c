use Rattle.opc_engine.proofs.AssistLaws.{assists_are_one}
use Rattle.opc_engine.proofs.CheckLaws.{checks_are_one}
use Rattle.opc_engine.proofs.CorrectionLaws.{simulates_are_one}
use Rattle.opc_engine.proofs.MaskLaws.{corrects_are_one, moves_are_one}
use Rattle.opc_engine.proofs.PolygonLaws.{polygons_are_one}
use Rattle.opc_engine.proofs.ProbeLaws.{probes_are_one}
use Rattle.opc_engine.proofs.SetsLaws.{prepares_sets_one}
use Rattle.opc_engine.proofs.TrialLaws.{trials_are_one}
use Rattle.opc_engine.proofs.laws.answers_are_one.Goals as goal

pub returns-clause-probe : goal.returns-clause-probe
returns-clause-probe c = λ layout kernels ask. probes_are_one layout kernels ask

pub returns-clause-simulate : goal.returns-clause-simulate
returns-clause-simulate c = λ layout kernels rules. simulates_are_one layout kernels rules

pub returns-clause-correct : goal.returns-clause-correct
returns-clause-correct c = λ layout kernels rules. corrects_are_one layout kernels rules

pub returns-clause-moves : goal.returns-clause-moves
returns-clause-moves c = λ layout kernels rules moves. moves_are_one layout kernels rules moves

pub returns-clause-check : goal.returns-clause-check
returns-clause-check c = λ layout kernels rules. checks_are_one layout kernels rules

pub returns-clause-trial : goal.returns-clause-trial
returns-clause-trial c = λ n. trials_are_one n

pub returns-clause-polygons : goal.returns-clause-polygons
returns-clause-polygons c = λ layout kernels rules. polygons_are_one layout kernels rules

pub returns-clause-assist : goal.returns-clause-assist
returns-clause-assist c = λ layout kernels rules bars. assists_are_one layout kernels rules bars

pub returns-clause-prepare : goal.returns-clause-prepare
returns-clause-prepare c = λ layout rules kernels. prepares_sets_one layout kernels rules

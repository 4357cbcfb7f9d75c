use Rattle.opc_cli.specs.Command.{command_of}
use Rattle.opc_cli.proofs.Agree.{plans_agree_for}
use Rattle.opc_cli.proofs.ConditionLaws.{corrections_under_are_one}
use Rattle.opc_cli.proofs.laws.plans_are_one.Goals as goal

pub returns-clause-window : goal.returns-clause-window
returns-clause-window c = λ layout rules kernels words. corrections_under_are_one layout kernels rules words

pub returns-clause-plan : goal.returns-clause-plan
returns-clause-plan c = λ words files p q a b. plans_agree_for (command_of words) files p q a b

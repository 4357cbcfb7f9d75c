-- The statuses of the engine's faults.
use Rattle.std.proofs.Common.{◌≡◌, ◌≤◌, arith, refl}
use Rattle.opc_engine.specs.declared.ask.Which.{Which}
use Rattle.opc_engine.specs.declared.ask.Which.TheVariants as which
use Rattle.opc_engine.specs.declared.fault.EngineFault.{EngineFault}
use Rattle.opc_engine.specs.declared.fault.EngineFault.TheVariants as engine
use Rattle.opc_cli.specs.Fault.{status_of_which, status_of_fault, fault_line, memory_line}

file_status : (file : Which) → (5 ≤ status_of_which file) × (status_of_which file ≤ 9)
file_status which.Layout = (omega arith, omega arith)
file_status which.Kernels = (omega arith, omega arith)
file_status which.Rules = (omega arith, omega arith)
file_status which.Moves = (omega arith, omega arith)

-- a fault's status is at least 5, and where it is that of want of memory, so is its line
pub record IsJudged (fault : EngineFault) : Type 0 where
  pub at_least : 5 ≤ status_of_fault fault
  pub at_most : status_of_fault fault ≤ 10
  pub memory : status_of_fault fault ≡ 10 → fault_line fault ≡ memory_line

pub judged : (fault : EngineFault) → IsJudged fault
judged (engine.TooLong file) = let s = file_status file in record { at_least = s.0; at_most = omega (arith, s.1); memory = λ ten. absurd (omega (arith, s.1)) }
judged (engine.Rules fault) = record { at_least = omega arith; at_most = omega arith; memory = λ ten. absurd (omega arith) }
judged (engine.Kernels fault) = record { at_least = omega arith; at_most = omega arith; memory = λ ten. absurd (omega arith) }
judged (engine.Layout fault) = record { at_least = omega arith; at_most = omega arith; memory = λ ten. absurd (omega arith) }
judged (engine.Place fault) = record { at_least = omega arith; at_most = omega arith; memory = λ ten. absurd (omega arith) }
judged engine.TooManyCorners = record { at_least = omega arith; at_most = omega arith; memory = λ ten. absurd (omega arith) }
judged (engine.Target broken) = record { at_least = omega arith; at_most = omega arith; memory = λ ten. absurd (omega arith) }
judged (engine.TooManyFragments count) = record { at_least = omega arith; at_most = omega arith; memory = λ ten. absurd (omega arith) }
judged (engine.BadBars key) = record { at_least = omega arith; at_most = omega arith; memory = λ ten. absurd (omega arith) }
judged (engine.TooWide pixels) = record { at_least = omega arith; at_most = omega arith; memory = λ ten. absurd (omega arith) }
judged (engine.Moves fault) = record { at_least = omega arith; at_most = omega arith; memory = λ ten. absurd (omega arith) }
judged (engine.NoFragment line) = record { at_least = omega arith; at_most = omega arith; memory = λ ten. absurd (omega arith) }
judged engine.NoMemory = record { at_least = omega arith; at_most = omega arith; memory = λ _. refl }

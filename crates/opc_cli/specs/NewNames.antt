-- What a command stores goes under names of its own.
use Rattle.std.specs.Prelude.{◌≡◌, ◌≢◌, ℕ, List, [], ◌∷◌, map, Some}
use Rattle.opc_base.specs.Outside.{Files}
use Rattle.opc_cli.specs.Command.{command_of, reads}
use Rattle.opc_cli.specs.Plan.{Delivery, IsPlanOf, answered}
use Rattle.opc_cli.specs.declared.command.Command.{Command}

-- a name is none of these
abbrev pub IsNew : List ℕ → List (List ℕ) → Type 0
IsNew name [] = Unit {0}
IsNew name (other ∷ others) = (other ≢ name) × IsNew name others

-- each of the outputs is none of these names, and none of the outputs before it
abbrev pub AreNew : List (List ℕ) → List (List ℕ) → Type 0
AreNew names [] = Unit {0}
AreNew names (output ∷ outputs) = IsNew output names × AreNew (output ∷ names) outputs

-- Whatever the files hold: the stores that the words call for have distinct names, and no file that is read has one of them.
abbrev pub StoresNewNames : List (List ℕ) → Type 0
StoresNewNames words = (command : Command) (files : Files) (delivery : Delivery) → command_of words ≡ Some command
    → IsPlanOf command files (answered delivery) → AreNew (reads command) (map (λ s. s.0) delivery.stores)

-- What the steps of a run do, and how they may stop.
use Rattle.std.specs.Prelude.{◌≡◌, ◌⊎◌, ℕ, ◌≤◌, List, ◌++◌, map, Some, IfSome, IsSomeAnd}
use Rattle.opc_base.specs.Outside.{Outside, Rose, Says, IsPartlyStored, IsPartlySaid}
use Rattle.opc_cli.specs.declared.stop.Stop.{Stop}
use Rattle.opc_cli.specs.declared.stop.Stop.TheVariants.{Words, Read, Write, Said, Refused, NoMemory}
use Rattle.opc_cli.specs.declared.command.Command.{Command}
use Rattle.opc_cli.specs.declared.answer.Answer.{Answer}
use Rattle.opc_cli.specs.declared.answer.Output.{Output}
use Rattle.opc_cli.specs.Command.{reads}
use Rattle.opc_cli.specs.Plan.{Delivery, IsAnsweredAnd, IsPlanOf, answered, refused, with_stores}
use Rattle.opc_cli.specs.Stop.{status_of, line_of}
use Rattle.opc_cli.specs.Outcome.{IsMissing, StopsAt, StoresStopAt, HasFirstStores, SaysLine, SaysMemoryLine}

-- what an answer stores and says
abbrev pub delivery_of : Answer → Delivery
delivery_of answer = record { stores = map (λ o. (o.name.now, o.bytes)) answer.outputs.items; line = answer.line }

abbrev pub stores_of : List Output → List (List ℕ × List ℕ)
stores_of outputs = map (λ o. (o.name.now, o.bytes)) outputs

-- a load of this name stopped: it failed, or the name is missing
abbrev pub LoadStops : List ℕ → Outside → Outside → Stop → Type 0
LoadStops name before after (Read at) = (at.now ≡ name) × (Rose before.load_faults after.load_faults ⊎ IsMissing before.files name)
LoadStops name before after NoMemory = Unit {0}
LoadStops name before after _ = ⊥

-- one of the loads of these names stopped
abbrev pub LoadsStop : List (List ℕ) → Outside → Outside → Stop → Type 0
LoadsStop names before after (Read at) = StopsAt before.files (Rose before.load_faults after.load_faults) names at.now
LoadsStop names before after NoMemory = Unit {0}
LoadsStop names before after _ = ⊥

-- the files call for this answer of a command
abbrev pub Answers : Command → Outside → Answer → Type 0
Answers command before answer = IfSome before.files (λ files. IsPlanOf command files (answered (delivery_of answer)))

-- a command stopped before its answer was there
abbrev pub CommandStops : Command → Outside → Outside → Stop → Type 0
CommandStops command before after (Read at) = StopsAt before.files (Rose before.load_faults after.load_faults) (reads command) at.now
CommandStops command before after (Refused fault) = IfSome before.files (λ files. IsPlanOf command files (refused fault))
CommandStops command before after NoMemory = Unit {0}
CommandStops command before after _ = ⊥

-- a store stopped: it failed, or memory ran out
abbrev pub StoreStops : List ℕ → List ℕ → Outside → Outside → Stop → Type 0
StoreStops name bytes before after (Write at) =
    (at.now ≡ name) × Rose before.store_faults after.store_faults
    × IfSome before.files (λ files. IsSomeAnd after.files (IsPartlyStored files name bytes))
StoreStops name bytes before after NoMemory = after.files ≡ before.files
StoreStops name bytes before after _ = ⊥

-- one of the stores stopped
abbrev pub StoresStop : List (List ℕ × List ℕ) → Outside → Outside → Stop → Type 0
StoresStop stores before after (Write at) =
    Rose before.store_faults after.store_faults
    × IfSome before.files (λ files. IsSomeAnd after.files (StoresStopAt files stores at.now))
StoresStop stores before after NoMemory = IfSome before.files (λ files. IsSomeAnd after.files (HasFirstStores files stores))
StoresStop stores before after _ = ⊥

-- the stores and the say of an answer change no count of loads, and no count falls
pub record Delivers (before after : Outside) : Type 0 where
  pub load_faults : after.load_faults ≡ before.load_faults
  pub store_faults : before.store_faults ≤ after.store_faults
  pub say_faults : before.say_faults ≤ after.say_faults

-- all is stored and said
pub record IsDelivered (delivery : Delivery) (before after : Outside) : Type 0 where
  pub files : IfSome before.files (λ files. after.files ≡ Some (with_stores files delivery.stores))
  pub said : IfSome before.said (λ said. after.said ≡ Some (said ++ delivery.line))

-- nothing was said yet
pub record IsQuiet (before after : Outside) : Type 0 where
  pub said : after.said ≡ before.said
  pub say_faults : before.say_faults ≤ after.say_faults

-- a store or the say of an answer stopped
abbrev pub DeliveryStops : Delivery → Outside → Outside → Stop → Type 0
DeliveryStops delivery before after (Write at) =
    StoresStop delivery.stores before after (Write at) × IsQuiet before after
DeliveryStops delivery before after Said =
    Rose before.say_faults after.say_faults
    × IfSome before.files (λ files. after.files ≡ Some (with_stores files delivery.stores))
    × IfSome before.said (λ said. IsSomeAnd after.said (IsPartlySaid said delivery.line))
DeliveryStops delivery before after NoMemory =
    StoresStop delivery.stores before after NoMemory × IsQuiet before after
DeliveryStops delivery before after _ = ⊥

-- a line is said with its status, or that of want of memory
pub record IsSaidAs (wanted : ℕ) (line : List ℕ) (before : Outside) (status : ℕ) (after : Outside) : Type 0 where
  pub rest : Says before after
  pub ended : ((status ≡ wanted) × SaysLine line before after) ⊎ ((status ≡ 10) × SaysMemoryLine before after)

-- what is said of a stop
abbrev pub StopSaid : Stop → Outside → ℕ → Outside → Type 0
StopSaid Said before status after = (status ≡ 4) × (after ≡ before)
StopSaid stop before status after = IsSaidAs (status_of stop) (line_of stop) before status after

-- files and what was said are as before
pub record IsUntouched (before after : Outside) : Type 0 where
  pub files : after.files ≡ before.files
  pub said : after.said ≡ before.said
  pub say_faults : after.say_faults ≡ before.say_faults

-- a command stopped: before its answer, or while that was stored or said
abbrev pub ServeStops : Command → Outside → Outside → Stop → Type 0
ServeStops command before after (Read at) = CommandStops command before after (Read at) × IsUntouched before after
ServeStops command before after (Refused fault) = CommandStops command before after (Refused fault) × IsUntouched before after
ServeStops command before after (Write at) =
    Rose before.store_faults after.store_faults × IsQuiet before after
    × IfSome before.files (λ files. IsAnsweredAnd (IsPlanOf command files) (λ delivery.
    IsSomeAnd after.files (StoresStopAt files delivery.stores at.now)))
ServeStops command before after Said =
    Rose before.say_faults after.say_faults
    × IfSome before.files (λ files. IsAnsweredAnd (IsPlanOf command files) (λ delivery.
    (after.files ≡ Some (with_stores files delivery.stores))
    × IfSome before.said (λ said. IsSomeAnd after.said (IsPartlySaid said delivery.line))))
ServeStops command before after NoMemory =
    IsQuiet before after × IfSome before.files (λ files. (after.files ≡ before.files)
    ⊎ IsAnsweredAnd (IsPlanOf command files) (λ delivery. IsSomeAnd after.files (HasFirstStores files delivery.stores)))
ServeStops command before after Words = ⊥

-- no count fell
pub record Counts (before after : Outside) : Type 0 where
  pub load_faults : before.load_faults ≤ after.load_faults
  pub store_faults : before.store_faults ≤ after.store_faults
  pub say_faults : before.say_faults ≤ after.say_faults

-- the answer that the files call for is stored and said
abbrev pub Serves : Command → Outside → Outside → Type 0
Serves command before after = IfSome before.files (λ files. IsAnsweredAnd (IsPlanOf command files) (λ delivery.
    (after.files ≡ Some (with_stores files delivery.stores))
    × IfSome before.said (λ said. after.said ≡ Some (said ++ delivery.line))))

-- What the words and the files call for, where nothing fails.
use Rattle.std.specs.Prelude.{◌≡◌, ℕ, List, [], ◌∷◌, ◌++◌, codes, map, find, is_none, unwrap_or, Option, Some, None, Result, Ok, Err, ℤ}
use Rattle.std.specs.Fmt.{signed_decimal}
use Rattle.std.specs.FinMap.{get, insert}
use Rattle.opc_base.specs.Outside.{Files}
use Rattle.opc_engine.specs.Assists.{AssistGives}
use Rattle.opc_engine.specs.Checks.{CheckGives}
use Rattle.opc_engine.specs.Corrections.{CorrectGives, MovesGives, SimulateGives}
use Rattle.opc_engine.specs.PolygonMasks.{PolygonsGives}
use Rattle.opc_engine.specs.Probe.{ProbeGives}
use Rattle.opc_engine.specs.Trial.{TrialGives}
use Rattle.opc_engine.specs.declared.answer.Answer.{Answer}
use Rattle.opc_engine.specs.declared.fault.EngineFault.{EngineFault}
use Rattle.opc_cli.specs.Command.{bar_rules, command_of, reads}
use Rattle.opc_cli.specs.SeveralConditions.{CorrectUnderGives}
use Rattle.opc_cli.specs.declared.command.Command.{Command}
use Rattle.opc_cli.specs.declared.command.Command.TheVariants.{Probe, Simulate, Correct, Moves, Check, Polygons, Trial, Assist, Window}

-- what is stored under which name, in order, and what is said then
pub record Delivery : Type 0 where
  pub stores : List (List ℕ × List ℕ)
  pub line : List ℕ

-- a plan: the words have no command, a file that is read is missing, the files are refused, or they have an answer
pub data Plan : Type 0 where
  no_command : Plan
  missing : List ℕ → Plan
  refused : EngineFault → Plan
  answered : Delivery → Plan

-- the answer of `probe`
abbrev pub intensity_line : ℤ → List ℕ
intensity_line n = codes "intensity " ++ signed_decimal n ++ 10 ∷ []

-- `probe` stores nothing and says the intensity
abbrev pub intensity_said : ℤ → Delivery
intensity_said n = record { stores = []; line = intensity_line n }

-- `simulate` stores its table and says the table's last line
abbrev pub table_stored : List ℕ → Answer → Delivery
table_stored table answer = record { stores = (table, answer.table) ∷ []; line = answer.line }

-- `correct`, `polygons`, `moves`, `assist` and `window` store the mask file before the table, and `check` the printed image before the list; they
-- say the last line of the second
abbrev pub both_stored : List ℕ → List ℕ → Answer → Delivery
both_stored mask table answer = record { stores = (mask, answer.mask) ∷ (table, answer.table) ∷ []; line = answer.line }

-- `trial` stores nothing and says its line
abbrev pub line_said : Answer → Delivery
line_said answer = record { stores = []; line = answer.line }

-- what is given is delivered in this way, or there is a refusal
abbrev pub Delivered : {A : Type 0} → (A → Delivery) → (Result A EngineFault → Type 0) → Result Delivery EngineFault → Type 0
Delivered delivered gives (Err fault) = gives (Err fault)
Delivered {A = A} delivered gives (Ok delivery) = (given : A) × (gives (Ok given) × (delivery ≡ delivered given))

-- what a command calls for, by the bytes of the files that it reads, in their order
abbrev pub IsVerdict : Command → List (List ℕ) → Result Delivery EngineFault → Type 0
IsVerdict (Probe _ _ ask) (layout ∷ kernels ∷ []) = Delivered intensity_said (ProbeGives layout kernels ask)
IsVerdict (Simulate _ _ _ table) (layout ∷ kernels ∷ rules ∷ []) = Delivered (table_stored table) (SimulateGives layout kernels rules)
IsVerdict (Correct _ _ _ mask table) (layout ∷ kernels ∷ rules ∷ []) = Delivered (both_stored mask table) (CorrectGives layout kernels rules)
IsVerdict (Polygons _ _ _ mask table) (layout ∷ kernels ∷ rules ∷ []) = Delivered (both_stored mask table) (PolygonsGives layout kernels rules)
IsVerdict (Moves _ _ _ _ mask table) (layout ∷ kernels ∷ rules ∷ moves ∷ []) =
    Delivered (both_stored mask table) (MovesGives layout kernels rules moves)
IsVerdict (Check _ _ _ printed list) (layout ∷ kernels ∷ rules ∷ []) = Delivered (both_stored printed list) (CheckGives layout kernels rules)
IsVerdict (Trial n) [] = Delivered line_said (TrialGives n)
IsVerdict (Assist _ _ _ mask table gap width end min) (layout ∷ kernels ∷ rules ∷ []) =
    Delivered (both_stored mask table) (AssistGives layout kernels rules (bar_rules gap width end min))
IsVerdict (Window _ _ mask table conditions) (layout ∷ rules ∷ kernels) =
    Delivered (both_stored mask table) (CorrectUnderGives layout kernels rules conditions)
IsVerdict _ _ = λ _. ⊥

-- the plan of a verdict
abbrev pub IsPlanBy : (Result Delivery EngineFault → Type 0) → Plan → Type 0
IsPlanBy verdict no_command = ⊥
IsPlanBy verdict (missing name) = ⊥
IsPlanBy verdict (refused fault) = verdict (Err fault)
IsPlanBy verdict (answered delivery) = verdict (Ok delivery)

-- the bytes of a file that is held
abbrev pub bytes_in : Files → List ℕ → List ℕ
bytes_in files name = unwrap_or (get files name) []

-- the first of these names that no file has
abbrev pub first_missing : Files → List (List ℕ) → Option (List ℕ)
first_missing files names = find (λ name. is_none (get files name)) names

-- the plan where this name is the first that is missing, or none is
abbrev pub IsPlanWhere : Option (List ℕ) → Command → Files → Plan → Type 0
IsPlanWhere (Some name) command files plan = plan ≡ missing name
IsPlanWhere None command files plan = IsPlanBy (IsVerdict command (map (bytes_in files) (reads command))) plan

abbrev pub IsPlanOf : Command → Files → Plan → Type 0
IsPlanOf command files plan = IsPlanWhere (first_missing files (reads command)) command files plan

abbrev pub IsPlanFor : Option Command → Files → Plan → Type 0
IsPlanFor (Some command) files plan = IsPlanOf command files plan
IsPlanFor None files plan = plan ≡ no_command

-- the words and the files call for this plan
abbrev pub IsPlan : List (List ℕ) → Files → Plan → Type 0
IsPlan words files plan = IsPlanFor (command_of words) files plan

-- the plan is an answer
abbrev pub IsAnswered : Plan → Type 0
IsAnswered no_command = ⊥
IsAnswered (missing name) = ⊥
IsAnswered (refused fault) = ⊥
IsAnswered (answered delivery) = Unit {0}

-- an answer is called for, with a fact of it
pub record IsAnsweredAnd (is_called_for : Plan → Type 0) (holds : Delivery → Type 0) : Type 0 where
  pub delivery : Delivery
  pub called_for : is_called_for (answered delivery)
  pub fact : holds delivery

-- a refusal is called for, with a fact of its fault
pub record IsRefusedAnd (is_called_for : Plan → Type 0) (holds : EngineFault → Type 0) : Type 0 where
  pub fault : EngineFault
  pub called_for : is_called_for (refused fault)
  pub fact : holds fault

-- the files with these stores made in order
abbrev pub with_stores : Files → List (List ℕ × List ℕ) → Files
with_stores files [] = files
with_stores files (s ∷ stores) = with_stores (insert files s.0 s.1) stores

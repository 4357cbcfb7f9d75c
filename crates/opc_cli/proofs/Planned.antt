-- What a command calls for, once its files are loaded.
use Rattle.std.proofs.Common.{◌≡◌, ◌⊎◌, ℕ, ◌+◌, ◌<◌, lit<, List, [], ◌∷◌, map, take, Bool, true, false, cond, refl, ap, sym, ◌∙◌, subst, Option, Some, None, inl, inr}
use Rattle.std.specs.Prelude.{IfErr, IfOk, IfSome, is_none, unwrap_or, Result, Ok, Err}
use Rattle.std.specs.Option.{option_map}
use Rattle.std.specs.FinMap.{get}
use Rattle.opc_base.specs.Outside.{Outside, Files}
use Rattle.opc_engine.specs.Assists.{AssistGives}
use Rattle.opc_engine.specs.Checks.{CheckGives}
use Rattle.opc_engine.specs.Corrections.{CorrectGives, MovesGives, SimulateGives}
use Rattle.opc_engine.specs.PolygonMasks.{PolygonsGives}
use Rattle.opc_engine.specs.Probe.{ProbeGives}
use Rattle.opc_engine.specs.declared.ask.Which.{Which}
use Rattle.opc_engine.specs.declared.ask.Which.TheVariants as which
use Rattle.opc_engine.specs.declared.fault.EngineFault.{EngineFault}
use Rattle.opc_engine.specs.declared.fault.EngineFault.TheVariants as engine
use Rattle.opc_engine.specs.declared.limits.TheConstants.{MAX_LAYOUT, MAX_KERNELS, MAX_MOVES, MAX_RULES}
use Rattle.opc_engine.proofs.AssistLaws.{assist_of_cut}
use Rattle.opc_engine.proofs.CheckLaws.{check_of_cut}
use Rattle.opc_engine.proofs.CorrectionLaws.{simulate_of_cut}
use Rattle.opc_engine.proofs.MaskLaws.{correct_of_cut, moves_of_cut}
use Rattle.opc_engine.proofs.PolygonLaws.{polygons_of_cut}
use Rattle.opc_engine.proofs.ProbeLaws.{result_of_cut}
use Rattle.opc_cli.proofs.ConditionLaws.{correct_under_of_cut}
use Rattle.opc_cli.specs.declared.answer.Answer.{Answer}
use Rattle.opc_cli.specs.declared.command.Command.{Command}
use Rattle.opc_cli.specs.declared.command.Command.TheVariants.{Probe, Simulate, Correct, Moves, Check, Polygons, Trial, Assist, Window}
use Rattle.opc_cli.specs.Command.{bar_rules, files_of, kernel_files, names_of, reads}
use Rattle.opc_cli.specs.SeveralConditions.{CorrectUnderGives}
use Rattle.opc_cli.specs.declared.conditions.ConditionWords.{ConditionWords}
use Rattle.opc_cli.specs.Plan.{Delivered, Delivery, Plan, no_command, missing, refused, answered, IsPlanBy, IsPlanOf, IsPlanWhere, IsVerdict, both_stored, bytes_in, first_missing, intensity_said, table_stored}
use Rattle.opc_cli.specs.Limit.{limit_of}
use Rattle.opc_cli.specs.Sources.{AreLoaded, IsLoaded}
use Rattle.opc_cli.specs.Steps.{Answers, CommandStops, delivery_of}
use Rattle.opc_cli.specs.FaultStop.{stop_of}
use Rattle.opc_cli.specs.declared.stop.Stop.{Stop}
use Rattle.opc_cli.specs.declared.stop.Stop.TheVariants.{NoMemory}

-- ---- files that are cut one byte past the limit of their kind

past_layout : MAX_LAYOUT < limit_of which.Layout + 1
unfolding limit_of
past_layout = lit< tt

past_kernels : MAX_KERNELS < limit_of which.Kernels + 1
unfolding limit_of
past_kernels = lit< tt

past_moves : MAX_MOVES < limit_of which.Moves + 1
unfolding limit_of
past_moves = lit< tt

past_rules : MAX_RULES < limit_of which.Rules + 1
unfolding limit_of
past_rules = lit< tt

abbrev cut : Files → Which × List ℕ → List ℕ
cut files file = take (limit_of file.0 + 1) (bytes_in files file.1)

kernels_cut : (files : Files) (conditions : List ConditionWords)
    → map (cut files) (kernel_files conditions) ≡ map (take (limit_of which.Kernels + 1)) (map (bytes_in files) (names_of (kernel_files conditions)))
kernels_cut files [] = refl
kernels_cut files (condition ∷ conditions) = ap (λ more. cut files (which.Kernels, condition.kernels) ∷ more) (kernels_cut files conditions)

-- what is given for some bytes is given for others that give as much
delivered_map : {A : Type 0} (delivered : A → Delivery) (gives gives' : Result A EngineFault → Type 0) → ((r : Result A EngineFault) → gives r → gives' r)
    → (r : Result Delivery EngineFault) → Delivered delivered gives r → Delivered delivered gives' r
delivered_map delivered gives gives' f (Err fault) h = f (Err fault) h
delivered_map delivered gives gives' f (Ok delivery) h = (h.0, (f (Ok h.0) h.1.0, h.1.1))

-- the verdict by files that are cut is the verdict by the whole files
verdict_of_cut : (command : Command) (files : Files) (r : Result Delivery EngineFault) → IsVerdict command (map (cut files) (files_of command)) r
    → IsVerdict command (map (bytes_in files) (reads command)) r
verdict_of_cut (Probe layout kernels ask) files =
    delivered_map intensity_said (ProbeGives (cut files (which.Layout, layout)) (cut files (which.Kernels, kernels)) ask)
    (ProbeGives (bytes_in files layout) (bytes_in files kernels) ask)
    (λ r. result_of_cut (bytes_in files layout) (bytes_in files kernels) ask (limit_of which.Layout + 1) (limit_of which.Kernels + 1) r past_layout past_kernels)
verdict_of_cut (Simulate layout kernels rules table) files =
    delivered_map (table_stored table) (SimulateGives (cut files (which.Layout, layout)) (cut files (which.Kernels, kernels)) (cut files (which.Rules, rules)))
    (SimulateGives (bytes_in files layout) (bytes_in files kernels) (bytes_in files rules))
    (simulate_of_cut (bytes_in files layout) (bytes_in files kernels) (bytes_in files rules) (limit_of which.Layout + 1) (limit_of which.Kernels + 1) (limit_of which.Rules + 1) past_layout past_kernels past_rules)
verdict_of_cut (Correct layout kernels rules mask table) files =
    delivered_map (both_stored mask table) (CorrectGives (cut files (which.Layout, layout)) (cut files (which.Kernels, kernels)) (cut files (which.Rules, rules)))
    (CorrectGives (bytes_in files layout) (bytes_in files kernels) (bytes_in files rules))
    (correct_of_cut (bytes_in files layout) (bytes_in files kernels) (bytes_in files rules) (limit_of which.Layout + 1) (limit_of which.Kernels + 1) (limit_of which.Rules + 1) past_layout past_kernels past_rules)
verdict_of_cut (Polygons layout kernels rules mask table) files =
    delivered_map (both_stored mask table) (PolygonsGives (cut files (which.Layout, layout)) (cut files (which.Kernels, kernels)) (cut files (which.Rules, rules)))
    (PolygonsGives (bytes_in files layout) (bytes_in files kernels) (bytes_in files rules))
    (polygons_of_cut (bytes_in files layout) (bytes_in files kernels) (bytes_in files rules) (limit_of which.Layout + 1) (limit_of which.Kernels + 1) (limit_of which.Rules + 1) past_layout past_kernels past_rules)
verdict_of_cut (Moves layout kernels rules moves mask table) files =
    delivered_map (both_stored mask table)
    (MovesGives (cut files (which.Layout, layout)) (cut files (which.Kernels, kernels)) (cut files (which.Rules, rules)) (cut files (which.Moves, moves)))
    (MovesGives (bytes_in files layout) (bytes_in files kernels) (bytes_in files rules) (bytes_in files moves))
    (moves_of_cut (bytes_in files layout) (bytes_in files kernels) (bytes_in files rules) (limit_of which.Layout + 1) (limit_of which.Kernels + 1) (limit_of which.Rules + 1) past_layout past_kernels past_rules
    (bytes_in files moves) (limit_of which.Moves + 1) past_moves)
verdict_of_cut (Check layout kernels rules printed list) files =
    delivered_map (both_stored printed list) (CheckGives (cut files (which.Layout, layout)) (cut files (which.Kernels, kernels)) (cut files (which.Rules, rules)))
    (CheckGives (bytes_in files layout) (bytes_in files kernels) (bytes_in files rules))
    (check_of_cut (bytes_in files layout) (bytes_in files kernels) (bytes_in files rules) (limit_of which.Layout + 1) (limit_of which.Kernels + 1) (limit_of which.Rules + 1) past_layout past_kernels past_rules)
verdict_of_cut (Trial n) files = λ r h. h
verdict_of_cut (Assist layout kernels rules mask table gap width end min) files =
    delivered_map (both_stored mask table)
    (AssistGives (cut files (which.Layout, layout)) (cut files (which.Kernels, kernels)) (cut files (which.Rules, rules)) (bar_rules gap width end min))
    (AssistGives (bytes_in files layout) (bytes_in files kernels) (bytes_in files rules) (bar_rules gap width end min))
    (assist_of_cut (bytes_in files layout) (bytes_in files kernels) (bytes_in files rules) (bar_rules gap width end min) (limit_of which.Layout + 1) (limit_of which.Kernels + 1) (limit_of which.Rules + 1)
    past_layout past_kernels past_rules)
verdict_of_cut (Window layout rules mask table conditions) files =
    let kernels = map (bytes_in files) (names_of (kernel_files conditions)) in
    delivered_map (both_stored mask table)
    (CorrectUnderGives (cut files (which.Layout, layout)) (map (cut files) (kernel_files conditions)) (cut files (which.Rules, rules)) conditions)
    (CorrectUnderGives (bytes_in files layout) kernels (bytes_in files rules) conditions)
    (λ r h.
    let P : List (List ℕ) → Type 0 = λ ks. CorrectUnderGives (cut files (which.Layout, layout)) ks (cut files (which.Rules, rules)) conditions r in
    correct_under_of_cut (bytes_in files layout) kernels (bytes_in files rules) conditions (limit_of which.Layout + 1) (limit_of which.Kernels + 1) (limit_of which.Rules + 1)
    past_layout past_kernels past_rules r (subst P (kernels_cut files conditions) h))

-- ---- files that were loaded

-- the bytes of a file that was loaded are those of the file in the map, which is there
held : (found : Option (List ℕ)) (n : ℕ) (bytes : List ℕ) → option_map (take n) found ≡ Some bytes → (is_none found ≡ false) × (take n (unwrap_or found []) ≡ bytes)
held None n bytes e = cc
held (Some whole) n bytes e = (refl, cc)

-- files that were loaded are there
none_missing : (files : Files) (sources : List (Which × List ℕ)) (bytes : List (List ℕ)) → AreLoaded (Some files) sources bytes
    → first_missing files (map (λ file. file.1) sources) ≡ None
none_missing files [] [] loaded = refl
none_missing files [] (b ∷ bytes) loaded = absurd loaded
none_missing files (s ∷ sources) [] loaded = absurd loaded
none_missing files (s ∷ sources) (b ∷ bytes) loaded =
    ap (λ t. cond t (Some s.1) (first_missing files (map (λ file. file.1) sources))) (held (get files s.1) (limit_of s.0 + 1) b loaded.0).0
    ∙ none_missing files sources bytes loaded.1

-- and their bytes are those of the files, cut
loaded_cut : (files : Files) (sources : List (Which × List ℕ)) (bytes : List (List ℕ)) → AreLoaded (Some files) sources bytes
    → map (cut files) sources ≡ bytes
loaded_cut files [] [] loaded = refl
loaded_cut files [] (b ∷ bytes) loaded = absurd loaded
loaded_cut files (s ∷ sources) [] loaded = absurd loaded
loaded_cut files (s ∷ sources) (b ∷ bytes) loaded =
    ap (λ c. c ∷ map (cut files) sources) (held (get files s.1) (limit_of s.0 + 1) b loaded.0).1
    ∙ ap (λ more. b ∷ more) (loaded_cut files sources bytes loaded.1)

abbrev plan_of : Result Delivery EngineFault → Plan
plan_of (Ok delivery) = answered delivery
plan_of (Err fault) = refused fault

plan_by : (verdict : Result Delivery EngineFault → Type 0) (r : Result Delivery EngineFault) → verdict r → IsPlanBy verdict (plan_of r)
plan_by verdict (Ok delivery) h = h
plan_by verdict (Err fault) h = h

-- a fault of the engine stops a command as its plan says, or is want of memory
stops_of_fault : (command : Command) (before after : Outside) (fault : EngineFault) → (fault ≡ engine.NoMemory) ⊎ IfSome before.files (λ files. IsPlanOf command files (refused fault)) → CommandStops command before after (stop_of fault)
stops_of_fault command before after engine.NoMemory why = tt
stops_of_fault command before after fault why = elim why [ inl e ↦ cc | inr planned ↦ planned ]

module _ (command : Command) (bytes : List (List ℕ)) where
  -- the verdict by the bytes that were loaded is the plan
  planned : (told : Option Files) (r : Result Delivery EngineFault) → AreLoaded told (files_of command) bytes → IsVerdict command bytes r
      → IfSome told (λ files. IsPlanOf command files (plan_of r))
  planned None r loaded verdict = tt
  planned (Some files) r loaded verdict =
      let P : List (List ℕ) → Type 0 = λ b. IsVerdict command b r in
      let Q : Option (List ℕ) → Type 0 = λ first. IsPlanWhere first command files (plan_of r) in
      subst Q (sym (none_missing files (files_of command) bytes loaded))
      (plan_by (IsVerdict command (map (bytes_in files) (reads command))) r
      (verdict_of_cut command files r (subst P (sym (loaded_cut files (files_of command) bytes loaded)) verdict)))

  -- an answer that is delivered as the verdict says
  pub answers : (before : Outside) (delivery : Delivery) (answer : Answer) → AreLoaded before.files (files_of command) bytes → IsVerdict command bytes (Ok delivery)
      → delivery_of answer ≡ delivery → Answers command before answer
  answers before delivery answer loaded verdict same =
      let P : Delivery → Type 0 = λ d. IfSome before.files (λ files. IsPlanOf command files (answered d)) in
      subst P (sym same) (planned before.files (Ok delivery) loaded verdict)

  pub ends : (before : Outside) (delivery : Delivery) (result : Result Answer Stop) → AreLoaded before.files (files_of command) bytes
      → IsVerdict command bytes (Ok delivery) → IfOk result (λ answer. delivery_of answer ≡ delivery) → IfOk result (Answers command before)
  ends before delivery (Ok answer) loaded verdict same = answers before delivery answer loaded verdict same
  ends before delivery (Err stop) loaded verdict same = tt

  -- a refusal of the engine stops a command as its plan says
  pub stops : (before after : Outside) (fault : EngineFault) → AreLoaded before.files (files_of command) bytes
      → (fault ≡ engine.NoMemory) ⊎ IsVerdict command bytes (Err fault) → CommandStops command before after (stop_of fault)
  stops before after fault loaded (inl none) = stops_of_fault command before after fault (inl none)
  stops before after fault loaded (inr verdict) = stops_of_fault command before after fault (inr (planned before.files (Err fault) loaded verdict))

-- where the answer could not be made, memory ran out
pub ends_without_memory : (command : Command) (before after : Outside) (result : Result Answer Stop) → IfErr result (λ stop. stop ≡ NoMemory)
    → IfErr result (CommandStops command before after)
ends_without_memory command before after (Ok answer) is = tt
ends_without_memory command before after (Err stop) is = rw is tt

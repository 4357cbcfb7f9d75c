-- The words and the files call for one plan.
use Rattle.std.proofs.Common.{◌≡◌, ◌∙◌, ℕ, List, [], ◌∷◌, map, Option, Some, None, sym, ap}
use Rattle.std.specs.Prelude.{Result, Ok, Err}
use Rattle.opc_base.specs.Outside.{Files}
use Rattle.opc_engine.specs.declared.fault.EngineFault.{EngineFault}
use Rattle.opc_engine.proofs.AssistLaws.{assists_are_one}
use Rattle.opc_engine.proofs.CheckLaws.{checks_are_one}
use Rattle.opc_engine.proofs.CorrectionLaws.{simulates_are_one}
use Rattle.opc_engine.proofs.MaskLaws.{corrects_are_one, moves_are_one}
use Rattle.opc_engine.proofs.PolygonLaws.{polygons_are_one}
use Rattle.opc_engine.proofs.ProbeLaws.{probes_are_one}
use Rattle.opc_engine.proofs.TrialLaws.{trials_are_one}
use Rattle.opc_engine.proofs.StageLaws.{IsOne, not_fault, same_fault, same_value}
use Rattle.opc_cli.specs.declared.command.Command.{Command}
use Rattle.opc_cli.specs.declared.command.Command.TheVariants.{Probe, Simulate, Correct, Moves, Check, Polygons, Trial, Assist, Window}
use Rattle.opc_cli.proofs.ConditionLaws.{corrections_under_are_one}
use Rattle.opc_cli.specs.Command.{bar_rules, kernel_files, names_of, reads}
use Rattle.opc_cli.specs.Plan.{Delivered, Delivery, Plan, no_command, missing, refused, answered, bytes_in, first_missing, both_stored, intensity_said, line_said, table_stored, IsPlanBy, IsVerdict, IsPlanFor, IsPlanWhere, IsPlanOf}

-- what is given at most once is delivered in one way
delivered_one : {A : Type 0} (delivered : A → Delivery) (gives : Result A EngineFault → Type 0) → IsOne gives → IsOne (Delivered delivered gives)
delivered_one {A = A} delivered gives one (Err f) (Err g) a b = ap Err (same_fault A f g (one (Err f) (Err g) a b))
delivered_one delivered gives one (Err f) (Ok d) a b = absurd (not_fault f b.0 (one (Err f) (Ok b.0) a b.1.0))
delivered_one delivered gives one (Ok d) (Err f) a b = absurd (not_fault f a.0 (one (Err f) (Ok a.0) b a.1.0))
delivered_one delivered gives one (Ok d) (Ok e) a b =
    ap Ok (a.1.1 ∙ ap delivered (same_value a.0 b.0 (one (Ok a.0) (Ok b.0) a.1.0 b.1.0)) ∙ sym b.1.1)

-- the bytes of its files call for one verdict of a command
verdicts_are_one : (command : Command) (files : Files) → IsOne (IsVerdict command (map (bytes_in files) (reads command)))
verdicts_are_one (Probe layout kernels ask) files = delivered_one intensity_said _ (probes_are_one (bytes_in files layout) (bytes_in files kernels) ask)
verdicts_are_one (Simulate layout kernels rules table) files =
    delivered_one (table_stored table) _ (simulates_are_one (bytes_in files layout) (bytes_in files kernels) (bytes_in files rules))
verdicts_are_one (Correct layout kernels rules mask table) files =
    delivered_one (both_stored mask table) _ (corrects_are_one (bytes_in files layout) (bytes_in files kernels) (bytes_in files rules))
verdicts_are_one (Polygons layout kernels rules mask table) files =
    delivered_one (both_stored mask table) _ (polygons_are_one (bytes_in files layout) (bytes_in files kernels) (bytes_in files rules))
verdicts_are_one (Moves layout kernels rules moves mask table) files =
    delivered_one (both_stored mask table) _ (moves_are_one (bytes_in files layout) (bytes_in files kernels) (bytes_in files rules) (bytes_in files moves))
verdicts_are_one (Check layout kernels rules printed list) files =
    delivered_one (both_stored printed list) _ (checks_are_one (bytes_in files layout) (bytes_in files kernels) (bytes_in files rules))
verdicts_are_one (Trial n) files = delivered_one line_said _ (trials_are_one n)
verdicts_are_one (Assist layout kernels rules mask table gap width end min) files =
    delivered_one (both_stored mask table) _ (assists_are_one (bytes_in files layout) (bytes_in files kernels) (bytes_in files rules) (bar_rules gap width end min))
verdicts_are_one (Window layout rules mask table conditions) files =
    delivered_one (both_stored mask table) _ (corrections_under_are_one (bytes_in files layout) (map (bytes_in files) (names_of (kernel_files conditions))) (bytes_in files rules) conditions)

plans_by_one : (verdict : Result Delivery EngineFault → Type 0) → IsOne verdict → (p q : Plan) → IsPlanBy verdict p → IsPlanBy verdict q → p ≡ q
plans_by_one verdict one (refused f) (refused g) a b = ap refused (same_fault Delivery f g (one (Err f) (Err g) a b))
plans_by_one verdict one (refused f) (answered d) a b = absurd (not_fault f d (one (Err f) (Ok d) a b))
plans_by_one verdict one (answered d) (refused f) a b = absurd (not_fault f d (one (Err f) (Ok d) b a))
plans_by_one verdict one (answered d) (answered e) a b = ap answered (same_value d e (one (Ok d) (Ok e) a b))
plans_by_one verdict one no_command q a b = absurd a
plans_by_one verdict one (missing name) q a b = absurd a
plans_by_one verdict one (refused f) no_command a b = absurd b
plans_by_one verdict one (refused f) (missing name) a b = absurd b
plans_by_one verdict one (answered d) no_command a b = absurd b
plans_by_one verdict one (answered d) (missing name) a b = absurd b

plans_agree_where : (first : Option (List ℕ)) (command : Command) (files : Files) (p q : Plan) → IsPlanWhere first command files p → IsPlanWhere first command files q → p ≡ q
plans_agree_where (Some name) command files p q a b = a ∙ sym b
plans_agree_where None command files p q a b = plans_by_one (IsVerdict command (map (bytes_in files) (reads command))) (verdicts_are_one command files) p q a b

pub plans_agree : (command : Command) (files : Files) (p q : Plan) → IsPlanOf command files p → IsPlanOf command files q → p ≡ q
plans_agree command files p q a b = plans_agree_where (first_missing files (reads command)) command files p q a b

pub plans_agree_for : (command : Option Command) (files : Files) (p q : Plan) → IsPlanFor command files p → IsPlanFor command files q → p ≡ q
plans_agree_for (Some command) files p q a b = plans_agree command files p q a b
plans_agree_for None files p q a b = a ∙ sym b

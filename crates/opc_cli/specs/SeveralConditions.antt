-- What `window` makes of the bytes of its files.
use Rattle.std.specs.Prelude.{◌≡◌, ℕ, List, map, Result, Ok, Err}
use Rattle.std.specs.List.{zip}
use Rattle.gds_writer.specs.Expansion.{ExpandsTo}
use Rattle.gds_writer.specs.MaskFile.{mask_file}
use Rattle.opc_base.specs.declared.kernels.KernelSet.{KernelSet}
use Rattle.outline_model.specs.Outline.{lines, mask}
use Rattle.process_window.specs.Outcomes.{IsOutcome}
use Rattle.process_window.specs.declared.condition.Condition.{Condition}
use Rattle.process_window.specs.declared.outcome.Outcome.{Outcome}
use Rattle.opc_engine.specs.PrepareSets.{PreparesSets, WindowSubject}
use Rattle.opc_engine.specs.declared.answer.Answer.{Answer}
use Rattle.opc_engine.specs.declared.fault.EngineFault.{EngineFault}
use Rattle.opc_cli.specs.declared.conditions.ConditionWords.{ConditionWords}

-- the conditions that words name, with the sets of their kernel files
abbrev pub conditions_with : List ConditionWords → List KernelSet → List Condition
conditions_with words sets = map (λ p. record { kernels = p.1; threshold = p.0.threshold; weight = p.0.weight }) (zip words sets)

-- What comes of a subject under the conditions of these words. The outcome is that of a run that goes by the joint errors:
-- its table has the error of each fragment under each condition, each that of the plain pixel sum for the condition's
-- kernels and threshold and for the one mask of the run's offsets; and this mask keeps every rule. The file has exactly
-- these bytes, and expands to exactly that mask.
pub record IsCorrectedUnder (subject : WindowSubject) (words : List ConditionWords) (answer : Answer) : Type 0 where
  pub outcome : Outcome
  pub run : IsOutcome subject.fragments subject.rules (conditions_with words subject.sets) outcome
  pub table : answer.table ≡ outcome.table
  pub line : answer.line ≡ outcome.line
  pub file : answer.mask ≡ mask_file subject.head subject.rules.out subject.rules.pick.grid outcome.mask
  pub expands : ExpandsTo answer.mask subject.rules.out.name subject.rules.out.layer subject.rules.out.datatype subject.rules.pick.grid
      (mask subject.fragments (lines subject.fragments run.offsets))

-- What `window` promises of its answer: the files are accepted, and give a subject; the answer is what comes of it.
pub record CorrectsUnder (layout : List ℕ) (kernels : List (List ℕ)) (rules : List ℕ) (words : List ConditionWords) (answer : Answer) : Type 0 where
  pub subject : WindowSubject
  pub accepted : PreparesSets layout kernels rules (Ok subject)
  pub corrected : IsCorrectedUnder subject words answer

-- what `window` calls for: its answer, or the first refusal
abbrev pub CorrectUnderGives : List ℕ → List (List ℕ) → List ℕ → List ConditionWords → Result Answer EngineFault → Type 0
CorrectUnderGives layout kernels rules words (Ok answer) = CorrectsUnder layout kernels rules words answer
CorrectUnderGives layout kernels rules words (Err refusal) = PreparesSets layout kernels rules (Err refusal)

-- What `trial` answers: what `correct` does with the files of its number, with a line of its own.
use Rattle.std.specs.Prelude.{◌≡◌, ℕ, Result, Ok, Err, List, [], ◌∷◌, ◌++◌, codes, length}
use Rattle.std.specs.Fmt.{decimal, signed_decimal}
use Rattle.error_table.specs.Table.{line_of, settled_text, text_of}
use Rattle.opc_session.specs.Sessions.{SessionValue}
use Rattle.opc_engine.specs.declared.answer.Answer.{Answer}
use Rattle.opc_engine.specs.declared.fault.EngineFault.{EngineFault}
use Rattle.opc_engine.specs.Corrections.{Corrects}
use Rattle.opc_engine.specs.ErrorTable.{totals_of}
use Rattle.opc_engine.specs.Prepare.{Prepares}
use Rattle.opc_engine.specs.Runs.{at_offsets, is_settled}
use Rattle.opc_engine.specs.TrialInput.{trial_kernels, trial_layout, trial_rules}

-- its number, how many fragments there are, and how many rounds were made
abbrev pub trial_start : ℕ → ℕ → ℕ → List ℕ
trial_start n fragments rounds =
    text_of (codes "trial " ∷ decimal n ∷ codes " fragments " ∷ decimal fragments ∷ codes " rounds " ∷ decimal rounds ∷ codes " " ∷ [])

-- then what the table's last line says of the errors and of the mask
unfoldable pub trial_line : ℕ → SessionValue → ℕ → ℕ → List ℕ
trial_line n s rounds rectangles =
    trial_start n (length s.fragments) rounds
    ++ line_of
    (codes "worst " ∷ signed_decimal (totals_of s).worst ∷ codes " total " ∷ signed_decimal (totals_of s).total
    ∷ codes " settled " ∷ settled_text (is_settled s) ∷ codes " rectangles " ∷ decimal rectangles ∷ [])

-- `correct` answers the files with this mask and table; the line speaks of that correction
pub record Tries (n : ℕ) (answer : Answer) : Type 0 where
  pub corrected : Answer
  pub corrects : Corrects (trial_layout n) trial_kernels trial_rules corrected
  pub mask : answer.mask ≡ corrected.mask
  pub table : answer.table ≡ corrected.table
  pub line : answer.line ≡ trial_line n (at_offsets corrects.subject corrects.offsets) (length corrects.rounds) (length corrects.rects)

-- what `trial` calls for: its answer, or the first refusal of its files
abbrev pub TrialGives : ℕ → Result Answer EngineFault → Type 0
TrialGives n (Ok answer) = Tries n answer
TrialGives n (Err refusal) = Prepares (trial_layout n) trial_kernels trial_rules (Err refusal)

-- What `assist` makes of the bytes of its files and the numbers of its bars.
use Rattle.std.specs.Prelude.{◌≡◌, ℕ, ℤ, Bool, Result, Ok, Err, List, length}
use Rattle.opc_base.specs.Canonical.{IsCanonical}
use Rattle.opc_base.specs.declared.moves.RoundSummary.{RoundSummary}
use Rattle.opc_base.specs.declared.plane.Rect.{Rect}
use Rattle.assist_bars.specs.declared.bar_rules.BarRules.{BarRules}
use Rattle.mask_rules.specs.TargetRules.{KeepsTarget}
use Rattle.opc_session.specs.Sessions.{SessionValue, mask_of}
use Rattle.opc_engine.specs.declared.answer.Answer.{Answer}
use Rattle.opc_engine.specs.declared.fault.EngineFault.{EngineFault}
use Rattle.opc_engine.specs.BarRuns.{ArePrinted, AreStill, IsBarRun}
use Rattle.opc_engine.specs.BarStages.{BarSubject, PreparesBars, with_bars}
use Rattle.opc_engine.specs.BarTable.{bar_end, bar_table}
use Rattle.opc_engine.specs.Corrections.{IsWritten}
use Rattle.opc_engine.specs.ErrorTable.{round_lines}
use Rattle.opc_engine.specs.Runs.{at_offsets}

-- the rectangles of the mask as it stands, the table with these rounds and flags of bars, and its last line
pub record IsBarTabled (b : BarSubject) (s : SessionValue) (rounds : List ℕ) (flags : List Bool) (answer : Answer) (rects : List Rect) : Type 0 where
  pub canonical : IsCanonical (mask_of s) rects
  pub table : answer.table ≡ bar_table b.target s rounds b.bars flags (length rects)
  pub line : answer.line ≡ bar_end b.target s (length rects)

-- A run of rounds in which no bar moves leads to these offsets; of each bar the table says whether it prints under the mask
-- of these offsets; and this mask is written, which keeps all rules.
pub record IsAssisted (b : BarSubject) (answer : Answer) : Type 0 where
  pub keeps : KeepsTarget b.whole.rules.mask (with_bars b.target b.bars)
  pub offsets : List ℤ
  pub rounds : List RoundSummary
  pub run : IsBarRun b offsets rounds
  pub still : AreStill b offsets
  pub flags : List Bool
  pub printed : ArePrinted (at_offsets b.whole offsets) b.bars flags
  pub rects : List Rect
  pub tabled : IsBarTabled b (at_offsets b.whole offsets) (round_lines 1 rounds) flags answer rects
  pub written : IsWritten b.whole offsets answer rects

-- The files are accepted, and the target with its bars is corrected.
pub record Assists (layout kernels rules : List ℕ) (bars : BarRules) (answer : Answer) : Type 0 where
  pub subject : BarSubject
  pub accepted : PreparesBars layout kernels rules bars (Ok subject)
  pub assisted : IsAssisted subject answer

-- what the files and the numbers call for: the answer, or the first refusal
abbrev pub AssistGives : List ℕ → List ℕ → List ℕ → BarRules → Result Answer EngineFault → Type 0
AssistGives layout kernels rules bars (Ok answer) = Assists layout kernels rules bars answer
AssistGives layout kernels rules bars (Err refusal) = PreparesBars layout kernels rules bars (Err refusal)

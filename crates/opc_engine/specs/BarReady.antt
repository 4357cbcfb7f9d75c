-- What is ready for a correction with scatter bars, as the code has it, and a session over it.
use Rattle.std.specs.Prelude.{◌≡◌, ℕ, ◌<◌, ◌≤◌, ℤ, pos, unsigned_abs, Bool, false, Ok, Err, List, All, length, slice_index_or}
use Rattle.opc_base.specs.Plane.{IsRectWithin, cover}
use Rattle.opc_base.specs.declared.moves.RoundSummary.{RoundSummary}
use Rattle.opc_base.specs.declared.plane.Rect.{Rect}
use Rattle.assist_bars.specs.Bars.{AreBars, is_own}
use Rattle.assist_bars.specs.declared.bar_rules.BarRules.{BarRules}
use Rattle.mask_rules.specs.TargetRules.{KeepsTarget}
use Rattle.outline_model.specs.Outline.{fragment_at}
use Rattle.opc_session.specs.Sessions.{SessionValue}
use Rattle.opc_engine.specs.declared.answer.Answer.{Answer}
use Rattle.opc_engine.specs.declared.bar_prepare.BarPrepared.{BarPrepared}
use Rattle.opc_engine.specs.declared.fault.EngineFault.{EngineFault}
use Rattle.opc_engine.specs.declared.ready.Ready.{Ready}
use Rattle.opc_engine.specs.Assists.{IsBarTabled}
use Rattle.opc_engine.specs.BarRuns.{ArePrinted, IsBarRun, own_error}
use Rattle.opc_engine.specs.BarStages.{BarSubject, WholeGives, with_bars}
use Rattle.opc_engine.specs.Corrections.{IsWritten}
use Rattle.opc_engine.specs.ErrorTable.{round_lines}
use Rattle.opc_engine.specs.Prepare.{Subject}
use Rattle.opc_engine.specs.Ready.{CanOpen, subject_of}
use Rattle.opc_engine.specs.Runs.{AreRoundsBy}
use Rattle.opc_engine.specs.Standing.{IsOver}

-- what is corrected
abbrev pub bar_subject_of : BarPrepared → BarSubject
bar_subject_of g = record {
  target = cover g.target;
  bars = g.bars.items;
  whole = record {
    head = g.whole.head;
    target = with_bars (cover g.target) g.bars.items;
    fragments = g.whole.fragments;
    set = g.whole.kernels;
    rules = g.whole.rules;
  };
}

-- a session can be opened over the target with its bars, which keeps the target's rules; and it is known which fragments are
-- the target's
pub record CanAssist (g : BarPrepared) : Type 0 where
  pub whole : CanOpen g.whole
  pub keeps : KeepsTarget g.whole.rules.mask (with_bars (cover g.target) g.bars.items)
  pub bars : All (IsRectWithin 1048000) g.bars.items
  pub own_count : length g.own.items ≡ length g.whole.fragments
  pub own : (i : ℕ) → i < length g.whole.fragments → slice_index_or g.own.items i false ≡ is_own (cover g.target) (fragment_at g.whole.fragments i)

-- it has the bars of what was ready, and the fragments with them
pub record HasBars (given : Ready) (bars : BarRules) (g : BarPrepared) : Type 0 where
  pub kept : AreBars given.rules.mask bars (cover given.region) g.bars.items
  pub whole : WholeGives (subject_of given) g.bars.items (Ok (bar_subject_of g))

-- the target with its bars is refused
pub record WholeFails (s : Subject) (bars : BarRules) (refusal : EngineFault) : Type 0 where
  pub bars_are : List Rect
  pub kept : AreBars s.rules.mask bars s.target bars_are
  pub fails : WholeGives s bars_are (Err refusal)

-- ---- a session over it

-- the errors of the target's fragments
pub record OwnErrors (g : BarPrepared) (s : SessionValue) (errors : List ℤ) : Type 0 where
  pub count : length errors ≡ length s.fragments
  pub few : length errors ≤ 32768
  pub each : (i : ℕ) → i < length s.fragments → slice_index_or errors i (pos 0) ≡ own_error (cover g.target) s i
  pub small : (i : ℕ) → i < length s.fragments → unsigned_abs (slice_index_or errors i (pos 0)) ≤ 256

-- so many rounds led to it, of which these are the lines
pub record HasBarRounds (g : BarPrepared) (made : ℕ) (s : SessionValue) (lines : List ℕ) : Type 0 where
  pub over : IsOver g.whole s
  pub summaries : List RoundSummary
  pub rounds : AreRoundsBy (own_error (cover g.target)) (bar_subject_of g).whole made s.offsets summaries
  pub text : lines ≡ round_lines 1 summaries

-- a run led to it, and these are the lines of its rounds
pub record HasBarRun (g : BarPrepared) (s : SessionValue) (lines : List ℕ) : Type 0 where
  pub summaries : List RoundSummary
  pub run : IsBarRun (bar_subject_of g) s.offsets summaries
  pub text : lines ≡ round_lines 1 summaries

-- its mask file and its table
pub record IsBarWritten (g : BarPrepared) (s : SessionValue) (rounds : List ℕ) (answer : Answer) : Type 0 where
  pub flags : List Bool
  pub printed : ArePrinted s g.bars.items flags
  pub rects : List Rect
  pub tabled : IsBarTabled (bar_subject_of g) s rounds flags answer rects
  pub written : IsWritten (bar_subject_of g).whole s.offsets answer rects

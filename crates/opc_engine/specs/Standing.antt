-- A session over what is ready.
use Rattle.std.specs.Prelude.{◌≡◌, ℕ, List, length}
use Rattle.opc_base.specs.declared.moves.RoundSummary.{RoundSummary}
use Rattle.opc_session.specs.Sessions.{SessionValue}
use Rattle.opc_engine.specs.declared.ready.Ready.{Ready}
use Rattle.opc_engine.specs.ErrorTable.{round_lines}
use Rattle.opc_engine.specs.Ready.{subject_of}
use Rattle.opc_engine.specs.Runs.{AreRounds, IsRun}

-- it is of these fragments, kernels and rules
pub record IsOver (p : Ready) (s : SessionValue) : Type 0 where
  pub fragments : s.fragments ≡ p.fragments
  pub set : s.set ≡ p.kernels
  pub rules : s.rules ≡ p.rules

-- so many rounds led to it, of which these are the lines
pub record HasRounds (p : Ready) (made : ℕ) (s : SessionValue) (lines : List ℕ) : Type 0 where
  pub over : IsOver p s
  pub summaries : List RoundSummary
  pub rounds : AreRounds (subject_of p) made s.offsets summaries
  pub text : lines ≡ round_lines 1 summaries

-- a run of so many rounds led to it, of which these are the lines
pub record HasRun (p : Ready) (s : SessionValue) (lines : List ℕ) (made : ℕ) : Type 0 where
  pub summaries : List RoundSummary
  pub count : made ≡ length summaries
  pub run : IsRun (subject_of p) s.offsets summaries
  pub text : lines ≡ round_lines 1 summaries

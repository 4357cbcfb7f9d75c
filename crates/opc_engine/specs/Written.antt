-- Answers with a mask file, for what is ready.
use Rattle.std.specs.Prelude.{◌≡◌, ℕ, ℤ, List, length}
use Rattle.opc_base.specs.declared.moves.Move.{Move}
use Rattle.opc_base.specs.declared.moves.Moved.{Moved}
use Rattle.opc_base.specs.declared.moves.RoundSummary.{RoundSummary}
use Rattle.opc_base.specs.declared.plane.Rect.{Rect}
use Rattle.opc_session.specs.Sessions.{SessionValue}
use Rattle.opc_engine.specs.Corrections.{IsTabled, IsWritten}
use Rattle.opc_engine.specs.declared.answer.Answer.{Answer}
use Rattle.opc_engine.specs.declared.correction.Correction.{Correction}
use Rattle.opc_engine.specs.declared.ready.Ready.{Ready}
use Rattle.opc_engine.specs.Trial.{trial_line}
use Rattle.opc_engine.specs.ErrorTable.{move_lines, round_lines}
use Rattle.opc_engine.specs.Ready.{subject_of}
use Rattle.opc_engine.specs.Runs.{IsMovesRun, IsRun, at_offsets}

-- the table with these lines between head and fragments, and the mask file, of a session
pub record IsWrittenFor (p : Ready) (s : SessionValue) (between : List ℕ) (answer : Answer) : Type 0 where
  pub rects : List Rect
  pub tabled : IsTabled s between answer rects
  pub written : IsWritten (subject_of p) s.offsets answer rects

pub record IsCorrected (p : Ready) (answer : Answer) : Type 0 where
  pub offsets : List ℤ
  pub rounds : List RoundSummary
  pub run : IsRun (subject_of p) offsets rounds
  pub rects : List Rect
  pub tabled : IsTabled (at_offsets (subject_of p) offsets) (round_lines 1 rounds) answer rects
  pub written : IsWritten (subject_of p) offsets answer rects

-- such an answer, and the number of its rounds
pub record IsCorrection (p : Ready) (correction : Correction) : Type 0 where
  pub corrected : IsCorrected p correction.answer
  pub rounds : correction.rounds ≡ length corrected.rounds

-- the answer of `trial` for what is ready
pub record IsTried (n : ℕ) (p : Ready) (answer : Answer) : Type 0 where
  pub before : Answer
  pub corrected : IsCorrected p before
  pub mask : answer.mask ≡ before.mask
  pub table : answer.table ≡ before.table
  pub line : answer.line ≡ trial_line n (at_offsets (subject_of p) corrected.offsets) (length corrected.rounds) (length corrected.rects)

pub record IsMovedBy (p : Ready) (moves : List Move) (answer : Answer) : Type 0 where
  pub offsets : List ℤ
  pub answers : List Moved
  pub run : IsMovesRun (subject_of p) moves offsets answers
  pub rects : List Rect
  pub tabled : IsTabled (at_offsets (subject_of p) offsets) (move_lines moves answers) answer rects
  pub written : IsWritten (subject_of p) offsets answer rects

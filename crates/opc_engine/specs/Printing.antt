-- The mask of a run, and what is printed of it, for what is ready.
use Rattle.std.specs.Prelude.{◌≡◌, ◌≤◌, ℤ, List, All, length}
use Rattle.opc_base.specs.Plane.{IsRectWithin, cover}
use Rattle.opc_base.specs.declared.moves.RoundSummary.{RoundSummary}
use Rattle.opc_base.specs.declared.plane.Rect.{Rect}
use Rattle.opc_session.specs.Sessions.{mask_of}
use Rattle.opc_engine.specs.Checks.{IsFlawList, IsPrintFile, printed_at}
use Rattle.opc_engine.specs.declared.answer.Answer.{Answer}
use Rattle.opc_engine.specs.declared.ready.Ready.{Ready}
use Rattle.opc_engine.specs.Ready.{subject_of}
use Rattle.opc_engine.specs.Runs.{IsRun, at_offsets}

-- few rectangles of the mask of the offsets that a run leads to
pub record IsRunMask (p : Ready) (mask : List Rect) : Type 0 where
  pub offsets : List ℤ
  pub rounds : List RoundSummary
  pub run : IsRun (subject_of p) offsets rounds
  pub pixels : (x y : ℤ) → cover mask x y ≡ mask_of (at_offsets (subject_of p) offsets) x y
  pub few : length mask ≤ 65536
  pub within : All (IsRectWithin 1048128) mask

-- the answer of a check with this window
pub record IsChecked (p : Ready) (window : Rect) (answer : Answer) : Type 0 where
  pub offsets : List ℤ
  pub rounds : List RoundSummary
  pub run : IsRun (subject_of p) offsets rounds
  pub rects : List Rect
  pub printed : IsPrintFile (subject_of p) (printed_at (subject_of p) offsets window) answer rects
  pub listed : IsFlawList (subject_of p) (printed_at (subject_of p) offsets window) answer (length rects)

-- the answer with these canonical rectangles
pub record IsStored (p : Ready) (rects : List Rect) (answer : Answer) : Type 0 where
  pub printed : IsPrintFile (subject_of p) (cover rects) answer rects
  pub listed : IsFlawList (subject_of p) (cover rects) answer (length rects)

-- Answers with a mask file, after a run and after moves.
use Rattle.std.proofs.Common.{◌≡◌, ◌⊎◌, inl, inr, ℕ, List, length, refl, sym, subst, ap, ◌∙◌}
use Rattle.std.specs.Prelude.{Result, Ok, Err, IfOk}
use Rattle.opc_base.specs.declared.fault.NoMemory.{NoMemory}
use Rattle.opc_session.specs.Sessions.{SessionValue}
use Rattle.opc_base.specs.declared.moves.Move.{Move}
use Rattle.opc_base.specs.declared.moves.Moved.{Moved}
use Rattle.opc_engine.specs.Corrections.{Corrects, IsTabled, Moves, PreparesMoves, moves_result}
use Rattle.opc_engine.specs.Prepare.{Prepares, Subject}
use Rattle.opc_engine.specs.declared.fault.EngineFault.{EngineFault}
use Rattle.opc_engine.specs.declared.fault.EngineFault.TheVariants as engine
use Rattle.opc_engine.specs.ErrorTable.{move_lines, round_lines}
use Rattle.opc_engine.specs.Ready.{subject_of}
use Rattle.opc_engine.specs.Runs.{IsMovesRun, at_offsets}
use Rattle.opc_engine.specs.Standing.{HasRun, IsOver}
use Rattle.opc_engine.specs.Written.{IsCorrected, IsCorrection, IsMovedBy, IsWrittenFor}
use Rattle.opc_engine.specs.declared.answer.Answer.{Answer}
use Rattle.opc_engine.specs.declared.ready.Ready.{Ready}
use Rattle.opc_engine.proofs.StandingLaws.{over_is}

-- the table of a session over what is ready, by the session's offsets and with these lines
tabled : (p : Ready) (s : SessionValue) (between lines : List ℕ) (answer : Answer) (w : IsWrittenFor p s between answer) → IsOver p s → between ≡ lines
    → IsTabled (at_offsets (subject_of p) s.offsets) lines answer w.rects
tabled p s between lines answer w over is =
    subst (λ (l : List ℕ). IsTabled (at_offsets (subject_of p) s.offsets) l answer w.rects) is
    (subst (λ (t : SessionValue). IsTabled t between answer w.rects) (over_is p s over) w.tabled)

corrected : (p : Ready) (s : SessionValue) (lines between : List ℕ) (made : ℕ) (answer : Answer) → IsOver p s → HasRun p s lines made → between ≡ lines → IsWrittenFor p s between answer
    → IsCorrected p answer
corrected p s lines between made answer over run is w = record {
  offsets = s.offsets;
  rounds = run.summaries;
  run = run.run;
  rects = w.rects;
  tabled = tabled p s between (round_lines 1 run.summaries) answer w over (is ∙ run.text);
  written = w.written;
}

pub corrected_is : (p : Ready) (s : SessionValue) (lines between : List ℕ) (made : ℕ) (answer : Answer) → IsOver p s → HasRun p s lines made → between ≡ lines
    → IsWrittenFor p s between answer → IsCorrection p (record { answer = answer; rounds = made })
unfolding corrected
corrected_is p s lines between made answer over run is w = record { corrected = corrected p s lines between made answer over run is w; rounds = run.count }

pub corrects_is : (layout kernels rules : List ℕ) (p : Ready) (answer : Answer) → Prepares layout kernels rules (Ok (subject_of p)) → IsCorrected p answer → Corrects layout kernels rules answer
corrects_is layout kernels rules p answer accepted c = record {
  subject = subject_of p;
  accepted = accepted;
  offsets = c.offsets;
  rounds = c.rounds;
  run = c.run;
  rects = c.rects;
  tabled = c.tabled;
  written = c.written;
}

moved : (p : Ready) (moves : List Move) (answers : List Moved) (s : SessionValue) (between : List ℕ) (answer : Answer) → IsOver p s → IsMovesRun (subject_of p) moves s.offsets answers
    → between ≡ move_lines moves answers → IsWrittenFor p s between answer → IsMovedBy p moves answer
moved p moves answers s between answer over run is w = record {
  offsets = s.offsets;
  answers = answers;
  run = run;
  rects = w.rects;
  tabled = tabled p s between (move_lines moves answers) answer w over is;
  written = w.written;
}

pub moved_is : (p : Ready) (moves : List Move) (answers : List Moved) (s : SessionValue) (between : List ℕ) (result : Result Answer NoMemory) → IsOver p s
    → IsMovesRun (subject_of p) moves s.offsets answers → between ≡ move_lines moves answers → IfOk result (IsWrittenFor p s between) → IfOk result (IsMovedBy p moves)
moved_is p moves answers s between (Ok answer) over run is w = moved p moves answers s between answer over run is w
moved_is p moves answers s between (Err e) over run is w = tt

-- ---- the whole of `moves`
module _ (layout kernels rules moves : List ℕ) where
  pub at_moves : (s : Subject) (n : ℕ) → Prepares layout kernels rules (Ok s) → n ≡ length s.fragments → (f : EngineFault)
      → (f ≡ engine.NoMemory) ⊎ (moves_result moves n ≡ Err f) → (f ≡ engine.NoMemory) ⊎ PreparesMoves layout kernels rules moves (Err f)
  at_moves s n accepted count f (inl none) = inl none
  at_moves s n accepted count f (inr is) = inr (inr (s, (accepted, inl (f, (sym (ap (moves_result moves) (sym count) ∙ is), refl)))))

  pub moves_are : (p : Ready) (n : ℕ) (list lent : List Move) (answer : Answer) → Prepares layout kernels rules (Ok (subject_of p)) → n ≡ length p.fragments
      → moves_result moves n ≡ Ok list → lent ≡ list → IsMovedBy p lent answer → Moves layout kernels rules moves answer
  moves_are p n list lent answer accepted count is same made =
      let m = subst (λ (l : List Move). IsMovedBy p l answer) same made in
      record {
        subject = subject_of p;
        list = list;
        accepted = inr (subject_of p, (accepted, inr (list, (sym (ap (moves_result moves) (sym count) ∙ is), refl))));
        offsets = m.offsets;
        answers = m.answers;
        run = m.run;
        rects = m.rects;
        tabled = m.tabled;
        written = m.written;
      }

-- Corrections of a subject: rounds, a run of them, and moves by hand. They begin where no fragment has moved.
use Rattle.std.specs.Prelude.{◌≡◌, ◌⊎◌, ℕ, zero, suc, ◌+◌, ◌*◌, ◌≤◌, nat_le, ℤ, pos, unsigned_abs, Bool, true, false, ◌&&◌, List, [], ◌∷◌, ◌++◌, length, replicate}
use Rattle.opc_base.specs.declared.moves.Move.{Move}
use Rattle.opc_base.specs.declared.moves.Moved.{Moved}
use Rattle.opc_base.specs.declared.moves.RoundSummary.{RoundSummary}
use Rattle.opc_base.specs.declared.moves.Swept.{Swept}
use Rattle.opc_session.specs.Moves.{AreMoved}
use Rattle.opc_session.specs.Rounds.{Summarizes, TakeSteps}
use Rattle.opc_session.specs.Sessions.{SessionValue, error_at}
use Rattle.opc_engine.specs.Prepare.{Subject}

-- a subject whose fragments have these offsets
abbrev pub at_offsets : Subject → List ℤ → SessionValue
at_offsets s offsets = record { fragments = s.fragments; set = s.set; rules = s.rules; offsets = offsets }

-- no fragment has moved
abbrev pub unmoved : Subject → List ℤ
unmoved s = replicate (length s.fragments) (pos 0)

-- ---- when a run ends

-- the error of each fragment, as a run counts it
abbrev pub Counted : Type 0
Counted = SessionValue → ℕ → ℤ

-- each of the first n errors is at most 16 times `settle` and 8 sixteenths of a pixel
abbrev pub all_settled : ℕ → (ℕ → ℤ) → ℕ → Bool
all_settled settle error zero = true
all_settled settle error (suc n) = all_settled settle error n && nat_le (unsigned_abs (error n)) (16 * settle + 8)

-- the errors of the mask as it stands are settled
abbrev pub is_settled_by : Counted → SessionValue → Bool
is_settled_by error s = all_settled (unsigned_abs s.rules.run.settle) (error s) (length s.fragments)

abbrev pub is_settled : SessionValue → Bool
is_settled s = is_settled_by error_at s

-- ---- rounds

-- Each fragment in turn takes the legal step of its wish for its error at the start, on the offsets as they then are.
pub record IsRoundBy (error : Counted) (s : Subject) (old new : List ℤ) (summary : RoundSummary) : Type 0 where
  pub sweeps : List Swept
  pub taken : TakeSteps s.rules.mask s.rules.mover s.fragments (error (at_offsets s old)) old (length s.fragments) new sweeps
  pub summary_is : Summarizes (error (at_offsets s old)) (length s.fragments) old new summary

-- n rounds, each of which begins where the errors aren't settled
abbrev pub AreRoundsBy : Counted → Subject → ℕ → List ℤ → List RoundSummary → Type 0
AreRoundsBy error s zero offsets summaries = (offsets ≡ unmoved s) × (summaries ≡ [])
AreRoundsBy error s (suc n) offsets summaries =
    (before : List ℤ) × (earlier : List RoundSummary) × (last : RoundSummary) × AreRoundsBy error s n before earlier
    × (is_settled_by error (at_offsets s before) ≡ false) × IsRoundBy error s before offsets last × (summaries ≡ earlier ++ last ∷ [])

-- A run makes rounds until the errors are settled, or `rounds` of them were made.
pub record IsRunBy (error : Counted) (s : Subject) (offsets : List ℤ) (summaries : List RoundSummary) : Type 0 where
  pub made : ℕ
  pub rounds : AreRoundsBy error s made offsets summaries
  pub most : made ≤ s.rules.run.rounds
  pub stopped : (is_settled_by error (at_offsets s offsets) ≡ true) ⊎ (made ≡ s.rules.run.rounds)

-- rounds and a run in which each fragment has the error of the mask as it stands
abbrev pub IsRound : Subject → List ℤ → List ℤ → RoundSummary → Type 0
IsRound s old new summary = IsRoundBy error_at s old new summary

abbrev pub AreRounds : Subject → ℕ → List ℤ → List RoundSummary → Type 0
AreRounds s n offsets summaries = AreRoundsBy error_at s n offsets summaries

abbrev pub IsRun : Subject → List ℤ → List RoundSummary → Type 0
IsRun s offsets summaries = IsRunBy error_at s offsets summaries

-- ---- moves by hand

-- Each move of the list in turn is done or refused.
pub record IsMovesRun (s : Subject) (moves : List Move) (offsets : List ℤ) (answers : List Moved) : Type 0 where
  pub one_each : length answers ≡ length moves
  pub sweeps : List Swept
  pub moved : AreMoved s.rules.mask s.fragments moves answers (unmoved s) (length moves) offsets sweeps

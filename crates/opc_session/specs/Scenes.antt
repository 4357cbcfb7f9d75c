-- What holds while moves are made.
use Rattle.std.specs.Prelude.{◌≡◌, ℕ, ◌+◌, ◌<◌, ◌≤◌, unsigned_abs, ℤ, List, [], ◌∷◌, ◌++◌, length, All, Option, None, Some}
use Rattle.opc_base.specs.Plane.{PixelSet}
use Rattle.opc_base.specs.declared.kernels.KernelSet.{KernelSet}
use Rattle.opc_base.specs.declared.moves.Swept.{Swept}
use Rattle.outline_model.specs.declared.fragment.Fragment.{Fragment}
use Rattle.outline_model.specs.Outline.{fragment_at, lines, mask}
use Rattle.opc_parallel.specs.Conditions.{IsSweepable}
use Rattle.opc_parallel.specs.Stored.{Setting}
use Rattle.opc_base.specs.declared.moves.Move.{Move}
use Rattle.opc_base.specs.declared.moves.Moved.{Moved}
use Rattle.opc_session.specs.Moves.{AreMoved}
use Rattle.opc_base.specs.declared.moves.RoundSummary.{RoundSummary}
use Rattle.opc_session.specs.Errors.{error_under}
use Rattle.opc_session.specs.Kept.{Parts}
use Rattle.opc_session.specs.Rounds.{Summarizes, TakeSteps, TakesStep, changes}
use Rattle.opc_session.specs.Sessions.{pairs}
use Rattle.opc_session.specs.Stores.{HoldAmplitudes, LeadFrom}

-- the sums are the amplitudes of some mask
pub record HoldsSome (s : Setting) (sums : List ℤ) : Type 0 where
  pub pixels : PixelSet
  pub holds : HoldAmplitudes s pixels sums

-- the sweeps lead from the mask of some offsets to that of others, and each of them can be added
pub record AreSweeps (fs : List Fragment) (set : KernelSet) (old new : List ℤ) (sweeps : List Swept) : Type 0 where
  pub sweepable : All IsSweepable sweeps
  pub lead : LeadFrom set sweeps (mask fs (lines fs old)) (mask fs (lines fs new))

-- the sweep that was found, if there is one
abbrev pub listed : Option Swept → List Swept
listed None = []
listed (Some s) = s ∷ []

-- a fragment has taken its step, and the sweeps that are kept have what it sweeps at their end
pub record StepTaken (p : Parts) (error : ℤ) (i : ℕ) (old new : List ℤ) (before after : List Swept) : Type 0 where
  pub sweeps : List Swept
  pub taken : TakesStep p.rules.mask p.rules.mover p.fragments error i old new sweeps
  pub are : AreSweeps p.fragments p.set old new sweeps
  pub kept : after ≡ before ++ sweeps

-- each fragment in turn took the legal step of its wish for its error: so many moved, at so many steps
pub record StepsMade (p : Parts) (error : ℕ → ℤ) (old new : List ℤ) (moved before after : ℕ) : Type 0 where
  pub sweeps : List Swept
  pub taken : TakeSteps p.rules.mask p.rules.mover p.fragments error old (length p.fragments) new sweeps
  pub count : moved ≡ changes old new (length p.fragments)
  pub cost : after ≡ before + pairs p.tiling sweeps

-- a round was made, at so many steps
pub record RoundMade (p : Parts) (old new : List ℤ) (summary : RoundSummary) (before after : ℕ) : Type 0 where
  pub sweeps : List Swept
  pub taken : TakeSteps p.rules.mask p.rules.mover p.fragments (λ i. error_under p.set p.rules.site (fragment_at p.fragments i) (mask p.fragments (lines p.fragments old))) old (length p.fragments) new sweeps
  pub summary_is : Summarizes (λ i. error_under p.set p.rules.site (fragment_at p.fragments i) (mask p.fragments (lines p.fragments old))) (length p.fragments) old new summary
  pub cost : after ≡ before + pairs p.tiling sweeps

-- ---- lists of moves

-- a move of one of so many fragments, by a number that a moves file can give
pub record IsAllowed (count : ℕ) (move : Move) : Type 0 where
  pub fragment : move.fragment < count
  pub delta : unsigned_abs move.delta ≤ 999999999

-- the first n moves were made, at so many steps
pub record ListMade (p : Parts) (moves : List Move) (answers : List Moved) (old : List ℤ) (n : ℕ) (new : List ℤ) (before after : ℕ) : Type 0 where
  pub sweeps : List Swept
  pub moved : AreMoved p.rules.mask p.fragments moves answers old n new sweeps
  pub cost : after ≡ before + pairs p.tiling sweeps

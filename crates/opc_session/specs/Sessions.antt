-- A session as contracts see it: a target's fragments under a set of kernels and rules, and how far each has moved.
use Rattle.std.specs.Prelude.{◌≡◌, ℕ, ◌+◌, ◌*◌, ◌≤◌, ℤ, pos, ◌+ℤ◌, unsigned_abs, List, length, sum_by}
use Rattle.opc_base.specs.Plane.{PixelSet}
use Rattle.opc_base.specs.declared.kernels.KernelSet.{KernelSet}
use Rattle.opc_base.specs.declared.moves.Move.{Move}
use Rattle.opc_base.specs.declared.moves.Moved.{Moved}
use Rattle.opc_base.specs.declared.moves.RoundSummary.{RoundSummary}
use Rattle.opc_base.specs.declared.moves.Swept.{Swept}
use Rattle.opc_base.specs.declared.rules.Rules.{Rules}
use Rattle.outline_model.specs.declared.fragment.Fragment.{Fragment}
use Rattle.outline_model.specs.Outline.{fragment_at, lines, mask}
use Rattle.tiles.specs.Meets.{touched_tiles}
use Rattle.tiles.specs.Tiles.{IsTilingOf, Tiling, fragments_of}
use Rattle.opc_session.specs.Errors.{error_under}
use Rattle.opc_session.specs.Moves.{AreMoved, IsMoved, sweeps_made}
use Rattle.opc_session.specs.Rounds.{Summarizes, TakeSteps, changes}

pub record SessionValue : Type 0 where
  pub fragments : List Fragment
  pub set : KernelSet
  pub rules : Rules
  pub offsets : List ℤ

-- the mask as it stands
abbrev pub mask_of : SessionValue → PixelSet
mask_of s = mask s.fragments (lines s.fragments s.offsets)

-- how many samples a fragment has to a side
abbrev pub samples_of : SessionValue → ℕ
samples_of s = unsigned_abs s.rules.site.samples

-- the edge error of a fragment under the mask as it stands
abbrev pub error_at : SessionValue → ℕ → ℤ
error_at s i = error_under s.set s.rules.site (fragment_at s.fragments i) (mask_of s)

-- the offsets alone may differ
pub record IsSameBut (old new : SessionValue) : Type 0 where
  pub fragments : new.fragments ≡ old.fragments
  pub set : new.set ≡ old.set
  pub rules : new.rules ≡ old.rules

-- ---- the tiles that a sweep reaches

-- the tiles of these fragments, of the rules' side, which see as far as a kernel does from the outermost sample
abbrev pub IsTilingFor : SessionValue → Tiling → Type 0
IsTilingFor s tiling = IsTilingOf s.fragments s.rules.run.tile (pos s.set.reach +ℤ s.rules.site.samples) tiling

-- how many pairs there are of a sweep and a tile that it reaches
abbrev pub pairs : Tiling → List Swept → ℕ
pairs tiling sweeps = sum_by (λ one. length (touched_tiles tiling one.rect)) sweeps

-- how many fragments stand in a tile that one of the sweeps reaches
abbrev pub reached : Tiling → List Swept → ℕ
reached tiling sweeps = sum_by (λ one. sum_by (λ k. length (fragments_of tiling k)) (touched_tiles tiling one.rect)) sweeps

-- ---- moves, a list of them, and a round

-- one move, and at most so many steps for each fragment in a tile that its sweep reaches
pub record MakesMove (old new : SessionValue) (move : Move) (answer : Moved) (before after : ℕ) : Type 0 where
  pub same : IsSameBut old new
  pub moved : IsMoved old.rules.mask old.fragments old.offsets move answer new.offsets
  pub tiling : Tiling
  pub tiles : IsTilingFor old tiling
  pub cost : after ≤ before + 8 * samples_of old * reached tiling (sweeps_made old.fragments old.offsets move answer)

-- the moves of a list in turn, and a step at most for each pair of what one sweeps and a tile that it reaches
pub record MakesMoves (old new : SessionValue) (moves : List Move) (answers : List Moved) (before after : ℕ) : Type 0 where
  pub same : IsSameBut old new
  pub sweeps : List Swept
  pub tiling : Tiling
  pub moved : AreMoved old.rules.mask old.fragments moves answers old.offsets (length moves) new.offsets sweeps
  pub tiles : IsTilingFor old tiling
  pub cost : after ≤ before + pairs tiling sweeps

-- each fragment in turn takes the legal step of its wish for an error that is given, and so few steps as well; so many move
pub record MakesSteps (old new : SessionValue) (error : ℕ → ℤ) (moved before after : ℕ) : Type 0 where
  pub same : IsSameBut old new
  pub sweeps : List Swept
  pub tiling : Tiling
  pub taken : TakeSteps old.rules.mask old.rules.mover old.fragments error old.offsets (length old.fragments) new.offsets sweeps
  pub count : moved ≡ changes old.offsets new.offsets (length old.fragments)
  pub tiles : IsTilingFor old tiling
  pub cost : after ≤ before + pairs tiling sweeps

-- each fragment in turn takes the legal step of its wish for the error at the start, and so few steps as well
pub record MakesRound (old new : SessionValue) (summary : RoundSummary) (before after : ℕ) : Type 0 where
  pub same : IsSameBut old new
  pub sweeps : List Swept
  pub tiling : Tiling
  pub taken : TakeSteps old.rules.mask old.rules.mover old.fragments (error_at old) old.offsets (length old.fragments) new.offsets sweeps
  pub summary_is : Summarizes (error_at old) (length old.fragments) old.offsets new.offsets summary
  pub tiles : IsTilingFor old tiling
  pub cost : after ≤ before + pairs tiling sweeps

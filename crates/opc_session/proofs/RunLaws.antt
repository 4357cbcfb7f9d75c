-- The sides of tiles and the workers change nothing of what a list of moves or a round gives.
use Rattle.std.proofs.Common.{◌≡◌, ℕ, ℤ, List, length, sym, ap, ◌∙◌, subst}
use Rattle.opc_base.specs.declared.kernels.KernelSet.{KernelSet}
use Rattle.opc_base.specs.declared.moves.Move.{Move}
use Rattle.opc_base.specs.declared.moves.Moved.{Moved}
use Rattle.opc_base.specs.declared.moves.RoundSummary.{RoundSummary}
use Rattle.opc_base.specs.declared.moves.Swept.{Swept}
use Rattle.opc_base.specs.declared.rules.MaskRules.{MaskRules}
use Rattle.opc_base.specs.declared.rules.MoveRules.{MoveRules}
use Rattle.opc_base.specs.declared.rules.SiteRules.{SiteRules}
use Rattle.outline_model.specs.declared.fragment.Fragment.{Fragment}
use Rattle.outline_model.specs.Outline.{fragment_at, lines, mask}
use Rattle.opc_session.specs.Errors.{error_under}
use Rattle.opc_session.specs.Moves.{AreMoved}
use Rattle.opc_session.specs.Rounds.{Summarizes, TakeSteps}
use Rattle.opc_session.specs.Runs.{AreAlikeButRun}
use Rattle.opc_session.specs.Sessions.{IsSameBut, MakesMoves, MakesRound, SessionValue, error_at}
use Rattle.opc_session.proofs.UniqueLaws.{AreMoved-unique, Summarizes-unique, TakeSteps-unique, answers-unique}

abbrev errors : KernelSet → SiteRules → List Fragment → List ℤ → ℕ → ℤ
errors set site fs offsets i = error_under set site (fragment_at fs i) (mask fs (lines fs offsets))

alike_after : (old new other next : SessionValue) → AreAlikeButRun old other → IsSameBut old new → IsSameBut other next → new.offsets ≡ next.offsets → AreAlikeButRun new next
alike_after old new other next alike first second offsets = record {
  fragments = first.fragments ∙ alike.fragments ∙ sym second.fragments;
  set = first.set ∙ alike.set ∙ sym second.set;
  site = ap (λ r. r.site) first.rules ∙ alike.site ∙ sym (ap (λ r. r.site) second.rules);
  mask = ap (λ r. r.mask) first.rules ∙ alike.mask ∙ sym (ap (λ r. r.mask) second.rules);
  mover = ap (λ r. r.mover) first.rules ∙ alike.mover ∙ sym (ap (λ r. r.mover) second.rules);
  offsets = offsets;
}

-- their errors are the same
pub errors_of_any_run : (s t : SessionValue) (i : ℕ) → AreAlikeButRun s t → error_at s i ≡ error_at t i
errors_of_any_run s t i alike =
    ap (λ (set : KernelSet). errors set s.rules.site s.fragments s.offsets i) alike.set
    ∙ ap (λ (site : SiteRules). errors t.set site s.fragments s.offsets i) alike.site
    ∙ ap (λ (fs : List Fragment). errors t.set t.rules.site fs s.offsets i) alike.fragments
    ∙ ap (λ (offsets : List ℤ). errors t.set t.rules.site t.fragments offsets i) alike.offsets

-- a list of moves gives the same answers and offsets
pub moves_of_any_run : (old new other next : SessionValue) (moves : List Move) (answers others : List Moved) (before after from to : ℕ) →
    length answers ≡ length moves → length others ≡ length moves → AreAlikeButRun old other →
    MakesMoves old new moves answers before after → MakesMoves other next moves others from to → (answers ≡ others) × AreAlikeButRun new next
moves_of_any_run old new other next moves answers others before after from to count other_count alike first second =
    let by_mask = subst (λ (rules : MaskRules). AreMoved rules other.fragments moves others other.offsets (length moves) next.offsets second.sweeps) (sym alike.mask) second.moved in
    let by_fragments = subst (λ (fs : List Fragment). AreMoved old.rules.mask fs moves others other.offsets (length moves) next.offsets second.sweeps) (sym alike.fragments) by_mask in
    let by_offsets = subst (λ (xs : List ℤ). AreMoved old.rules.mask old.fragments moves others xs (length moves) next.offsets second.sweeps) (sym alike.offsets) by_fragments in
    let same = AreMoved-unique old.rules.mask old.fragments moves answers others old.offsets (length moves) new.offsets next.offsets first.sweeps second.sweeps first.moved by_offsets in
    (answers-unique answers others (length moves) count other_count same.0, alike_after old new other next alike first.same second.same same.1)

abbrev Steps : MaskRules → MoveRules → KernelSet → SiteRules → List Fragment → List ℤ → List ℤ → List Swept → Type 0
Steps rules mover set site fs offsets new sweeps = TakeSteps rules mover fs (errors set site fs offsets) offsets (length fs) new sweeps

abbrev Sums : KernelSet → SiteRules → List Fragment → List ℤ → List ℤ → RoundSummary → Type 0
Sums set site fs offsets new summary = Summarizes (errors set site fs offsets) (length fs) offsets new summary

-- a round gives the same summary and offsets
pub round_of_any_run : (old new other next : SessionValue) (a b : RoundSummary) (before after from to : ℕ) → AreAlikeButRun old other →
    MakesRound old new a before after → MakesRound other next b from to → (a ≡ b) × AreAlikeButRun new next
round_of_any_run old new other next a b before after from to alike first second =
    let steps_1 = subst (λ (rules : MaskRules). Steps rules other.rules.mover other.set other.rules.site other.fragments other.offsets next.offsets second.sweeps) (sym alike.mask) second.taken in
    let steps_2 = subst (λ (mover : MoveRules). Steps old.rules.mask mover other.set other.rules.site other.fragments other.offsets next.offsets second.sweeps) (sym alike.mover) steps_1 in
    let steps_3 = subst (λ (set : KernelSet). Steps old.rules.mask old.rules.mover set other.rules.site other.fragments other.offsets next.offsets second.sweeps) (sym alike.set) steps_2 in
    let steps_4 = subst (λ (site : SiteRules). Steps old.rules.mask old.rules.mover old.set site other.fragments other.offsets next.offsets second.sweeps) (sym alike.site) steps_3 in
    let steps_5 = subst (λ (fs : List Fragment). Steps old.rules.mask old.rules.mover old.set old.rules.site fs other.offsets next.offsets second.sweeps) (sym alike.fragments) steps_4 in
    let steps_6 = subst (λ (xs : List ℤ). Steps old.rules.mask old.rules.mover old.set old.rules.site old.fragments xs next.offsets second.sweeps) (sym alike.offsets) steps_5 in
    let same = TakeSteps-unique old.rules.mask old.rules.mover old.fragments (error_at old) old.offsets (length old.fragments) new.offsets next.offsets first.sweeps second.sweeps first.taken steps_6 in
    let sums_1 = subst (λ (set : KernelSet). Sums set other.rules.site other.fragments other.offsets next.offsets b) (sym alike.set) second.summary_is in
    let sums_2 = subst (λ (site : SiteRules). Sums old.set site other.fragments other.offsets next.offsets b) (sym alike.site) sums_1 in
    let sums_3 = subst (λ (fs : List Fragment). Sums old.set old.rules.site fs other.offsets next.offsets b) (sym alike.fragments) sums_2 in
    let sums_4 = subst (λ (xs : List ℤ). Sums old.set old.rules.site old.fragments xs next.offsets b) (sym alike.offsets) sums_3 in
    let sums_5 = subst (λ (xs : List ℤ). Sums old.set old.rules.site old.fragments old.offsets xs b) (sym same.0) sums_4 in
    (Summarizes-unique (error_at old) (length old.fragments) old.offsets new.offsets a b first.summary_is sums_5, alike_after old new other next alike first.same second.same same.0)

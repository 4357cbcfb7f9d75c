-- What `trial` answers, and that it is one answer.
use Rattle.std.proofs.Common.{◌≡◌, ◌⊎◌, inl, inr, ℕ, ◌≤◌, ◌++◌, ℤ, List, length, refl, ap, sym, ◌∙◌, subst, arith}
use Rattle.std.specs.Prelude.{Result, Ok, Err, drop}
use Rattle.opc_base.proofs.CanonicalIsUnique.{canonical_is_unique}
use Rattle.opc_base.specs.Canonical.{IsCanonical}
use Rattle.opc_base.specs.declared.moves.RoundSummary.{RoundSummary}
use Rattle.opc_base.specs.declared.plane.Rect.{Rect}
use Rattle.opc_session.specs.Sessions.{SessionValue, mask_of}
use Rattle.opc_engine.specs.declared.answer.Answer.{Answer}
use Rattle.opc_engine.specs.declared.fault.EngineFault.{EngineFault}
use Rattle.opc_engine.specs.declared.fault.EngineFault.TheVariants as engine
use Rattle.opc_engine.specs.declared.ready.Ready.{Ready}
use Rattle.opc_engine.specs.ErrorTable.{last_line}
use Rattle.opc_engine.specs.Prepare.{Prepares, Subject}
use Rattle.opc_engine.specs.Ready.{subject_of}
use Rattle.opc_engine.specs.Runs.{IsRun, at_offsets}
use Rattle.opc_engine.specs.Stages.{IsOne}
use Rattle.opc_engine.specs.Trial.{TrialGives, Tries, trial_line, trial_start}
use Rattle.opc_engine.specs.TrialInput.{trial_kernels, trial_layout, trial_rules}
use Rattle.opc_engine.specs.Written.{IsCorrected, IsTried}
use Rattle.opc_engine.proofs.CorrectionLaws.{answer_one, prepares_one, refusals_are_one, subject_one}
use Rattle.opc_engine.proofs.MaskLaws.{corrections_agree}
use Rattle.opc_engine.proofs.RunLaws.{run_one}
use Rattle.opc_engine.proofs.StageLaws.{not_fault}

-- the line of `trial` is made of the table's last line
pub line_is : (n : ℕ) (s : SessionValue) (fragments rounds made rectangles : ℕ) (last line : List ℕ) → last ≡ last_line s rectangles → fragments ≡ length s.fragments → rounds ≡ made
    → line ≡ trial_start n fragments rounds ++ drop 4 last → line ≡ trial_line n s made rectangles
unfolding trial_line last_line
line_is n s fragments rounds made rectangles last line is count all text = text ∙ rw (is, count, all) refl

pub last_is_long : (s : SessionValue) (rectangles : ℕ) (last : List ℕ) → last ≡ last_line s rectangles → 4 ≤ length last
unfolding last_line
last_is_long s rectangles last is = rw is (omega arith)

pub tried_is : (n : ℕ) (p : Ready) (before answer : Answer) (rounds fragments : ℕ) (c : IsCorrected p before) → rounds ≡ length c.rounds → fragments ≡ length p.fragments
    → answer.mask ≡ before.mask → answer.table ≡ before.table → answer.line ≡ trial_start n fragments rounds ++ drop 4 before.line → IsTried n p answer
tried_is n p before answer rounds fragments c all count mask table line = record {
  before = before;
  corrected = c;
  mask = mask;
  table = table;
  line = line_is n (at_offsets (subject_of p) c.offsets) fragments rounds (length c.rounds) (length c.rects) before.line answer.line c.tabled.line count all line;
}

pub tries_is : (n : ℕ) (p : Ready) (answer : Answer) → Prepares (trial_layout n) trial_kernels trial_rules (Ok (subject_of p)) → IsTried n p answer → Tries n answer
tries_is n p answer accepted t = record {
  corrected = t.before;
  corrects = record {
    subject = subject_of p;
    accepted = accepted;
    offsets = t.corrected.offsets;
    rounds = t.corrected.rounds;
    run = t.corrected.run;
    rects = t.corrected.rects;
    tabled = t.corrected.tabled;
    written = t.corrected.written;
  };
  mask = t.mask;
  table = t.table;
  line = t.line;
}

-- files that are those of `trial`
pub prepares_trial : (n : ℕ) (layout kernels rules : List ℕ) (p : Result Subject EngineFault) → layout ≡ trial_layout n → kernels ≡ trial_kernels → rules ≡ trial_rules
    → Prepares layout kernels rules p → Prepares (trial_layout n) trial_kernels trial_rules p
prepares_trial n layout kernels rules p l k r h =
    subst (λ a. Prepares (trial_layout n) trial_kernels a p) r (subst (λ a. Prepares (trial_layout n) a rules p) k (subst (λ a. Prepares a kernels rules p) l h))

pub ends_trial : (n : ℕ) (layout kernels rules : List ℕ) (f : EngineFault) → layout ≡ trial_layout n → kernels ≡ trial_kernels → rules ≡ trial_rules
    → (f ≡ engine.NoMemory) ⊎ Prepares layout kernels rules (Err f) → (f ≡ engine.NoMemory) ⊎ Prepares (trial_layout n) trial_kernels trial_rules (Err f)
ends_trial n layout kernels rules f l k r (inl none) = inl none
ends_trial n layout kernels rules f l k r (inr is) = inr (prepares_trial n layout kernels rules (Err f) l k r is)

-- ---- one answer
module _ (n : ℕ) where
  tries_agree : (a b : Answer) → Tries n a → Tries n b → a ≡ b
  tries_agree a b t u =
      let x = t.corrects in
      let y = u.corrects in
      let same = subject_one (trial_layout n) trial_kernels trial_rules x.subject y.subject x.accepted y.accepted in
      let P : Subject → Type 0 = λ s. IsRun s x.offsets x.rounds × IsCanonical (mask_of (at_offsets s x.offsets)) x.rects × (a.line ≡ trial_line n (at_offsets s x.offsets) (length x.rounds) (length x.rects)) in
      let there = subst P same (x.run, x.tabled.canonical, t.line) in
      let one = run_one y.subject x.offsets y.offsets x.rounds y.rounds there.0 y.run in
      let Q : List ℤ → Type 0 = λ o. IsCanonical (mask_of (at_offsets y.subject o)) x.rects in
      let rects = canonical_is_unique (mask_of (at_offsets y.subject y.offsets)) x.rects y.rects (subst Q one.0 there.1) y.tabled.canonical in
      let corrected = corrections_agree (trial_layout n) trial_kernels trial_rules t.corrected u.corrected x y in
      answer_one a b (t.mask ∙ ap (λ (c : Answer). c.mask) corrected ∙ sym u.mask) (t.table ∙ ap (λ (c : Answer). c.table) corrected ∙ sym u.table)
      (there.2 ∙ ap (λ o. trial_line n (at_offsets y.subject o) (length x.rounds) (length x.rects)) one.0
      ∙ ap (λ (rounds : List RoundSummary). trial_line n (at_offsets y.subject y.offsets) (length rounds) (length x.rects)) one.1
      ∙ ap (λ (r : List Rect). trial_line n (at_offsets y.subject y.offsets) (length y.rounds) (length r)) rects ∙ sym u.line)

  no_trial : (f : EngineFault) (a : Answer) → Prepares (trial_layout n) trial_kernels trial_rules (Err f) → Tries n a → ⊥
  no_trial f a x t = not_fault f t.corrects.subject (prepares_one (trial_layout n) trial_kernels trial_rules (Err f) (Ok t.corrects.subject) x t.corrects.accepted)

  pub trials_are_one : IsOne (TrialGives n)
  trials_are_one (Ok a) (Ok b) x y = ap Ok (tries_agree a b x y)
  trials_are_one (Ok a) (Err g) x y = absurd (no_trial g a y x)
  trials_are_one (Err f) (Ok b) x y = absurd (no_trial f b x y)
  trials_are_one (Err f) (Err g) x y = ap Err (refusals_are_one (trial_layout n) trial_kernels trial_rules f g x y)

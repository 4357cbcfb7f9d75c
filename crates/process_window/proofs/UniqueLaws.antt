-- A run is determined by what it begins with.
use Rattle.std.proofs.Common.{◌≡◌, ◌↔◌, ◌⊎◌, ℕ, suc, ◌+◌, ◌≤◌, ℤ, pos, Bool, true, false, IsTrue, List, [], ◌∷◌, ◌++◌, length, replicate, refl, sym, subst, ap, ap₂, ◌∙◌, inl, inr, arith}
use Rattle.error_table.specs.Table.{end_line}
use Rattle.opc_base.specs.declared.moves.RoundSummary.{RoundSummary}
use Rattle.opc_base.specs.declared.moves.Totals.{Totals}
use Rattle.opc_base.specs.declared.plane.Rect.{Rect}
use Rattle.opc_base.specs.declared.rules.Rules.{Rules}
use Rattle.opc_base.proofs.CanonicalIsUnique.{canonical_is_unique}
use Rattle.outline_model.specs.Outline.{lines, mask}
use Rattle.outline_model.specs.declared.fragment.Fragment.{Fragment}
use Rattle.opc_session.specs.Rounds.{Summarizes}
use Rattle.opc_session.proofs.UniqueLaws.{Summarizes-unique, TakeSteps-unique}
use Rattle.process_window.specs.Outcomes.{IsLastLine, IsOutcome, IsOutcomeOf}
use Rattle.process_window.specs.WindowTable.{window_lines}
use Rattle.process_window.specs.Windows.{WindowValue, all_errors, joint_errors}
use Rattle.process_window.specs.declared.condition.Condition.{Condition}
use Rattle.process_window.specs.declared.outcome.Outcome.{Outcome}
use Rattle.process_window.specs.Runs.{AreRounds, AreSettled, Errors, IsRound, IsRun}

-- ---- rounds
pub round_unique : (rules : Rules) (fs : List Fragment) (errors : Errors) (old new after : List ℤ) (s t : RoundSummary) →
    IsRound rules fs errors old new s → IsRound rules fs errors old after t → (new ≡ after) × (s ≡ t)
round_unique rules fs errors old new after s t first second =
    let same = (TakeSteps-unique rules.mask rules.mover fs (errors old) old (length fs) new after first.sweeps second.sweeps first.taken second.taken).0 in
    (same, Summarizes-unique (errors old) (length fs) old after s t (subst (λ (xs : List ℤ). Summarizes (errors old) (length fs) old xs s) same first.summary_is) second.summary_is)

-- where a run has stopped, no other goes on
no_more : (rules : Rules) (fs : List Fragment) (errors : Errors) (made : ℕ) (old new : List ℤ) (more : List RoundSummary) → new ≡ old →
    AreSettled rules.run (errors new) (length fs) ⊎ (made ≡ rules.run.rounds) → ¬ AreSettled rules.run (errors old) (length fs) → suc (length more) + made ≤ rules.run.rounds → ⊥
no_more rules fs errors made old new more same (inl settled) unsettled few =
    unsettled (subst (λ (xs : List ℤ). AreSettled rules.run (errors xs) (length fs)) same settled)
no_more rules fs errors made old new more same (inr full) unsettled few = omega (arith, few, full)

rounds_unique : (rules : Rules) (fs : List Fragment) (errors : Errors) (made : ℕ) (old : List ℤ) (rs ss : List RoundSummary) (new after : List ℤ) →
    AreRounds rules fs errors old rs new → length rs + made ≤ rules.run.rounds → AreSettled rules.run (errors new) (length fs) ⊎ (length rs + made ≡ rules.run.rounds) →
    AreRounds rules fs errors old ss after → length ss + made ≤ rules.run.rounds → AreSettled rules.run (errors after) (length fs) ⊎ (length ss + made ≡ rules.run.rounds) →
    (rs ≡ ss) × (new ≡ after)
rounds_unique rules fs errors made old [] [] new after first few stops second few_too stops_too = (refl, first ∙ sym second)
rounds_unique rules fs errors made old [] (s ∷ ss) new after first few stops second few_too stops_too =
    absurd (no_more rules fs errors (0 + made) old new ss first stops second.1 (omega (arith, few_too)))
rounds_unique rules fs errors made old (s ∷ rs) [] new after first few stops second few_too stops_too =
    absurd (no_more rules fs errors (0 + made) old after rs second stops_too first.1 (omega (arith, few)))
rounds_unique rules fs errors made old (s ∷ rs) (t ∷ ss) new after first few stops second few_too stops_too =
    let one = round_unique rules fs errors old first.0 second.0 s t first.2 second.2 in
    let rest = rounds_unique rules fs errors (made + 1) second.0 rs ss new after
    (subst (λ (xs : List ℤ). AreRounds rules fs errors xs rs new) one.0 first.3) (omega (arith, few)) (later rs new stops) second.3 (omega (arith, few_too)) (later ss after stops_too) in
    (ap₂ (λ (x : RoundSummary) (xs : List RoundSummary). x ∷ xs) one.1 rest.0, rest.1)
  where
    later : (xs : List RoundSummary) (at : List ℤ) → AreSettled rules.run (errors at) (length fs) ⊎ (suc (length xs) + made ≡ rules.run.rounds) →
        AreSettled rules.run (errors at) (length fs) ⊎ (length xs + (made + 1) ≡ rules.run.rounds)
    later xs at (inl settled) = inl settled
    later xs at (inr full) = inr (omega (arith, full))

pub run_unique : (rules : Rules) (fs : List Fragment) (errors : Errors) (old : List ℤ) (rs ss : List RoundSummary) (new after : List ℤ) →
    IsRun rules fs errors old rs new → IsRun rules fs errors old ss after → (rs ≡ ss) × (new ≡ after)
run_unique rules fs errors old rs ss new after first second =
    rounds_unique rules fs errors 0 old rs ss new after first.are (omega (arith, first.few)) (stop rs new first.stops) second.are (omega (arith, second.few)) (stop ss after second.stops)
  where
    stop : (xs : List RoundSummary) (at : List ℤ) → AreSettled rules.run (errors at) (length fs) ⊎ (length xs ≡ rules.run.rounds) →
        AreSettled rules.run (errors at) (length fs) ⊎ (length xs + 0 ≡ rules.run.rounds)
    stop xs at (inl settled) = inl settled
    stop xs at (inr full) = inr (omega (arith, full))

-- ---- the outcome
same_test : (s t : Bool) (P : Type 0) → (IsTrue s ↔ P) → (IsTrue t ↔ P) → s ≡ t
same_test true true P first second = refl
same_test false false P first second = refl
same_test true false P first second = sym (second.1 (first.0 refl))
same_test false true P first second = first.1 (second.0 refl)

last_line_unique : (w : WindowValue) (n : ℕ) (a b : List ℕ) → IsLastLine w n a → IsLastLine w n b → a ≡ b
last_line_unique w n a b first second =
    let worst : first.totals.worst ≡ second.totals.worst = first.totals_are.worst ∙ sym second.totals_are.worst in
    let total : first.totals.total ≡ second.totals.total = first.totals_are.total ∙ sym second.totals_are.total in
    let of : ℤ → ℤ → Totals = λ x y. record { worst = x; total = y } in
    let totals : first.totals ≡ second.totals = ap (λ x. of x first.totals.total) worst ∙ ap (of second.totals.worst) total in
    let settled = same_test first.settled second.settled _ first.settled_is second.settled_is in
    first.is ∙ ap (λ (x : Totals). end_line x first.settled n) totals ∙ ap (λ (x : Bool). end_line second.totals x n) settled ∙ sym second.is

outcome_of_unique : (w : WindowValue) (rounds : List RoundSummary) (o p : Outcome) → IsOutcomeOf w rounds o → IsOutcomeOf w rounds p → p ≡ o
outcome_of_unique w rounds o p first second =
    let masks : p.mask ≡ o.mask = canonical_is_unique (mask w.fragments (lines w.fragments w.offsets)) p.mask o.mask second.canonical first.canonical in
    let line : p.line ≡ o.line = last_line_unique w (length o.mask) p.line o.line (subst (λ n. IsLastLine w n p.line) (ap length masks) second.line) first.line in
    let table : p.table ≡ o.table = second.table ∙ ap (λ (xs : List ℕ). window_lines w.conditions rounds w.offsets (all_errors w) (length w.fragments) ++ xs) line ∙ sym first.table in
    let of : List Rect → List ℕ → List ℕ → Outcome = λ m t l. record { mask = m; table = t; line = l } in
    ap (λ (m : List Rect). of m p.table p.line) masks ∙ ap (λ (t : List ℕ). of o.mask t p.line) table ∙ ap (of o.mask o.table) line

pub outcome_unique : (fs : List Fragment) (rules : Rules) (cs : List Condition) (o p : Outcome) → IsOutcome fs rules cs o → IsOutcome fs rules cs p → p ≡ o
outcome_unique fs rules cs o p first second =
    let one = run_unique rules fs (joint_errors rules cs fs) (replicate (length fs) (pos 0)) second.rounds first.rounds second.offsets first.offsets second.run first.run in
    outcome_of_unique (record { fragments = fs; conditions = cs; rules = rules; offsets = first.offsets }) first.rounds o p first.outcome
    (subst (λ (xs : List RoundSummary). IsOutcomeOf (record { fragments = fs; conditions = cs; rules = rules; offsets = first.offsets }) xs p) one.0
    (subst (λ (xs : List ℤ). IsOutcomeOf (record { fragments = fs; conditions = cs; rules = rules; offsets = xs }) second.rounds p) one.1 second.outcome))

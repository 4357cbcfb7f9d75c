-- Runs in which only the fragments of the target move.
use Rattle.std.proofs.Common.{◌≡◌, inl, inr, ℕ, zero, suc, ◌+◌, ◌*◌, ◌<◌, ◌≤◌, ℤ, pos, neg_ℤ, ◌-ℤ◌, ◌≤ℤ◌, Bool, true, false, if◌then◌else◌, List, [], ◌∷◌, ◌++◌, length, get_or, get_or-set_other, unsigned_abs, add-one, refl, sym, ◌∙◌, ap, ap₂, subst, arith}
use Rattle.std.proofs.lemmas.Bool.Decides.{eqb_tells}
use Rattle.std.proofs.lemmas.Int.{ints}
use Rattle.mover.specs.Wish.{clamped, nearest, wanted, wish_of}
use Rattle.mover.proofs.WishLaws.{clamped_inward, clamped_outward, nearest_is}
use Rattle.error_table.specs.Table.{round_line}
use Rattle.opc_base.specs.declared.moves.RoundSummary.{RoundSummary}
use Rattle.opc_base.specs.declared.moves.Swept.{Swept}
use Rattle.opc_base.specs.declared.moves.Totals.{Totals}
use Rattle.opc_base.specs.declared.rules.MaskRules.{MaskRules}
use Rattle.opc_base.specs.declared.rules.MoveRules.{MoveRules}
use Rattle.opc_base.specs.Plane.{cover}
use Rattle.outline_model.specs.declared.fragment.Fragment.{Fragment}
use Rattle.outline_model.specs.Outline.{fragment_at}
use Rattle.outline_model.proofs.TargetMask.{get_or-zeros}
use Rattle.opc_session.specs.Errors.{greatest_size, sum_of_sizes}
use Rattle.opc_session.specs.Moves.{moved_by, offset_at, toward}
use Rattle.opc_session.specs.Rounds.{TakeSteps, TakesStep, changes}
use Rattle.opc_session.specs.Sessions.{MakesSteps, SessionValue, error_at}
use Rattle.opc_session.proofs.SweepLaws.{TakeSteps-same, greatest_size-same, moved_by-zero, sum_of_sizes-same, toward-zero}
use Rattle.assist_bars.specs.Bars.{is_own}
use Rattle.opc_engine.specs.declared.bar_prepare.BarPrepared.{BarPrepared}
use Rattle.opc_engine.specs.BarReady.{CanAssist, HasBarRounds, HasBarRun, OwnErrors, bar_subject_of}
use Rattle.opc_engine.specs.BarRuns.{AreStill, IsBarRun, own_error}
use Rattle.opc_engine.specs.BarStages.{BarSubject}
use Rattle.opc_engine.specs.BarTable.{totals_by}
use Rattle.opc_engine.specs.Prepare.{Subject}
use Rattle.opc_engine.specs.Runs.{AreRoundsBy, Counted, IsRoundBy, at_offsets, is_settled_by}
use Rattle.opc_engine.specs.Standing.{IsOver}
use Rattle.opc_engine.proofs.StandingLaws.{round_lines-more, rounds_by_count}

-- ---- a fragment without an error stays

nothing_near : (n lower : ℕ) → 0 < lower → 2 * (n * lower) < 2 * 0 + lower → n ≡ 0
nothing_near zero lower some below = refl
nothing_near (suc n) lower some below = absurd (omega (arith, below))

nearest_zero : (upper lower : ℕ) → upper ≡ 0 → 0 < lower → nearest upper lower ≡ 0
nearest_zero upper lower none some =
    let near = (nearest_is upper lower some).below in
    nothing_near (nearest upper lower) lower some (subst (λ n. 2 * (nearest upper lower * lower) < 2 * n + lower) none near)

no_wanted : (rules : MoveRules) → wanted (pos 0) rules ≡ pos 0
no_wanted rules =
    let low = rules.gain_den_in_range.0 in
    ap (λ n. neg_ℤ (pos n)) (nearest_zero (0 * unsigned_abs rules.gain_num) (16 * unsigned_abs rules.gain_den) (omega arith) (omega (arith, ints)))

least : (z : ℤ) → z ≤ℤ pos 0 → pos 0 ≤ℤ z → z ≡ pos 0
least z low high = omega (arith, ints)

clamped_zero : (low high n : ℤ) → n ≡ pos 0 → low ≤ℤ pos 0 → pos 0 ≤ℤ high → clamped low high n ≡ pos 0
clamped_zero low high n is a b =
    least (clamped low high n) (clamped_inward low high n a b (omega (arith, ints, is))) (clamped_outward low high n a b (omega (arith, ints, is)))

pub no_wish : (rules : MoveRules) → wish_of (pos 0) (pos 0) rules ≡ pos 0
no_wish rules =
    let in_low = rules.max_in_in_range.0 in let out_low = rules.max_out_in_range.0 in let step_low = rules.max_step_in_range.0 in
    clamped_zero (neg_ℤ rules.max_in -ℤ pos 0) (rules.max_out -ℤ pos 0) (clamped (neg_ℤ rules.max_step) rules.max_step (wanted (pos 0) rules))
    (clamped_zero (neg_ℤ rules.max_step) rules.max_step (wanted (pos 0) rules) (no_wanted rules) (omega (arith, ints)) (omega (arith, ints)))
    (omega (arith, ints)) (omega (arith, ints))

no_step : (mask : MaskRules) (mover : MoveRules) (fs : List Fragment) (error : ℤ) (i : ℕ) (old new : List ℤ) (sweeps : List Swept) → TakesStep mask mover fs error i old new sweeps
    → error ≡ pos 0 → offset_at old i ≡ pos 0 → new ≡ old
no_step mask mover fs error i old new sweeps step none still =
    let wish = wish_of error (offset_at old i) mover in
    let wish_is : wish_of error (offset_at old i) mover ≡ pos 0 = ap₂ (λ e o. wish_of e o mover) none still ∙ no_wish mover in
    let within = step.legal.within in
    let size : step.size ≡ 0 = omega (arith, within, ap unsigned_abs wish_is) in
    step.offsets ∙ ap (λ n. moved_by old i (toward wish n)) size ∙ ap (moved_by old i) (toward-zero wish) ∙ moved_by-zero old i

pub still_steps : (mask : MaskRules) (mover : MoveRules) (fs : List Fragment) (error : ℕ → ℤ) (old : List ℤ) (n : ℕ) (new : List ℤ) (sweeps : List Swept) → TakeSteps mask mover fs error old n new sweeps
    → (k : ℕ) → error k ≡ pos 0 → offset_at old k ≡ pos 0 → offset_at new k ≡ pos 0
still_steps mask mover fs error old zero new sweeps steps k none still = ap (λ o. offset_at o k) steps.0 ∙ still
still_steps mask mover fs error old (suc n) new sweeps (middle, before, more, steps, step, is) k none still =
    let earlier = still_steps mask mover fs error old n middle before steps k none still in
    elim (eqb_tells k n) [
      | inl w ↦ ap (λ o. offset_at o k) (no_step mask mover fs (error n) n middle new more step (subst (λ m. error m ≡ pos 0) w.1 none) (subst (λ m. offset_at middle m ≡ pos 0) w.1 earlier)) ∙ earlier
      | inr w ↦ ap (λ o. offset_at o k) step.offsets
          ∙ get_or-set_other middle n k _ (pos 0) w.1 ∙ earlier
    ]

still_rounds : (error : Counted) (s : Subject) (n : ℕ) (offsets : List ℤ) (summaries : List RoundSummary) → AreRoundsBy error s n offsets summaries
    → (k : ℕ) → ((o : List ℤ) → error (at_offsets s o) k ≡ pos 0) → offset_at offsets k ≡ pos 0
still_rounds error s zero offsets summaries rounds k none = ap (λ o. offset_at o k) rounds.0 ∙ get_or-zeros (length s.fragments) k
still_rounds error s (suc n) offsets summaries (before, earlier, last, rounds, unsettled, round, is) k none =
    still_steps s.rules.mask s.rules.mover s.fragments (error (at_offsets s before)) before (length s.fragments) offsets round.sweeps round.taken k (none before)
    (still_rounds error s n before earlier rounds k none)

-- no bar moves
pub bars_are_still : (b : BarSubject) (offsets : List ℤ) (rounds : List RoundSummary) → IsBarRun b offsets rounds → AreStill b offsets
bars_are_still b offsets rounds run i below other =
    still_rounds (own_error b.target) b.whole run.made offsets rounds run.rounds i
    (λ o. ap (λ t. if t then error_at (at_offsets b.whole o) i else pos 0) other)

-- ---- the errors that count

-- the error of a fragment as the code finds it
pub counted_is : (g : BarPrepared) (s : SessionValue) (i : ℕ) (flag : Bool) (e : ℤ) → CanAssist g → IsOver g.whole s → i < length s.fragments
    → e ≡ (if flag then error_at s i else pos 0) → flag ≡ get_or g.own.items i false → e ≡ own_error (cover g.target) s i
counted_is g s i flag e ready over below is flag_is =
    let here : i < length g.whole.fragments = subst (λ (fs : List Fragment). i < length fs) over.fragments below in
    let own : flag ≡ is_own (cover g.target) (fragment_at s.fragments i) =
    flag_is ∙ ready.own i here ∙ ap (λ (fs : List Fragment). is_own (cover g.target) (fragment_at fs i)) (sym over.fragments) in
    is ∙ ap (λ t. if t then error_at s i else pos 0) own

totals_are : (t u : Totals) → t.worst ≡ u.worst → t.total ≡ u.total → t ≡ u
totals_are t u p q = λ i. record { worst = p i; total = q i }

pub totals_from : (g : BarPrepared) (s : SessionValue) (errors : List ℤ) (t : Totals) → OwnErrors g s errors
    → t.worst ≡ pos (greatest_size (λ i. get_or errors i (pos 0)) (length errors)) → t.total ≡ pos (sum_of_sizes (λ i. get_or errors i (pos 0)) (length errors))
    → t ≡ totals_by (own_error (cover g.target)) s
totals_from g s errors t own worst total =
    totals_are t (totals_by (own_error (cover g.target)) s)
    (worst ∙ ap (λ n. pos (greatest_size (λ i. get_or errors i (pos 0)) n)) own.count ∙ ap pos (greatest_size-same _ _ (length s.fragments) own.each))
    (total ∙ ap (λ n. pos (sum_of_sizes (λ i. get_or errors i (pos 0)) n)) own.count ∙ ap pos (sum_of_sizes-same _ _ (length s.fragments) own.each))

-- ---- rounds of a session

module _ (g : BarPrepared) where
  pub bar_over_is : (s : SessionValue) → IsOver g.whole s → s ≡ at_offsets (bar_subject_of g).whole s.offsets
  bar_over_is s o = λ i. record { fragments = o.fragments i; set = o.set i; rules = o.rules i; offsets = s.offsets }

  pub over_steps : (old new : SessionValue) (error : ℕ → ℤ) (moved before after : ℕ) → IsOver g.whole old → MakesSteps old new error moved before after → IsOver g.whole new
  over_steps old new error moved before after over made = record {
    fragments = made.same.fragments ∙ over.fragments;
    set = made.same.set ∙ over.set;
    rules = made.same.rules ∙ over.rules;
  }

  -- the steps for the errors of the target's fragments make a round
  round_at : (old new : SessionValue) (errors : List ℤ) (totals : Totals) (moved before after : ℕ) → OwnErrors g old errors → totals ≡ totals_by (own_error (cover g.target)) old
      → MakesSteps old new (λ i. get_or errors i (pos 0)) moved before after
      → (sweeps : List Swept) × TakeSteps old.rules.mask old.rules.mover old.fragments (own_error (cover g.target) old) old.offsets (length old.fragments) new.offsets sweeps
  round_at old new errors totals moved before after own total made = (
    made.sweeps,
    TakeSteps-same old.rules.mask old.rules.mover old.fragments (λ i. get_or errors i (pos 0)) (own_error (cover g.target) old) old.offsets (length old.fragments) new.offsets made.sweeps own.each made.taken,
  )

  round_of : (old new : SessionValue) (errors : List ℤ) (totals : Totals) (moved before after : ℕ) → IsOver g.whole old → OwnErrors g old errors
      → totals ≡ totals_by (own_error (cover g.target)) old → MakesSteps old new (λ i. get_or errors i (pos 0)) moved before after
      → IsRoundBy (own_error (cover g.target)) (bar_subject_of g).whole old.offsets new.offsets (record { worst = totals.worst; total = totals.total; moved = moved })
  round_of old new errors totals moved before after over own total made =
      let taken = round_at old new errors totals moved before after own total made in
      let E : Counted = own_error (cover g.target) in
      let e = bar_over_is old over in
      record {
        sweeps = taken.0;
        taken = subst (λ (s : SessionValue). TakeSteps s.rules.mask s.rules.mover s.fragments (E s) old.offsets (length s.fragments) new.offsets taken.0) e taken.1;
        summary_is = record {
          worst = ap (λ (t : Totals). t.worst) total ∙ ap (λ (s : SessionValue). pos (greatest_size (E s) (length s.fragments))) e;
          total = ap (λ (t : Totals). t.total) total ∙ ap (λ (s : SessionValue). pos (sum_of_sizes (E s) (length s.fragments))) e;
          moved = made.count ∙ ap (λ (fs : List Fragment). changes old.offsets new.offsets (length fs)) over.fragments;
        };
      }

  settled_at : (s : SessionValue) (b : Bool) → IsOver g.whole s → is_settled_by (own_error (cover g.target)) s ≡ b
      → is_settled_by (own_error (cover g.target)) (at_offsets (bar_subject_of g).whole s.offsets) ≡ b
  settled_at s b over is = sym (ap (is_settled_by (own_error (cover g.target))) (bar_over_is s over)) ∙ is

  pub one_more_bar_round : (n : ℕ) (old new : SessionValue) (lines more : List ℕ) (errors : List ℤ) (totals : Totals) (moved before after : ℕ) → HasBarRounds g n old lines
      → is_settled_by (own_error (cover g.target)) old ≡ false → OwnErrors g old errors → totals ≡ totals_by (own_error (cover g.target)) old
      → MakesSteps old new (λ i. get_or errors i (pos 0)) moved before after
      → more ≡ lines ++ round_line (n + 1) (record { worst = totals.worst; total = totals.total; moved = moved }) → HasBarRounds g (n + 1) new more
  one_more_bar_round n old new lines more errors totals moved before after has unsettled own total made is =
      let summary : RoundSummary = record { worst = totals.worst; total = totals.total; moved = moved } in
      let count = rounds_by_count (own_error (cover g.target)) (bar_subject_of g).whole n old.offsets has.summaries has.rounds in
      let number : n + 1 ≡ 1 + length has.summaries = omega (arith, count) in
      subst (λ (m : ℕ). HasBarRounds g m new more) (sym (add-one n)) (record {
        over = over_steps old new (λ i. get_or errors i (pos 0)) moved before after has.over made;
        summaries = has.summaries ++ summary ∷ [];
        rounds = (old.offsets, has.summaries, summary, has.rounds, settled_at old false has.over unsettled, round_of old new errors totals moved before after has.over own total made, refl);
        text = is ∙ ap₂ (λ t m. t ++ round_line m summary) has.text number ∙ sym (round_lines-more 1 has.summaries summary);
      })

  pub bar_run_settled : (n : ℕ) (s : SessionValue) (lines : List ℕ) → HasBarRounds g n s lines → n ≤ g.whole.rules.run.rounds
      → is_settled_by (own_error (cover g.target)) s ≡ true → HasBarRun g s lines
  bar_run_settled n s lines has most settled = record {
    summaries = has.summaries;
    run = record { made = n; rounds = has.rounds; most = most; stopped = inl (settled_at s true has.over settled) };
    text = has.text;
  }

  pub bar_run_ended : (n : ℕ) (s : SessionValue) (lines : List ℕ) → HasBarRounds g n s lines → n ≡ g.whole.rules.run.rounds → HasBarRun g s lines
  bar_run_ended n s lines has all = record {
    summaries = has.summaries;
    run = record { made = n; rounds = has.rounds; most = omega (arith, all); stopped = inr all };
    text = has.text;
  }

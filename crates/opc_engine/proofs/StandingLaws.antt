-- Sessions over what is ready: what rounds and moves leave, and their lines.
use Rattle.std.proofs.Common.{◌≡◌, inl, inr, ℕ, zero, suc, ◌+◌, ◌≤◌, ℤ, Bool, true, false, List, [], ◌∷◌, ◌++◌, length, append_assoc, length-append, add-one, refl, ap, ap₂, sym, ◌∙◌, subst, arith}
use Rattle.std.proofs.lemmas.Grind.{common_steps}
use Rattle.error_table.specs.Table.{round_line}
use Rattle.opc_base.specs.declared.moves.RoundSummary.{RoundSummary}
use Rattle.opc_session.specs.Sessions.{MakesRound, SessionValue, error_at}
use Rattle.opc_session.specs.Rounds.{Summarizes, TakeSteps}
use Rattle.opc_engine.specs.declared.ready.Ready.{Ready}
use Rattle.opc_engine.specs.ErrorTable.{round_lines}
use Rattle.opc_engine.specs.Prepare.{Subject}
use Rattle.opc_engine.specs.Ready.{subject_of}
use Rattle.opc_engine.specs.Runs.{AreRoundsBy, Counted, IsRound, at_offsets, is_settled}
use Rattle.opc_engine.specs.Standing.{HasRounds, HasRun, IsOver}

-- ---- a session by its offsets
pub over_is : (p : Ready) (s : SessionValue) → IsOver p s → s ≡ at_offsets (subject_of p) s.offsets
over_is p s o = λ i. record { fragments = o.fragments i; set = o.set i; rules = o.rules i; offsets = s.offsets }

-- ---- lines of rounds
pub round_lines-more : (number : ℕ) (rounds : List RoundSummary) (last : RoundSummary) → round_lines number (rounds ++ last ∷ []) ≡ round_lines number rounds ++ round_line (number + length rounds) last
round_lines-more number [] last = grind (arith, common_steps)
round_lines-more number (round ∷ rounds) last =
    let shift : number + 1 + length rounds ≡ number + length (round ∷ rounds) = grind (arith, common_steps) in
    ap (λ t. round_line number round ++ t) (round_lines-more (number + 1) rounds last ∙ ap (λ n. round_lines (number + 1) rounds ++ round_line n last) shift)
    ∙ sym (append_assoc (round_line number round) (round_lines (number + 1) rounds) (round_line (number + length (round ∷ rounds)) last))

pub rounds_by_count : (error : Counted) (s : Subject) (n : ℕ) (offsets : List ℤ) (rounds : List RoundSummary) → AreRoundsBy error s n offsets rounds → length rounds ≡ n
rounds_by_count error s zero offsets rounds h = ap length h.1
rounds_by_count error s (suc n) offsets rounds (before, earlier, last, h, unsettled, round, is) =
    ap length is ∙ length-append earlier (last ∷ []) ∙ ap (λ k. k + 1) (rounds_by_count error s n before earlier h) ∙ omega arith

module _ (p : Ready) where
  -- a round of a session is a round of its subject
  round_of : (old new : SessionValue) (summary : RoundSummary) (before after : ℕ) → IsOver p old → MakesRound old new summary before after → IsRound (subject_of p) old.offsets new.offsets summary
  round_of old new summary before after over made =
      let e = over_is p old over in
      record {
        sweeps = made.sweeps;
        taken = subst (λ (s : SessionValue). TakeSteps s.rules.mask s.rules.mover s.fragments (error_at s) old.offsets (length s.fragments) new.offsets made.sweeps) e made.taken;
        summary_is = subst (λ (s : SessionValue). Summarizes (error_at s) (length s.fragments) old.offsets new.offsets summary) e made.summary_is;
      }

  pub over_round : (old new : SessionValue) (summary : RoundSummary) (before after : ℕ) → IsOver p old → MakesRound old new summary before after → IsOver p new
  over_round old new summary before after over made = record {
    fragments = made.same.fragments ∙ over.fragments;
    set = made.same.set ∙ over.set;
    rules = made.same.rules ∙ over.rules;
  }

  settled_of : (s : SessionValue) (b : Bool) → IsOver p s → is_settled s ≡ b → is_settled (at_offsets (subject_of p) s.offsets) ≡ b
  settled_of s b over is = sym (ap is_settled (over_is p s over)) ∙ is

  pub one_more_round : (n : ℕ) (old new : SessionValue) (lines more : List ℕ) (summary : RoundSummary) (before after : ℕ) → HasRounds p n old lines → is_settled old ≡ false
      → MakesRound old new summary before after → more ≡ lines ++ round_line (n + 1) summary → HasRounds p (n + 1) new more
  one_more_round n old new lines more summary before after has unsettled made is =
      let count = rounds_by_count error_at (subject_of p) n old.offsets has.summaries has.rounds in
      let number : n + 1 ≡ 1 + length has.summaries = omega arith in
      subst (λ (m : ℕ). HasRounds p m new more) (sym (add-one n)) (record {
        over = over_round old new summary before after has.over made;
        summaries = has.summaries ++ summary ∷ [];
        rounds = (old.offsets, has.summaries, summary, has.rounds, settled_of old false has.over unsettled, round_of old new summary before after has.over made, refl);
        text = is ∙ ap₂ (λ t m. t ++ round_line m summary) has.text number ∙ sym (round_lines-more 1 has.summaries summary);
      })

  pub run_settled : (n : ℕ) (s : SessionValue) (lines : List ℕ) → HasRounds p n s lines → n ≤ p.rules.run.rounds → is_settled s ≡ true → HasRun p s lines n
  run_settled n s lines has most settled = record {
    summaries = has.summaries;
    count = sym (rounds_by_count error_at (subject_of p) n s.offsets has.summaries has.rounds);
    run = record { made = n; rounds = has.rounds; most = most; stopped = inl (settled_of s true has.over settled) };
    text = has.text;
  }

  pub run_ended : (n : ℕ) (s : SessionValue) (lines : List ℕ) → HasRounds p n s lines → n ≡ p.rules.run.rounds → HasRun p s lines p.rules.run.rounds
  run_ended n s lines has all = record {
    summaries = has.summaries;
    count = sym all ∙ sym (rounds_by_count error_at (subject_of p) n s.offsets has.summaries has.rounds);
    run = record { made = n; rounds = has.rounds; most = omega (arith, all); stopped = inr all };
    text = has.text;
  }

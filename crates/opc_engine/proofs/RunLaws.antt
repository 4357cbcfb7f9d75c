-- A subject has one run, and moves have one outcome.
use Rattle.std.proofs.Common.{◌≡◌, inl, inr, ℕ, zero, suc, ◌<◌, ℤ, false, List, [], ◌∷◌, ◌++◌, length, ap, ap₂, sym, ◌∙◌, subst, arith, ⊎_elim}
use Rattle.std.proofs.lemmas.Bool.{cases_lt}
use Rattle.opc_base.specs.declared.moves.Move.{Move}
use Rattle.opc_base.specs.declared.moves.Moved.{Moved}
use Rattle.opc_base.specs.declared.moves.RoundSummary.{RoundSummary}
use Rattle.opc_session.specs.Rounds.{Summarizes}
use Rattle.opc_session.specs.Sessions.{error_at}
use Rattle.opc_session.proofs.UniqueLaws.{AreMoved-unique, Summarizes-unique, TakeSteps-unique, answers-unique}
use Rattle.opc_engine.specs.Prepare.{Subject}
use Rattle.opc_engine.specs.Runs.{AreRoundsBy, Counted, IsMovesRun, IsRoundBy, IsRun, IsRunBy, at_offsets, is_settled_by, unmoved}

-- ---- a run
module _ (error : Counted) (s : Subject) where
  pub round_by_one : (old p q : List ℤ) (a b : RoundSummary) → IsRoundBy error s old p a → IsRoundBy error s old q b → (p ≡ q) × (a ≡ b)
  round_by_one old p q a b x y =
      let same = (TakeSteps-unique s.rules.mask s.rules.mover s.fragments (error (at_offsets s old)) old (length s.fragments) p q x.sweeps y.sweeps x.taken y.taken).0 in
      let P : List ℤ → Type 0 = λ o. Summarizes (error (at_offsets s old)) (length s.fragments) old o a in
      (same, Summarizes-unique (error (at_offsets s old)) (length s.fragments) old q a b (subst P same x.summary_is) y.summary_is)

  rounds_one : (n : ℕ) (p q : List ℤ) (a b : List RoundSummary) → AreRoundsBy error s n p a → AreRoundsBy error s n q b → (p ≡ q) × (a ≡ b)
  rounds_one zero p q a b x y = (x.0 ∙ sym y.0, x.1 ∙ sym y.1)
  rounds_one (suc n) p q a b (before, earlier, last, rounds, unsettled, round, is) (before', earlier', last', rounds', unsettled', round', is') =
      let same = rounds_one n before before' earlier earlier' rounds rounds' in
      let P : List ℤ → Type 0 = λ o. IsRoundBy error s o p last in
      let one = round_by_one before' p q last last' (subst P same.0 round) round' in
      (one.0, is ∙ ap₂ (λ xs x. xs ++ x ∷ []) same.1 one.1 ∙ sym is')

  -- of more rounds each earlier one begins where the errors aren't settled
  record IsBegun (m : ℕ) : Type 0 where
    offsets : List ℤ
    summaries : List RoundSummary
    rounds : AreRoundsBy error s m offsets summaries
    unsettled : is_settled_by error (at_offsets s offsets) ≡ false

  begun : (m n : ℕ) (p : List ℤ) (a : List RoundSummary) → AreRoundsBy error s n p a → m < n → IsBegun m
  begun m zero p a x less = absurd (omega arith)
  begun m (suc n) p a (before, earlier, last, rounds, unsettled, round, is) less =
      ⊎_elim (λ less. begun m n before earlier rounds less)
      (λ least. subst IsBegun (omega arith) (record { offsets = before; summaries = earlier; rounds = rounds; unsettled = unsettled }))
      (cases_lt m n)

  not_more : (p q : List ℤ) (a b : List RoundSummary) (x : IsRunBy error s p a) (y : IsRunBy error s q b) → x.made < y.made → ⊥
  not_more p q a b x y less =
      let there = begun x.made y.made q b y.rounds less in
      let same = (rounds_one x.made p there.offsets a there.summaries x.rounds there.rounds).0 in
      let going : is_settled_by error (at_offsets s p) ≡ false = ap (λ o. is_settled_by error (at_offsets s o)) same ∙ there.unsettled in
      let most = y.most in
      elim x.stopped [ inl settled ↦ cc | inr all ↦ omega arith ]

  pub run_by_one : (p q : List ℤ) (a b : List RoundSummary) → IsRunBy error s p a → IsRunBy error s q b → (p ≡ q) × (a ≡ b)
  run_by_one p q a b x y =
      let made : x.made ≡ y.made = ⊎_elim (λ less. absurd (not_more p q a b x y less)) (λ least. ⊎_elim (λ more. absurd (not_more q p b a y x more)) (λ most. omega arith)
      (cases_lt y.made x.made)) (cases_lt x.made y.made) in
      let P : ℕ → Type 0 = λ n. AreRoundsBy error s n p a in
      rounds_one y.made p q a b (subst P made x.rounds) y.rounds

pub run_one : (s : Subject) (p q : List ℤ) (a b : List RoundSummary) → IsRun s p a → IsRun s q b → (p ≡ q) × (a ≡ b)
run_one s p q a b x y = run_by_one error_at s p q a b x y

-- ---- moves by hand
pub moves_one : (s : Subject) (moves : List Move) (p q : List ℤ) (a b : List Moved) → IsMovesRun s moves p a → IsMovesRun s moves q b → (p ≡ q) × (a ≡ b)
moves_one s moves p q a b x y =
    let one = AreMoved-unique s.rules.mask s.fragments moves a b (unmoved s) (length moves) p q x.sweeps y.sweeps x.moved y.moved in
    (one.1, answers-unique a b (length moves) x.one_each y.one_each one.0)

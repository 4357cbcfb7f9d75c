use Rattle.std.proofs.Common.{◌≡◌, ℕ, ◌-◌, ◌<◌, ◌≤◌, refl, subst, arith, ⊎_elim}
use Rattle.std.proofs.lemmas.Bool.{cases_lt}
use Rattle.opc_parallel.specs.Conditions.{IsUnseen, setting_of}
use Rattle.opc_parallel.proofs.fragment_sums.end_of_seeing.Goals as goal

pub loop-end-preserved : goal.loop-end-preserved
loop-end-preserved c =
    let end : ℕ = c.loop-end.end in (
      omega (arith, c.loop-end-test.true),
      omega (arith, c.loop-end.invariant.1),
      λ k from below. ⊎_elim
          (λ earlier. subst (λ n. IsUnseen (setting_of c.args.work.now) c.args.number n c.args.rect.now) (at_last k end from earlier) (c.if-not-sample_sees.ensures.unseen refl))
          (λ later. c.loop-end.invariant.2 k later below)
          (cases_lt k end),
    )
  where
    at_last : (k n : ℕ) → n - 1 ≤ k → k < n → n - 1 ≡ k
    at_last k n from below = omega arith

use Rattle.std.proofs.Common.{◌≡◌, ℕ, ◌+◌, ◌<◌, ◌≤◌, refl, subst, arith, ⊎_elim}
use Rattle.std.proofs.lemmas.Bool.{cases_lt}
use Rattle.opc_parallel.specs.Conditions.{IsUnseen, setting_of}
use Rattle.opc_parallel.proofs.fragment_sums.first_seeing.Goals as goal

pub loop-first-preserved : goal.loop-first-preserved
loop-first-preserved c =
    let here : ℕ = c.loop-first.first in (
      omega (arith, c.loop-first-test.true),
      λ k below. ⊎_elim
          (λ earlier. c.loop-first.invariant.1 k earlier)
          (λ from. subst (λ n. IsUnseen (setting_of c.args.work.now) c.args.number n c.args.rect.now) (at_last k here from below) (c.if-not-sample_sees.ensures.unseen refl))
          (cases_lt k here),
    )
  where
    at_last : (k n : ℕ) → n ≤ k → k < n + 1 → n ≡ k
    at_last k n from below = omega arith

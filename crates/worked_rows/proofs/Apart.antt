-- Short lists of distinct keys.
use Rattle.std.proofs.Common.{◌≡◌, ◌≢◌, ℕ, [], ◌∷◌, Bool, false, arith}
use Rattle.std.proofs.lemmas.Bool.Decides.{nat_tests}
use Rattle.std.specs.Prelude.{◌==◌}
use Rattle.std.specs.List.{IsDistinct}

pub no_key : {K : Type 0} (e : K → K → Bool) → IsDistinct e []
unfolding IsDistinct
no_key e = tt

pub one_key : {K : Type 0} (e : K → K → Bool) (a : K) → IsDistinct e (a ∷ [])
unfolding IsDistinct
one_key e a = (tt, tt)

pub two_keys : {K : Type 0} (e : K → K → Bool) (a b : K) → e a b ≡ false → IsDistinct e (a ∷ b ∷ [])
unfolding IsDistinct
two_keys e a b apart = ((apart, tt), (tt, tt))

pub unequal : (a b : ℕ) → a ≢ b → (a == b) ≡ false
unequal a b apart = grind (arith, nat_tests)

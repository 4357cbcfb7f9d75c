-- Sums of integers, and which of them are not 0.
use Rattle.std.specs.Prelude.{ℕ, zero, suc, ◌+◌, ℤ, pos, Bool, false, not, ◌||◌, if◌then◌else◌}
use Rattle.std.specs.Ordering.{int_eq}

-- some f k below n is not 0
unfoldable pub any_set : ℕ → (ℕ → ℤ) → Bool
any_set zero f = false
any_set (suc n) f = any_set n f || not (int_eq (f n) (pos 0))

abbrev pub one_if_set : ℤ → ℕ
one_if_set z = if int_eq z (pos 0) then 0 else 1

-- how many f k below n are not 0
unfoldable pub count_set : ℕ → (ℕ → ℤ) → ℕ
count_set zero f = 0
count_set (suc n) f = count_set n f + one_if_set (f n)

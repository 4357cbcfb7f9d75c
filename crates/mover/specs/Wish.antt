-- The move that a fragment wishes for its error.
use Rattle.std.specs.Prelude.{ℕ, ◌+◌, ◌-◌, ◌*◌, ◌/◌, ◌<◌, ◌≤◌, ℤ, pos, neg_ℤ, ◌-ℤ◌, int_lt, unsigned_abs, if◌then◌else◌}
use Rattle.std.specs.Int.{int_max, int_min}
use Rattle.opc_base.specs.Ranges.{IsBetween}
use Rattle.opc_base.specs.declared.rules.MoveRules.{MoveRules}

-- the number, or the nearest from low to high
abbrev pub clamped : ℤ → ℤ → ℤ → ℤ
clamped low high n = int_max low (int_min n high)

-- the nearest whole number to a fraction, with halves toward zero
abbrev pub nearest : ℕ → ℕ → ℕ
nearest upper lower = (2 * upper + lower - 1) / (2 * lower)

-- no whole number is nearer to the fraction, and of two that are as near it is the lower
pub record IsNearest (upper lower n : ℕ) : Type 0 where
  pub above : 2 * upper ≤ 2 * (n * lower) + lower
  pub below : 2 * (n * lower) < 2 * upper + lower

-- the error times the gain, as a fraction of pixels; the error is in sixteenths
abbrev pub gained : ℤ → MoveRules → ℕ
gained error rules = unsigned_abs error * unsigned_abs rules.gain_num

abbrev pub parts : MoveRules → ℕ
parts rules = 16 * unsigned_abs rules.gain_den

-- the same in whole pixels
abbrev pub wanted_size : ℤ → MoveRules → ℕ
wanted_size error rules = nearest (gained error rules) (parts rules)

-- against the error
abbrev pub wanted : ℤ → MoveRules → ℤ
wanted error rules =
    if int_lt error (pos 0) then pos (wanted_size error rules) else neg_ℤ (pos (wanted_size error rules))

-- no more than a step, and then so that the new offset is in its range
abbrev pub wish_of : ℤ → ℤ → MoveRules → ℤ
wish_of error offset rules =
    clamped (neg_ℤ rules.max_in -ℤ offset) (rules.max_out -ℤ offset) (clamped (neg_ℤ rules.max_step) rules.max_step (wanted error rules))

-- an offset in its range
abbrev pub IsOffset : MoveRules → ℤ → Type 0
IsOffset rules offset = IsBetween (neg_ℤ rules.max_in) rules.max_out offset

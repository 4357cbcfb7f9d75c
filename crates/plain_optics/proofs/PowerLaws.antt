-- Weighted powers fit the machine's numbers.
use Rattle.std.proofs.Common.{ℕ, ◌*◌, ◌≤◌, ℤ, pos, ◌+ℤ◌, ◌*ℤ◌, unsigned_abs, SFits, w64, arith, mul-le-mul}
use Rattle.std.proofs.lemmas.Int.{ints, unsigned_abs-mul, fits_signed_mul}

square-small : (a : ℤ) → unsigned_abs a ≤ 34080768 → unsigned_abs (a *ℤ a) ≤ 34080768 * 34080768
square-small a small = rw (unsigned_abs-mul a a) (mul-le-mul small small)

pub square-fits : (a : ℤ) → unsigned_abs a ≤ 34080768 → SFits w64 (a *ℤ a)
square-fits a small = fits_signed_mul w64 a a 34080768 34080768 small small (omega arith)

-- the power of an amplitude is at most twice the square of the greatest part
power-small : (re im : ℤ) → unsigned_abs re ≤ 34080768 → unsigned_abs im ≤ 34080768 →
    unsigned_abs (re *ℤ re +ℤ im *ℤ im) ≤ 2 * 34080768 * 34080768
power-small re im small_re small_im = of_two (re *ℤ re) (im *ℤ im) (square-small re small_re) (square-small im small_im)
  where
    of_two : (a b : ℤ) → unsigned_abs a ≤ 34080768 * 34080768 → unsigned_abs b ≤ 34080768 * 34080768 →
        unsigned_abs (a +ℤ b) ≤ 2 * 34080768 * 34080768
    of_two a b small_a small_b = omega (arith, ints)

pub power-fits : (re im : ℤ) → unsigned_abs re ≤ 34080768 → unsigned_abs im ≤ 34080768 → SFits w64 (re *ℤ re +ℤ im *ℤ im)
power-fits re im small_re small_im = of_small (re *ℤ re +ℤ im *ℤ im) (power-small re im small_re small_im)
  where
    of_small : (z : ℤ) → unsigned_abs z ≤ 2 * 34080768 * 34080768 → SFits w64 z
    of_small z small = omega (arith, ints)

pub weighted-fits : (weight : ℕ) (re im : ℤ) → weight ≤ 2048 → unsigned_abs re ≤ 34080768 → unsigned_abs im ≤ 34080768 →
    SFits w64 (pos weight *ℤ (re *ℤ re +ℤ im *ℤ im))
weighted-fits weight re im light small_re small_im =
    fits_signed_mul w64 (pos weight) (re *ℤ re +ℤ im *ℤ im) 2048 (2 * 34080768 * 34080768) light (power-small re im small_re small_im) (omega arith)

-- a weighted power is at most the weight times the greatest power
pub weighted-small : (weight : ℕ) (re im : ℤ) → unsigned_abs re ≤ 34080768 → unsigned_abs im ≤ 34080768 →
    unsigned_abs (pos weight *ℤ (re *ℤ re +ℤ im *ℤ im)) ≤ weight * (2 * 34080768 * 34080768)
weighted-small weight re im small_re small_im = rw (unsigned_abs-mul (pos weight) (re *ℤ re +ℤ im *ℤ im)) (mul-le-mul same (power-small re im small_re small_im))
  where
    same : weight ≤ weight
    same = omega arith

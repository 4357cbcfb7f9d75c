-- Products of complex numbers fit the machine's numbers.
use Rattle.std.proofs.Common.{◌≡◌, ◌*◌, ◌^◌, ◌≤◌, ℤ, ◌+ℤ◌, ◌-ℤ◌, ◌*ℤ◌, unsigned_abs, SFits, w16, w64, to_z, of_z, to_z-of_z, arith, mul-le-mul}
use Rattle.std.proofs.lemmas.Int.{ints, unsigned_abs-mul}

product-small : (a b : ℤ) → SFits w16 a → SFits w16 b → unsigned_abs (a *ℤ b) ≤ 2 ^ 15 * 2 ^ 15
product-small a b fits_a fits_b =
    let small_a : unsigned_abs a ≤ 2 ^ 15 = omega (arith, ints) in
    let small_b : unsigned_abs b ≤ 2 ^ 15 = omega (arith, ints) in
    rw (unsigned_abs-mul a b) (mul-le-mul small_a small_b)

from_small : (z : ℤ) → unsigned_abs z ≤ 2 ^ 15 * 2 ^ 15 → SFits w64 z
from_small z small = omega (arith, ints)

product-fits : (a b : ℤ) → SFits w16 a → SFits w16 b → SFits w64 (a *ℤ b)
product-fits a b fits_a fits_b = from_small (a *ℤ b) (product-small a b fits_a fits_b)

wide : (a : ℤ) → SFits w16 a → SFits w64 a
wide a narrow = omega (arith, ints)

-- a product as the code computes it
abbrev pub times : ℤ → ℤ → ℤ
times a b = to_z w64 (of_z w64 (to_z w64 (of_z w64 a) *ℤ to_z w64 (of_z w64 b)))

pub times-is : (a b c d : ℤ) → c ≡ to_z w16 (of_z w16 a) → d ≡ to_z w16 (of_z w16 b) → SFits w16 a → SFits w16 b → times c d ≡ a *ℤ b
times-is a b c d read_c read_d fits_a fits_b =
    let wide_a = wide a fits_a in
    let wide_b = wide b fits_b in
    let both = product-fits a b fits_a fits_b in
    rw (read_c, read_d) (simp to_z-of_z)

pub difference-fits : (a b c d : ℤ) → SFits w16 a → SFits w16 b → SFits w16 c → SFits w16 d → SFits w64 (a *ℤ b -ℤ c *ℤ d)
difference-fits a b c d fits_a fits_b fits_c fits_d = of_two (a *ℤ b) (c *ℤ d) (product-small a b fits_a fits_b) (product-small c d fits_c fits_d)
  where
    of_two : (y z : ℤ) → unsigned_abs y ≤ 2 ^ 15 * 2 ^ 15 → unsigned_abs z ≤ 2 ^ 15 * 2 ^ 15 → SFits w64 (y -ℤ z)
    of_two y z small_y small_z = omega (arith, ints)

pub sum-fits : (a b c d : ℤ) → SFits w16 a → SFits w16 b → SFits w16 c → SFits w16 d → SFits w64 (a *ℤ b +ℤ c *ℤ d)
sum-fits a b c d fits_a fits_b fits_c fits_d = of_two (a *ℤ b) (c *ℤ d) (product-small a b fits_a fits_b) (product-small c d fits_c fits_d)
  where
    of_two : (y z : ℤ) → unsigned_abs y ≤ 2 ^ 15 * 2 ^ 15 → unsigned_abs z ≤ 2 ^ 15 * 2 ^ 15 → SFits w64 (y +ℤ z)
    of_two y z small_y small_z = omega (arith, ints)

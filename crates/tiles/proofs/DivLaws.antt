-- A coordinate, and the square in which it lies.
use Rattle.std.proofs.Common.{◌≡◌, ℕ, ◌*◌, ◌≤◌, ℤ, pos, negsuc, neg_ℤ, ◌+ℤ◌, ◌-ℤ◌, ◌*ℤ◌, ◌≤ℤ◌, ◌<ℤ◌, unsigned_abs, to_z, of_z, w32, ap, ap₂, ◌∙◌, arith}
use borrow.Author.Differences.{up, down, sum_is_lem}
use Rattle.std.proofs.lemmas.Int.{ints}
use Rattle.std.specs.Int.{int_div_euclid}

pub div_from : (x side : ℤ) → pos 0 <ℤ side → (int_div_euclid x side *ℤ side) ≤ℤ x
div_from (pos a) (pos b) above = omega (arith, ints)
div_from (negsuc a) (pos b) above = omega (arith, ints)
div_from x (negsuc b) above = absurd (omega (arith, ints))

pub div_upto : (x side : ℤ) → pos 0 <ℤ side → x <ℤ (int_div_euclid x side *ℤ side +ℤ side)
div_upto (pos a) (pos b) above = omega (arith, ints)
div_upto (negsuc a) (pos b) above = omega (arith, ints)
div_upto x (negsuc b) above = absurd (omega (arith, ints))

div_small : (x side : ℤ) → pos 0 <ℤ side → unsigned_abs x ≤ 1048016 → unsigned_abs (int_div_euclid x side) ≤ 1053000
div_small (pos a) (pos b) above near = omega (arith, ints)
div_small (negsuc a) (pos b) above near = omega (arith, ints)
div_small x (negsuc b) above near = absurd (omega (arith, ints))

-- a number as it is stored
pub stored : (z : ℤ) → unsigned_abs z ≤ 1060000 → to_z w32 (of_z w32 z) ≡ z
stored z small = omega (arith, ints)

within : (x : ℤ) → neg_ℤ (pos 1048016) ≤ℤ x → x ≤ℤ pos 1048016 → unsigned_abs x ≤ 1048016
within x least most = omega (arith, ints)

wider : (x : ℤ) → unsigned_abs x ≤ 1048016 → unsigned_abs x ≤ 1060000
wider x near = omega arith

wide : (x : ℤ) → unsigned_abs x ≤ 1053000 → unsigned_abs x ≤ 1060000
wide x near = omega arith

low_small : (x low side : ℤ) → unsigned_abs x ≤ 1048016 → side ≤ℤ pos 4096 → low ≤ℤ x → x <ℤ (low +ℤ side) → unsigned_abs low ≤ 1053000
low_small x low side near most from upto = omega (arith, ints)

-- the number of a square is small, and so is where the square begins
pub quotient_near : (x side q : ℤ) → pos 16 ≤ℤ side → side ≤ℤ pos 4096 → (neg_ℤ (pos 1048016) ≤ℤ x) × (x ≤ℤ pos 1048016) →
    q ≡ int_div_euclid (to_z w32 (of_z w32 x)) (to_z w32 (of_z w32 side)) →
    (unsigned_abs (to_z w32 (of_z w32 q)) ≤ 1053000) × (unsigned_abs (to_z w32 (of_z w32 q) *ℤ side) ≤ 1053000)
quotient_near x side q least most near is =
    let small = within x near.0 near.1 in
    let above : pos 0 <ℤ side = omega (arith, ints) in
    let side_is : to_z w32 (of_z w32 side) ≡ side = omega (arith, ints) in
    let plain : q ≡ int_div_euclid x side = is ∙ ap₂ int_div_euclid (stored x (wider x small)) side_is in
    let number = div_small x side above small in
    let back : to_z w32 (of_z w32 q) ≡ int_div_euclid x side =
    ap (λ z. to_z w32 (of_z w32 z)) plain ∙ stored (int_div_euclid x side) (wide (int_div_euclid x side) number) in
    (rw back number, rw back (low_small x (int_div_euclid x side *ℤ side) side small most (div_from x side above) (div_upto x side above)))

-- ---- rows of squares
add-mul : (x y s : ℤ) → (x +ℤ y) *ℤ s ≡ x *ℤ s +ℤ y *ℤ s
add-mul x y s = omega (arith, ints, ap (λ n. n * up s) (sum_is_lem x y), ap (λ n. n * down s) (sum_is_lem x y))

one-mul : (s : ℤ) → pos 1 *ℤ s ≡ s
one-mul s = omega (arith, ints)

natural-mul : (n : ℕ) (s : ℤ) → pos 0 <ℤ s → pos 0 ≤ℤ (pos n *ℤ s)
natural-mul n (pos s) above = omega (arith, ints)
natural-mul n (negsuc s) above = absurd (omega (arith, ints))

-- a lower row ends where a higher one begins, or before
pub row-below : (b q s : ℤ) → b <ℤ q → pos 0 <ℤ s → (b *ℤ s +ℤ s) ≤ℤ (q *ℤ s)
row-below b q s less above =
    let n : ℕ = unsigned_abs (q -ℤ b -ℤ pos 1) in
    let q_is : q ≡ b +ℤ pos 1 +ℤ pos n = omega (arith, ints) in
    let product : q *ℤ s ≡ b *ℤ s +ℤ pos 1 *ℤ s +ℤ pos n *ℤ s =
    ap (λ z. z *ℤ s) q_is ∙ add-mul (b +ℤ pos 1) (pos n) s ∙ ap (λ z. z +ℤ pos n *ℤ s) (add-mul b (pos 1) s) in
    let more = natural-mul n s above in
    omega (arith, ints, product, one-mul s, more)

-- a row below that of y less the halo lies, grown, at or below y
pub row-too_low : (y side halo b q : ℤ) → pos 0 <ℤ side → q ≡ int_div_euclid (y -ℤ halo) side → b <ℤ q → (b *ℤ side +ℤ side +ℤ halo) ≤ℤ y
row-too_low y side halo b q above is less =
    let under = row-below b q side less above in
    let at : (q *ℤ side) ≤ℤ (y -ℤ halo) = rw is (div_from (y -ℤ halo) side above) in
    omega (arith, ints, under, at)

-- and one above that of y and the halo at or above y
pub row-too_high : (y side halo b q : ℤ) → pos 0 <ℤ side → q ≡ int_div_euclid (y +ℤ halo -ℤ pos 1) side → (q +ℤ pos 1) ≤ℤ b → y ≤ℤ (b *ℤ side -ℤ halo)
row-too_high y side halo b q above is more =
    let over = row-below q b side (omega (arith, ints)) above in
    let at : (y +ℤ halo -ℤ pos 1) <ℤ (q *ℤ side +ℤ side) = rw is (div_upto (y +ℤ halo -ℤ pos 1) side above) in
    omega (arith, ints, over, at)

-- a quotient is no further from 0 than what is divided
pub quotient-small : (x side : ℤ) (n : ℕ) → pos 0 <ℤ side → unsigned_abs x ≤ n → unsigned_abs (int_div_euclid x side) ≤ n
quotient-small (pos a) (pos b) n above near = omega (arith, ints)
quotient-small (negsuc a) (pos b) n above near = omega (arith, ints)
quotient-small x (negsuc b) n above near = absurd (omega (arith, ints))

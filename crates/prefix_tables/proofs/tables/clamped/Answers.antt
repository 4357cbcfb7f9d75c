use Rattle.std.proofs.Common.{◌≡◌, ℕ, ◌+◌, ◌*◌, ◌<◌, ◌≤◌, ℤ, pos, neg_ℤ, ◌+ℤ◌, ◌-ℤ◌, ◌≤ℤ◌, unsigned_abs, SFits, to_z, of_z, to_z-of_z, w32, ◌∙◌, ap₂, rules, Fits, w64, arith}
use lib.Dec.{T}
use lib.Signed.{non_neg}
use Rattle.std.proofs.lemmas.Int.{ints, clamps}
use Rattle.std.specs.Int.{int_max, int_min}
use Rattle.opc_base.specs.Blocks.{place_before}
use Rattle.prefix_tables.proofs.tables.clamped.Goals as goal

-- the clamped place as the code computes it, from what its steps give
clamped-is : (r : ℕ) (d reach most m : ℤ) → r ≤ 64 → SFits w32 d → SFits w32 most → reach ≡ pos r →
    most ≡ int_max (to_z w32 (of_z w32 d)) (to_z w32 (of_z w32 (to_z w32 (of_z w32 (pos 0 -ℤ to_z w32 (of_z w32 reach))) -ℤ pos 1))) →
    m ≡ int_min (to_z w32 (of_z w32 most)) (to_z w32 (of_z w32 reach)) →
    m ≡ int_min (int_max d (neg_ℤ (pos r) -ℤ pos 1)) (pos r)
clamped-is r d reach most m narrow fits_d fits_most reach_is most_is m_is =
    let low : to_z w32 (of_z w32 (to_z w32 (of_z w32 (pos 0 -ℤ to_z w32 (of_z w32 reach))) -ℤ pos 1)) ≡ neg_ℤ (pos r) -ℤ pos 1 = omega (arith, ints) in
    let high : to_z w32 (of_z w32 reach) ≡ pos r = omega (arith, ints) in
    m_is ∙ ap₂ int_min (to_z-of_z fits_most ∙ most_is ∙ ap₂ int_max (to_z-of_z fits_d) low) high

in_reach : (r : ℕ) (d m : ℤ) → m ≡ int_min (int_max d (neg_ℤ (pos r) -ℤ pos 1)) (pos r) → ((neg_ℤ (pos r) -ℤ pos 1) ≤ℤ m) × (m ≤ℤ pos r)
in_reach r d m is = (grind (arith, ints, clamps), grind (arith, ints, clamps))

-- the sum of the clamped place and what makes it a count, as the code computes it
sum-is : (r : ℕ) (m reach : ℤ) → r ≤ 64 → reach ≡ pos r → (neg_ℤ (pos r) -ℤ pos 1) ≤ℤ m → m ≤ℤ pos r →
    to_z w32 (of_z w32 (to_z w32 (of_z w32 (to_z w32 (of_z w32 m) +ℤ to_z w32 (of_z w32 reach))) +ℤ pos 1)) ≡ m +ℤ pos r +ℤ pos 1
sum-is r m reach narrow reach_is low high =
    let first : to_z w32 (of_z w32 (to_z w32 (of_z w32 m) +ℤ to_z w32 (of_z w32 reach))) ≡ m +ℤ pos r = rw reach_is (omega (arith, ints)) in
    rw first (omega (arith, ints))

-- so it is the count of a place in reach
counted : (r : ℕ) (m : ℤ) → (neg_ℤ (pos r) -ℤ pos 1) ≤ℤ m → m ≤ℤ pos r →
    (unsigned_abs (m +ℤ pos r +ℤ pos 1) < 2 * r + 2) × (place_before r (unsigned_abs (m +ℤ pos r +ℤ pos 1)) ≡ m)
counted r m low high = (omega (arith, ints), omega (arith, ints))

pub overflow_cast-result : goal.overflow_cast-result
overflow_cast-result c =
    let fits_d : SFits w32 c.args.d = c.ranges.d in
    let fits_most : SFits w32 c.max.result = search rules in
    let is = clamped-is c.args.reach c.args.d _ _ c.min.result c.requires fits_d fits_most c.from-reach.ensures c.max.ensures.value c.min.ensures.value in
    let bounds = in_reach c.args.reach c.args.d c.min.result is in
    let low : (neg_ℤ (pos c.args.reach) -ℤ pos 1) ≤ℤ c.min.result = bounds.0 in
    let high : c.min.result ≤ℤ pos c.args.reach = bounds.1 in
    rw (sum-is c.args.reach c.min.result c.from-reach.result c.requires c.from-reach.ensures low high) (casts c.args.reach c.min.result c.requires low high)
  where
    casts : (r : ℕ) (m : ℤ) → r ≤ 64 → (neg_ℤ (pos r) -ℤ pos 1) ≤ℤ m → m ≤ℤ pos r →
        T (non_neg (m +ℤ pos r +ℤ pos 1)) × Fits w64 (unsigned_abs (m +ℤ pos r +ℤ pos 1))
    casts r m narrow low high = (grind (arith, ints), record { fits = omega (arith, (counted r m low high).0) })

pub returns-clause-value : goal.returns-clause-value
returns-clause-value c =
    let fits_d : SFits w32 c.args.d = c.ranges.d in
    let fits_most : SFits w32 c.max.result = search rules in
    let is = clamped-is c.args.reach c.args.d _ _ c.min.result c.requires fits_d fits_most c.from-reach.ensures c.max.ensures.value c.min.ensures.value in
    let bounds = in_reach c.args.reach c.args.d c.min.result is in
    rw (sum-is c.args.reach c.min.result c.from-reach.result c.requires c.from-reach.ensures bounds.0 bounds.1)
    ((counted c.args.reach c.min.result bounds.0 bounds.1).1 ∙ is)

pub returns-clause-range : goal.returns-clause-range
returns-clause-range c =
    let fits_d : SFits w32 c.args.d = c.ranges.d in
    let fits_most : SFits w32 c.max.result = search rules in
    let is = clamped-is c.args.reach c.args.d _ _ c.min.result c.requires fits_d fits_most c.from-reach.ensures c.max.ensures.value c.min.ensures.value in
    let bounds = in_reach c.args.reach c.args.d c.min.result is in
    rw (sum-is c.args.reach c.min.result c.from-reach.result c.requires c.from-reach.ensures bounds.0 bounds.1)
    (counted c.args.reach c.min.result bounds.0 bounds.1).0

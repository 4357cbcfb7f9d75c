use Rattle.std.proofs.Common.{◌≡◌, ◌≤◌, ℤ, pos, ◌+ℤ◌, ◌-ℤ◌, ◌*ℤ◌, ◌≤ℤ◌, unsigned_abs, to_z, of_z, w32, SFits, refl, arith}
use Rattle.std.proofs.lemmas.Int.{ints}
use Rattle.tiles.proofs.index.grown.Goals as goal

-- the product as the code computes it
product-is : (number side : ℤ) → pos 16 ≤ℤ side → side ≤ℤ pos 4096 → unsigned_abs number ≤ 1053000 → unsigned_abs (number *ℤ side) ≤ 1053000 →
    to_z w32 (of_z w32 number) *ℤ to_z w32 (of_z w32 side) ≡ number *ℤ side
product-is number side least most near small =
    let first : to_z w32 (of_z w32 number) ≡ number = omega (arith, ints) in
    let second : to_z w32 (of_z w32 side) ≡ side = omega (arith, ints) in
    rw (first, second) refl

low-is : (low halo : ℤ) → unsigned_abs low ≤ 1053000 → pos 0 ≤ℤ halo → halo ≤ℤ pos 80 →
    to_z w32 (of_z w32 (to_z w32 (of_z w32 low) -ℤ to_z w32 (of_z w32 halo))) ≡ low -ℤ halo
low-is low halo near least most = omega (arith, ints)

sum-fits : (low side halo : ℤ) → unsigned_abs low ≤ 1053000 → pos 16 ≤ℤ side → side ≤ℤ pos 4096 → pos 0 ≤ℤ halo → halo ≤ℤ pos 80 →
    SFits w32 (to_z w32 (of_z w32 (to_z w32 (of_z w32 low) +ℤ to_z w32 (of_z w32 side))) +ℤ to_z w32 (of_z w32 halo))
sum-fits low side halo near least_side most_side least most =
    let inner : to_z w32 (of_z w32 (to_z w32 (of_z w32 low) +ℤ to_z w32 (of_z w32 side))) ≡ low +ℤ side = omega (arith, ints) in
    rw inner (omega (arith, ints))

high-is : (low side halo : ℤ) → unsigned_abs low ≤ 1053000 → pos 16 ≤ℤ side → side ≤ℤ pos 4096 → pos 0 ≤ℤ halo → halo ≤ℤ pos 80 →
    to_z w32 (of_z w32 (to_z w32 (of_z w32 (to_z w32 (of_z w32 low) +ℤ to_z w32 (of_z w32 side))) +ℤ to_z w32 (of_z w32 halo))) ≡ low +ℤ side +ℤ halo
high-is low side halo near least_side most_side least most =
    let inner : to_z w32 (of_z w32 (to_z w32 (of_z w32 low) +ℤ to_z w32 (of_z w32 side))) ≡ low +ℤ side = omega (arith, ints) in
    rw inner (omega (arith, ints))

low-small : (low halo : ℤ) → unsigned_abs low ≤ 1053000 → pos 0 ≤ℤ halo → halo ≤ℤ pos 80 → unsigned_abs (low -ℤ halo) ≤ 1060000
low-small low halo near least most = omega (arith, ints)

high-small : (low side halo : ℤ) → unsigned_abs low ≤ 1053000 → pos 16 ≤ℤ side → side ≤ℤ pos 4096 → pos 0 ≤ℤ halo → halo ≤ℤ pos 80 →
    unsigned_abs (low +ℤ side +ℤ halo) ≤ 1060000
high-small low side halo near least_side most_side least most = omega (arith, ints)

pub returns-clause-high : goal.returns-clause-high
returns-clause-high c =
    let sizes = c.requires.sizes in
    rw (product-is c.args.number c.args.side sizes.least_side sizes.most_side c.requires.number c.requires.low)
    (high-is (c.args.number *ℤ c.args.side) c.args.side c.args.halo c.requires.low sizes.least_side sizes.most_side sizes.least_halo sizes.most_halo)

pub returns-clause-low_within : goal.returns-clause-low_within
returns-clause-low_within c =
    let sizes = c.requires.sizes in
    rw (
      product-is c.args.number c.args.side sizes.least_side sizes.most_side c.requires.number c.requires.low,
      low-is (c.args.number *ℤ c.args.side) c.args.halo c.requires.low sizes.least_halo sizes.most_halo,
    )
    (low-small (c.args.number *ℤ c.args.side) c.args.halo c.requires.low sizes.least_halo sizes.most_halo)

pub returns-clause-high_within : goal.returns-clause-high_within
returns-clause-high_within c =
    let sizes = c.requires.sizes in
    rw (
      product-is c.args.number c.args.side sizes.least_side sizes.most_side c.requires.number c.requires.low,
      high-is (c.args.number *ℤ c.args.side) c.args.side c.args.halo c.requires.low sizes.least_side sizes.most_side sizes.least_halo sizes.most_halo,
    )
    (high-small (c.args.number *ℤ c.args.side) c.args.side c.args.halo c.requires.low sizes.least_side sizes.most_side sizes.least_halo sizes.most_halo)

-- The rows and columns of squares that a rectangle reaches, as the code computes them.
use Rattle.std.proofs.Common.{◌≡◌, ◌≤◌, ℤ, pos, ◌+ℤ◌, ◌-ℤ◌, ◌*ℤ◌, ◌≤ℤ◌, ◌<ℤ◌, unsigned_abs, to_z, of_z, w32, w64, SFits, ap₂, ◌∙◌, arith}
use Rattle.std.proofs.lemmas.Int.{ints}
use Rattle.std.specs.Int.{int_div_euclid}
use Rattle.tiles.specs.Index.{AreSizes}
use Rattle.tiles.proofs.DivLaws.{quotient-small, row-too_high, row-too_low}

abbrev narrow : ℤ → ℤ
narrow z = to_z w32 (of_z w32 z)

abbrev wide : ℤ → ℤ
wide z = to_z w64 (of_z w64 z)

wide_is : (z : ℤ) → unsigned_abs z ≤ 2147500000 → wide z ≡ z
wide_is z small = omega (arith, ints)

narrow_is : (z : ℤ) → SFits w32 z → narrow z ≡ z
narrow_is z fits = omega (arith, ints)

narrow_small : (z : ℤ) → SFits w32 z → unsigned_abs z ≤ 2147483648
narrow_small z fits = omega (arith, ints)

size_fits : (z most : ℤ) → pos 0 ≤ℤ z → z ≤ℤ most → most ≤ℤ pos 4096 → SFits w32 z
size_fits z most least upto small = omega (arith, ints)

larger : (z : ℤ) → unsigned_abs z ≤ 2147483648 → unsigned_abs z ≤ 2147500000
larger z small = omega arith

-- the row of a coordinate that is moved by the halo
row : (y halo moved side s q : ℤ) → unsigned_abs moved ≤ 2147490000 → AreSizes side halo → s ≡ narrow side →
    q ≡ int_div_euclid (wide moved) (wide s) → (q ≡ int_div_euclid moved side) × (unsigned_abs q ≤ 2147490000)
row y halo moved side s q near sizes s_is is =
    let above : pos 0 <ℤ side = omega (arith, ints, sizes.least_side) in
    let side_is : wide s ≡ side = omega (arith, ints, s_is, sizes.least_side, sizes.most_side) in
    let moved_is : wide moved ≡ moved = omega (arith, ints) in
    let plain : q ≡ int_div_euclid moved side = is ∙ ap₂ int_div_euclid moved_is side_is in
    (plain, rw plain (quotient-small moved side 2147490000 above near))

pub low_row : (y side halo f h s q b : ℤ) → SFits w32 y → AreSizes side halo → f ≡ narrow y → h ≡ narrow halo → s ≡ narrow side →
    q ≡ int_div_euclid (wide (wide f -ℤ wide h)) (wide s) → b <ℤ wide q → (b *ℤ side +ℤ side +ℤ halo) ≤ℤ y
low_row y side halo f h s q b fits sizes f_is h_is s_is is less =
    let y_is : wide f ≡ y = rw (f_is, narrow_is y fits) (wide_is y (larger y (narrow_small y fits))) in
    let halo_is : wide h ≡ halo = omega (arith, ints, h_is, sizes.least_halo, sizes.most_halo) in
    let near : unsigned_abs (y -ℤ halo) ≤ 2147490000 = omega (arith, ints, narrow_small y fits, sizes.least_halo, sizes.most_halo) in
    let r = row y halo (y -ℤ halo) side s q near sizes s_is (rw (y_is, halo_is) at is) in
    let back : wide q ≡ q = omega (arith, ints, r.1) in
    row-too_low y side halo b q (omega (arith, ints, sizes.least_side)) r.0 (rw back at less)

pub high_row : (y side halo f h s q b : ℤ) → SFits w32 y → AreSizes side halo → f ≡ narrow y → h ≡ narrow halo → s ≡ narrow side →
    q ≡ int_div_euclid (wide (wide (wide f +ℤ wide h) -ℤ pos 1)) (wide s) → wide (wide q +ℤ pos 1) ≤ℤ b → y ≤ℤ (b *ℤ side -ℤ halo)
high_row y side halo f h s q b fits sizes f_is h_is s_is is more =
    let y_is : wide f ≡ y = rw (f_is, narrow_is y fits) (wide_is y (larger y (narrow_small y fits))) in
    let halo_is : wide h ≡ halo = omega (arith, ints, h_is, sizes.least_halo, sizes.most_halo) in
    let inner : wide (y +ℤ halo) ≡ y +ℤ halo = omega (arith, ints, narrow_small y fits, sizes.least_halo, sizes.most_halo) in
    let near : unsigned_abs (y +ℤ halo -ℤ pos 1) ≤ 2147490000 = omega (arith, ints, narrow_small y fits, sizes.least_halo, sizes.most_halo) in
    let r = row y halo (y +ℤ halo -ℤ pos 1) side s q near sizes s_is (rw (y_is, halo_is, inner) at is) in
    let back : wide q ≡ q = omega (arith, ints, r.1) in
    let next : wide (q +ℤ pos 1) ≡ q +ℤ pos 1 = omega (arith, ints, r.1) in
    row-too_high y side halo b q (omega (arith, ints, sizes.least_side)) r.0 (rw (back, next) at more)

pub next_fits : (y side halo f h s q : ℤ) → SFits w32 y → AreSizes side halo → f ≡ narrow y → h ≡ narrow halo → s ≡ narrow side →
    q ≡ int_div_euclid (wide (wide (wide f +ℤ wide h) -ℤ pos 1)) (wide s) → SFits w64 (wide q +ℤ pos 1)
next_fits y side halo f h s q fits sizes f_is h_is s_is is =
    let y_is : wide f ≡ y = rw (f_is, narrow_is y fits) (wide_is y (larger y (narrow_small y fits))) in
    let halo_is : wide h ≡ halo = omega (arith, ints, h_is, sizes.least_halo, sizes.most_halo) in
    let inner : wide (y +ℤ halo) ≡ y +ℤ halo = omega (arith, ints, narrow_small y fits, sizes.least_halo, sizes.most_halo) in
    let near : unsigned_abs (y +ℤ halo -ℤ pos 1) ≤ 2147490000 = omega (arith, ints, narrow_small y fits, sizes.least_halo, sizes.most_halo) in
    let r = row y halo (y +ℤ halo -ℤ pos 1) side s q near sizes s_is (rw (y_is, halo_is, inner) at is) in
    omega (arith, ints, r.1)

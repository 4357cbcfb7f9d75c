use Rattle.std.proofs.Common.{◌≡◌, ◌^◌, ◌≤◌, ℤ, pos, ◌+ℤ◌, ◌-ℤ◌, unsigned_abs, slice_index_or, List, SFits, to_z, of_z, to_z-of_z, w64, zero-add, arith}
use Rattle.std.proofs.lemmas.Int.{ints}
use Rattle.opc_base.proofs.ChangeLaws.{RisesBetween-set}
use Rattle.lane_intensity.specs.Differences.{four_lanes}
use Rattle.lane_intensity.proofs.rect_sums.add_one.Goals as goal

-- the difference of four small numbers, as the code computes it
abbrev computed : ℤ → ℤ → ℤ → ℤ → ℤ
computed a b c d =
    to_z w64 (of_z w64 (to_z w64 (of_z w64 (to_z w64 (of_z w64 a) -ℤ to_z w64 (of_z w64 b))) -ℤ to_z w64 (of_z w64 c))) +ℤ to_z w64 (of_z w64 d)

computed-is : (a b c d : ℤ) → unsigned_abs a ≤ 2 ^ 27 → unsigned_abs b ≤ 2 ^ 27 → unsigned_abs c ≤ 2 ^ 27 → unsigned_abs d ≤ 2 ^ 27 →
    computed a b c d ≡ a -ℤ b -ℤ c +ℤ d
computed-is a b c d small_a small_b small_c small_d = omega (arith, ints)

-- its sum with a number
sum-is : (s a b c d : ℤ) → unsigned_abs s ≤ 2 ^ 62 → unsigned_abs a ≤ 2 ^ 27 → unsigned_abs b ≤ 2 ^ 27 → unsigned_abs c ≤ 2 ^ 27 → unsigned_abs d ≤ 2 ^ 27 →
    to_z w64 (of_z w64 s) +ℤ to_z w64 (of_z w64 (computed a b c d)) ≡ s +ℤ (a -ℤ b -ℤ c +ℤ d)
sum-is s a b c d small_s small_a small_b small_c small_d =
    rw (computed-is a b c d small_a small_b small_c small_d) (omega (arith, ints))

sum-fits : (s a b c d : ℤ) → unsigned_abs s ≤ 2 ^ 62 → unsigned_abs a ≤ 2 ^ 27 → unsigned_abs b ≤ 2 ^ 27 → unsigned_abs c ≤ 2 ^ 27 → unsigned_abs d ≤ 2 ^ 27 →
    SFits w64 (s +ℤ (a -ℤ b -ℤ c +ℤ d))
sum-fits s a b c d small_s small_a small_b small_c small_d = omega (arith, ints)

pub overflow_add-acc : goal.overflow_add-acc
overflow_add-acc c =
    let n = c.args.lane in
    let at : List ℤ → ℤ = λ xs. slice_index_or xs n (pos 0) in
    rw (computed-is (at c.args.a.now) (at c.args.b.now) (at c.args.c.now) (at c.args.d.now)
    (c.requires.a.small n c.requires.lane) (c.requires.b.small n c.requires.lane) (c.requires.c.small n c.requires.lane) (c.requires.d.small n c.requires.lane))
    (omega (arith, ints, c.requires.a.small n c.requires.lane, c.requires.b.small n c.requires.lane, c.requires.c.small n c.requires.lane, c.requires.d.small n c.requires.lane))

pub overflow_add-acc-2 : goal.overflow_add-acc-2
overflow_add-acc-2 c =
    let n = c.args.lane in
    let at : List ℤ → ℤ = λ xs. slice_index_or xs n (pos 0) in
    rw (sum-is (at c.args.acc.now) (at c.args.a.now) (at c.args.b.now) (at c.args.c.now) (at c.args.d.now)
    c.requires.acc (c.requires.a.small n c.requires.lane) (c.requires.b.small n c.requires.lane) (c.requires.c.small n c.requires.lane) (c.requires.d.small n c.requires.lane))
    (sum-fits (at c.args.acc.now) (at c.args.a.now) (at c.args.b.now) (at c.args.c.now) (at c.args.d.now)
    c.requires.acc (c.requires.a.small n c.requires.lane) (c.requires.b.small n c.requires.lane) (c.requires.c.small n c.requires.lane) (c.requires.d.small n c.requires.lane))

pub returns : goal.returns
returns c =
    let n = c.args.lane in
    let at : List ℤ → ℤ = λ xs. slice_index_or xs n (pos 0) in
    let fits = sum-fits (at c.args.acc.now) (at c.args.a.now) (at c.args.b.now) (at c.args.c.now) (at c.args.d.now)
    c.requires.acc (c.requires.a.small n c.requires.lane) (c.requires.b.small n c.requires.lane) (c.requires.c.small n c.requires.lane) (c.requires.d.small n c.requires.lane) in
    RisesBetween-set (four_lanes c.args.a.now c.args.b.now c.args.c.now c.args.d.now) 0 n c.args.acc.now _ c.requires.lane
    (rw (sum-is (at c.args.acc.now) (at c.args.a.now) (at c.args.b.now) (at c.args.c.now) (at c.args.d.now)
    c.requires.acc (c.requires.a.small n c.requires.lane) (c.requires.b.small n c.requires.lane) (c.requires.c.small n c.requires.lane) (c.requires.d.small n c.requires.lane)) (rw (zero-add n) (to_z-of_z fits)))

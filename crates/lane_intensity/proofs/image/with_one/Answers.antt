use Rattle.std.proofs.Common.{◌≡◌, ℕ, ℤ, length, ◌+◌, ◌*◌, ◌<◌, ◌*ℤ◌, pos, get_or, to_z, of_z, to_z-of_z, w64, ap, ap₂, ◌∙◌, arith}
use Rattle.std.proofs.lemmas.Int.{ints}
use Rattle.lane_intensity.specs.Differences.{power_at, power_sum}
use Rattle.lane_intensity.proofs.PowerSums.{computed-power, lane-fits, next-fits, next-sum, power_sum-fits, weight-small}
use Rattle.lane_intensity.proofs.image.with_one.Goals as goal

pub weighted-requires-clause-weight : goal.weighted-requires-clause-weight
weighted-requires-clause-weight c =
    let small = weight-small c.args.weights.now c.args.kernel c.requires.weights c.requires.kernel in
    omega (arith, ints)

square-is : (c : goal.After-weighted) (at : ℕ) (square : ℤ) → at < 2 * length c.args.weights.now →
    square ≡ to_z w64 (of_z w64 (get_or c.args.acc.now at (pos 0))) *ℤ to_z w64 (of_z w64 (get_or c.args.acc.now at (pos 0))) →
    square ≡ get_or c.args.acc.now at (pos 0) *ℤ get_or c.args.acc.now at (pos 0)
square-is c at square below is =
    let fits = lane-fits (get_or c.args.acc.now at (pos 0)) (c.requires.lanes.small at below) in
    is ∙ ap₂ (λ a b. a *ℤ b) (to_z-of_z fits) (to_z-of_z fits)

power-is : (c : goal.After-weighted) → to_z w64 (of_z w64 c.weighted.result) ≡ power_at c.args.weights.now c.args.acc.now c.args.kernel
power-is c =
    computed-power c.args.weights.now c.args.acc.now c.args.kernel c.square.result c.square-2.result c.weighted.result
    c.requires.weights c.requires.lanes c.requires.kernel
    (square-is c (2 * c.args.kernel) c.square.result (omega arith) c.square.ensures.value)
    (square-is c (2 * c.args.kernel + 1) c.square-2.result (omega arith) c.square-2.ensures.value)
    c.square.ensures.small c.square-2.ensures.small c.weighted.ensures

sum-is : (c : goal.After-weighted) → to_z w64 (of_z w64 c.args.sum) ≡ power_sum c.args.weights.now c.args.acc.now c.args.kernel
sum-is c =
    ap (λ s. to_z w64 (of_z w64 s)) c.requires.sum
    ∙ to_z-of_z (power_sum-fits c.args.weights.now c.args.acc.now c.args.kernel c.requires.weights c.requires.lanes (omega arith))

pub overflow_add-result : goal.overflow_add-result
overflow_add-result c =
    next-fits c.args.weights.now c.args.acc.now c.args.kernel _ _ c.requires.weights c.requires.lanes c.requires.kernel (sum-is c) (power-is c)

pub returns : goal.returns
returns c = next-sum c.args.weights.now c.args.acc.now c.args.kernel _ _ c.requires.weights c.requires.lanes c.requires.kernel (sum-is c) (power-is c)

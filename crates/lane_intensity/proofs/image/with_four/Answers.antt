use Rattle.std.proofs.Common.{◌≡◌, ℕ, ℤ, ◌+◌, ◌*◌, ◌*ℤ◌, pos, get_or, to_z, of_z, w64, ap, ◌∙◌, arith}
use Rattle.std.proofs.lemmas.Int.{ints}
use Rattle.lane_intensity.specs.Differences.{power_at, power_sum}
use Rattle.lane_intensity.proofs.PowerSums.{computed-power, next-fits, next-sum, weight-small}
use Rattle.lane_intensity.proofs.image.with_four.Goals as goal

pub weighted-sum-requires-clause-weight : goal.weighted-sum-requires-clause-weight
weighted-sum-requires-clause-weight c =
    let small = weight-small c.args.weights.now (c.args.kernel + c.loop-next.next) c.requires.weights (omega arith) in
    omega (arith, ints)

power-is : (c : goal.After-weighted-sum) → to_z w64 (of_z w64 c.weighted-sum.result) ≡ power_at c.args.weights.now c.args.acc.now (c.args.kernel + c.loop-next.next)
power-is c =
    let squared : ℕ → ℤ = λ at. get_or c.args.acc.now at (pos 0) *ℤ get_or c.args.acc.now at (pos 0) in
    computed-power c.args.weights.now c.args.acc.now (c.args.kernel + c.loop-next.next)
    (get_or c.squares_of-squares.result (2 * c.loop-next.next) (pos 0)) (get_or c.squares_of-squares.result (2 * c.loop-next.next + 1) (pos 0))
    c.weighted-sum.result c.requires.weights c.requires.lanes (omega arith)
    (c.squares_of-squares.ensures.each (2 * c.loop-next.next) (omega arith) ∙ ap squared (omega arith))
    (c.squares_of-squares.ensures.each (2 * c.loop-next.next + 1) (omega arith) ∙ ap squared (omega arith))
    (c.squares_of-squares.ensures.small (2 * c.loop-next.next) (omega arith))
    (c.squares_of-squares.ensures.small (2 * c.loop-next.next + 1) (omega arith))
    c.weighted-sum.ensures

pub overflow_add-sum : goal.overflow_add-sum
overflow_add-sum c =
    next-fits c.args.weights.now c.args.acc.now (c.args.kernel + c.loop-next.next) _ _ c.requires.weights c.requires.lanes (omega arith)
    c.loop-next.invariant (power-is c)

pub loop-next-preserved : goal.loop-next-preserved
loop-next-preserved c =
    next-sum c.args.weights.now c.args.acc.now (c.args.kernel + c.loop-next.next) _ _ c.requires.weights c.requires.lanes (omega arith)
    c.loop-next.invariant (power-is c)
    ∙ ap (power_sum c.args.weights.now c.args.acc.now) (omega arith)

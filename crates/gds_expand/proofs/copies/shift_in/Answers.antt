use Rattle.std.proofs.Common.{arith, ◌+◌, ◌^◌, ◌≤◌}
use Rattle.gds_expand.proofs.WalkLemmas.{IsPositionWithin-le}
use Rattle.gds_expand.proofs.copies.shift_in.Goals as goal

pub returns-clause-near : goal.returns-clause-near
returns-clause-near c =
    let small : 2 ^ 32 + (2 ^ 32 + 2 ^ 31) ≤ 2 ^ 34 = omega arith in
    IsPositionWithin-le (2 ^ 32 + (2 ^ 32 + 2 ^ 31)) (2 ^ 34) c.shifted-2.result small
    (c.shifted-2.ensures.bound (2 ^ 32) (2 ^ 32 + 2 ^ 31) c.steps-along.ensures.near (c.shifted.ensures.bound (2 ^ 32) (2 ^ 31) c.steps-up.ensures.near c.position_of.ensures.near))

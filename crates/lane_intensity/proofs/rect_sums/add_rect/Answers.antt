use Rattle.std.proofs.Common.{ℕ, ◌<◌, ℤ, pos, ◌≤ℤ◌, ◌<ℤ◌, List, get_or, zero-add, arith}
use Rattle.std.proofs.lemmas.Int.{ints}
use Rattle.opc_base.proofs.ChangeLaws.{RisesBy-same}
use Rattle.opc_base.proofs.ClampLaws.{block-at}
use Rattle.opc_base.specs.Lanes.{lane_count, lane_entry}
use Rattle.lane_intensity.proofs.RectLaws.{inward, outward, rect_amplitudes, rect_lane}
use Rattle.lane_intensity.proofs.rect_sums.add_rect.Goals as goal

pub returns-then-sign-gt0-clause-rises : goal.returns-then-sign-gt0-clause-rises
returns-then-sign-gt0-clause-rises g c =
    let set = c.args.tables.now in
    let rect = c.args.rect in
    let at : List ℤ → ℕ → ℤ = λ xs lane. get_or xs lane (pos 0) in
    let test : pos 0 <ℤ c.args.sign = omega (arith, ints) in
    RisesBy-same _ _ 0 _ _ (λ lane below.
    let in_lanes : lane < lane_count set = omega (arith, c.requires.lanes.count) in
    rw (zero-add lane) (outward c.args.sign (at c.block-low_left.result.now lane) (at c.block-low_right.result.now lane)
    (at c.block-high_left.result.now lane) (at c.block-high_right.result.now lane) _ c.requires.sign test
    (rect_lane set rect c.args.at.x c.args.at.y lane _ _ _ _ c.requires.ordered
    (block-at set.reach (lane_entry set lane) _ _ _ _ _ (c.block-low_left.ensures.lanes.each lane in_lanes) (omega (arith, ints)) (omega (arith, ints)))
    (block-at set.reach (lane_entry set lane) _ _ _ _ _ (c.block-low_right.ensures.lanes.each lane in_lanes) (omega (arith, ints)) (omega (arith, ints)))
    (block-at set.reach (lane_entry set lane) _ _ _ _ _ (c.block-high_left.ensures.lanes.each lane in_lanes) (omega (arith, ints)) (omega (arith, ints)))
    (block-at set.reach (lane_entry set lane) _ _ _ _ _ (c.block-high_right.ensures.lanes.each lane in_lanes) (omega (arith, ints)) (omega (arith, ints))))))
    c.add_difference.ensures

pub returns-else-sign-gt0-clause-rises : goal.returns-else-sign-gt0-clause-rises
returns-else-sign-gt0-clause-rises g c =
    let set = c.args.tables.now in
    let rect = c.args.rect in
    let at : List ℤ → ℕ → ℤ = λ xs lane. get_or xs lane (pos 0) in
    let test : c.args.sign ≤ℤ pos 0 = omega (arith, ints) in
    RisesBy-same _ _ 0 _ _ (λ lane below.
    let in_lanes : lane < lane_count set = omega (arith, c.requires.lanes.count) in
    rw (zero-add lane) (inward c.args.sign (at c.block-low_left.result.now lane) (at c.block-low_right.result.now lane)
    (at c.block-high_left.result.now lane) (at c.block-high_right.result.now lane) _ c.requires.sign test
    (rect_lane set rect c.args.at.x c.args.at.y lane _ _ _ _ c.requires.ordered
    (block-at set.reach (lane_entry set lane) _ _ _ _ _ (c.block-low_left.ensures.lanes.each lane in_lanes) (omega (arith, ints)) (omega (arith, ints)))
    (block-at set.reach (lane_entry set lane) _ _ _ _ _ (c.block-low_right.ensures.lanes.each lane in_lanes) (omega (arith, ints)) (omega (arith, ints)))
    (block-at set.reach (lane_entry set lane) _ _ _ _ _ (c.block-high_left.ensures.lanes.each lane in_lanes) (omega (arith, ints)) (omega (arith, ints)))
    (block-at set.reach (lane_entry set lane) _ _ _ _ _ (c.block-high_right.ensures.lanes.each lane in_lanes) (omega (arith, ints)) (omega (arith, ints))))))
    c.add_difference-else-sign-gt0.ensures

pub returns-then-sign-gt0-clause-amplitudes : goal.returns-then-sign-gt0-clause-amplitudes
returns-then-sign-gt0-clause-amplitudes g c before after move are =
    rect_amplitudes c.args.tables.now _ before after c.args.at.x c.args.at.y _ _ c.requires.sign move are (returns-then-sign-gt0-clause-rises g c)

pub returns-else-sign-gt0-clause-amplitudes : goal.returns-else-sign-gt0-clause-amplitudes
returns-else-sign-gt0-clause-amplitudes g c before after move are =
    rect_amplitudes c.args.tables.now _ before after c.args.at.x c.args.at.y _ _ c.requires.sign move are (returns-else-sign-gt0-clause-rises g c)

use Rattle.std.proofs.Common.{◌≡◌, ◌<◌, ◌-ℤ◌, ◌*ℤ◌, pos, get_or, SFits, w8, w64, to_z, of_z, to_z-of_z, rules, zero-add, ap₂, ◌∙◌, arith}
use Rattle.std.proofs.lemmas.Int.{ints}
use Rattle.opc_base.proofs.ChangeLaws.{RisesBy-same}
use Rattle.opc_base.proofs.ClampLaws.{block-at}
use Rattle.opc_base.specs.Lanes.{block_of_lane, lane_count, lane_entry}
use Rattle.lane_intensity.specs.Differences.{corner_change}
use Rattle.lane_intensity.proofs.CornerSums.{times-small}
use Rattle.lane_intensity.proofs.corner_sums.add_corner.Goals as goal

pub returns-clause-rises : goal.returns-clause-rises
returns-clause-rises g c =
    let set = c.args.tables.now in
    let narrow : SFits w8 c.args.corner.sign = search rules in
    let sign : c.from.result ≡ c.args.corner.sign = c.from.ensures ∙ to_z-of_z narrow in
    let times : to_z w64 (of_z w64 c.from.result) ≡ c.args.corner.sign = omega (arith, ints) in
    RisesBy-same _ (corner_change set c.args.corner c.args.at.x c.args.at.y) 0 _ _ (λ lane below.
    let in_lanes : lane < lane_count set = omega (arith, c.requires.lanes.count) in
    let block : get_or c.block-block.result.now lane (pos 0) ≡ block_of_lane set lane (c.args.at.x -ℤ c.args.corner.x) (c.args.at.y -ℤ c.args.corner.y) =
    block-at set.reach (lane_entry set lane) _ _ _ _ _ (c.block-block.ensures.lanes.each lane in_lanes) (omega (arith, ints)) (omega (arith, ints)) in
    rw (zero-add lane) (ap₂ (λ t b. t *ℤ b) times block))
    c.add_times.ensures

pub returns-clause-small : goal.returns-clause-small
returns-clause-small g c lane below =
    let set = c.args.tables.now in
    let block : get_or c.block-block.result.now lane (pos 0) ≡ block_of_lane set lane (c.args.at.x -ℤ c.args.corner.x) (c.args.at.y -ℤ c.args.corner.y) =
    block-at set.reach (lane_entry set lane) _ _ _ _ _ (c.block-block.ensures.lanes.each lane below) (omega (arith, ints)) (omega (arith, ints)) in
    rw (← block) (times-small c.args.corner.sign (get_or c.block-block.result.now lane (pos 0)) c.requires.corner.2
    (c.block-block.ensures.small lane (omega (arith, c.block-block.ensures.lanes.count))))

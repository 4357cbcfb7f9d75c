use Rattle.std.proofs.Common.{◌≡◌, length, subst, arith}
use Rattle.opc_base.specs.Plane.{cover}
use Rattle.rect_union.specs.CornerCount.{HasCornerCount}
use Rattle.rect_union.proofs.MergingLaws.{corners_counted}
use Rattle.rect_union.proofs.rect_corners.count_corners.Goals as goal

pub returns : goal.returns
returns c =
    let size : length c.in_ok-merged.merged.items ≡ c.len.result = omega arith in
    record { counted = subst (HasCornerCount (cover c.args.rects.now)) size (corners_counted (cover c.args.rects.now) c.in_ok-merged.merged.items c.in_ok-merged.ensures.corners) }

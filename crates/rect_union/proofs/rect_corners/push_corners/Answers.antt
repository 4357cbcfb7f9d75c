use Rattle.std.proofs.Common.{SFits, w8, to_z-of_z}
use Rattle.rect_union.proofs.RectCornerLaws.{pushes_rect, pushes_within}
use Rattle.rect_union.proofs.rect_corners.push_corners.Goals as goal

pub returns-clause-sums : goal.returns-clause-sums
returns-clause-sums c x y =
    let sign_fits : SFits w8 c.args.sign = c.ranges.sign in
    rw (c.in_ok-extend_from_slice.ensures.items, c.four_corners.ensures)
    (simp to_z-of_z (pushes_rect c.args.corners.now.items c.args.rect.now c.args.sign c.requires.solid x y))

pub returns-clause-within : goal.returns-clause-within
returns-clause-within c old near =
    let sign_fits : SFits w8 c.args.sign = c.ranges.sign in
    rw (c.in_ok-extend_from_slice.ensures.items, c.four_corners.ensures)
    (simp to_z-of_z (pushes_within c.args.corners.now.items c.args.rect.now c.args.sign old near))

use Rattle.std.proofs.Common.{◌<◌, length, arith}
use Rattle.rect_union.proofs.TargetLaws.{quadrants_start, quadrants_step}
use Rattle.rect_union.proofs.outlines.quadrants_of.Goals as goal

pub loop-owner-init : goal.loop-owner-init
loop-owner-init c = rw c.new-quadrants.ensures.items quadrants_start

pub loop-owner-preserved : goal.loop-owner-preserved
loop-owner-preserved c =
    let at : c.loop-owner.owner < length c.args.outlines.now = omega arith in
    quadrants_step c.args.outlines.now c.loop-owner.quadrants.items c.add_outline.new.quadrants.items c.loop-owner.owner c.index-outlines-owner.result at
    c.loop-owner.invariant (rw c.index-outlines-owner.is at c.in_ok-add_outline.ensures)

use Rattle.std.proofs.Common.{◌<◌, length, pos, arith}
use Rattle.opc_base.specs.declared.plane.Rect.{Rect}
use Rattle.rect_union.proofs.OutlineLaws.{AddsPath-starts, AddsPath-step}
use Rattle.rect_union.proofs.outlines.add_path.Goals as goal

pub loop-rect-init : goal.loop-rect-init
loop-rect-init c = AddsPath-starts c.args.quadrants.now.items c.args.owner

pub loop-rect-preserved : goal.loop-rect-preserved
loop-rect-preserved c =
    let rect : Rect = record { x0 = pos 0; y0 = pos 0; x1 = pos 0; y1 = pos 0 } in
    let at : c.loop-rect.rect-index < length c.args.rects.now = omega arith in
    AddsPath-step c.args.quadrants.now.items c.loop-rect.quadrants.items c.add_rect.new.quadrants.items c.args.owner c.args.rects.now c.loop-rect.rect-index rect at
    c.loop-rect.invariant c.in_ok-add_rect.ensures

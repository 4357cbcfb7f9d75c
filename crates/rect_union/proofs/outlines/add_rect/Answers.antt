use Rattle.std.proofs.Common.{SFits, w32, to_z-of_z, rules}
use Rattle.rect_union.proofs.OutlineLaws.{AddsCount-rect}
use Rattle.rect_union.proofs.outlines.add_rect.Goals as goal

pub returns : goal.returns
returns c =
    let left_fits : SFits w32 c.args.rect.x0 = search rules in
    let low_fits : SFits w32 c.args.rect.y0 = search rules in
    let right_fits : SFits w32 c.args.rect.x1 = search rules in
    let high_fits : SFits w32 c.args.rect.y1 = search rules in
    AddsCount-rect c.args.quadrants.now.items c.add_edge.new.quadrants.items c.add_edge-2.new.quadrants.items c.args.owner c.args.rect c.requires
    (simp to_z-of_z at c.in_ok-add_edge.ensures) (simp to_z-of_z at c.in_ok-add_edge-2.ensures)

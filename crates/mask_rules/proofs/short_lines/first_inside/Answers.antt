use Rattle.std.proofs.Common.{◌<◌, ◌≤◌, pos, length, SFits, w32, to_z-of_z, arith}
use Rattle.opc_base.specs.declared.plane.Rect.{Rect}
use Rattle.mask_rules.proofs.ShortLineLaws.{short_ends, short_step}
use Rattle.mask_rules.proofs.short_lines.first_inside.Goals as goal

pub loop-rect-preserved : goal.loop-rect-preserved
loop-rect-preserved c =
    let rect : Rect = record { x0 = pos 0; y0 = pos 0; x1 = pos 0; y1 = pos 0 } in
    let at : c.loop-rect.rect-index < length c.args.rects.now = omega arith in
    let least_fits : SFits w32 c.args.least = c.ranges.least in
    let placed = simp to_z-of_z at c.short_place-place.ensures in
    let so_far = simp to_z-of_z at c.loop-rect.invariant in
    rw c.earlier-first.ensures
    (simp to_z-of_z (short_step c.args.turn c.args.out c.args.least c.args.rects.now c.loop-rect.rect-index rect c.loop-rect.first c.short_place-place.result at so_far placed))

pub returns : goal.returns
returns c =
    let all : length c.args.rects.now ≤ c.loop-rect.rect-index = omega arith in
    let least_fits : SFits w32 c.args.least = c.ranges.least in
    let so_far = simp to_z-of_z at c.loop-rect.invariant in
    record { first = short_ends c.args.turn c.args.out c.args.least c.args.rects.now c.loop-rect.rect-index c.loop-rect.first c.requires.canonical all so_far }

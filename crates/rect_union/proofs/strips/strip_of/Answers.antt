use Rattle.std.proofs.Common.{◌∙◌, ◌<◌, ◌≤◌, ◌&&◌, ◌||◌, int_le, int_lt, List, length, pos, take_all, ap, SFits, w32, to_z-of_z, arith}
use Rattle.opc_base.specs.declared.plane.Rect.{Rect}
use Rattle.opc_base.specs.Plane.{cover}
use Rattle.rect_union.proofs.StripLaws.{strip_step}
use Rattle.rect_union.proofs.strips.strip_of.Goals as goal

pub loop-rect-preserved : goal.loop-rect-preserved
loop-rect-preserved c =
    let left_fits : SFits w32 c.args.left = c.ranges.left in
    let right_fits : SFits w32 c.args.right = c.ranges.right in
    let rect : Rect = record { x0 = pos 0; y0 = pos 0; x1 = pos 0; y1 = pos 0 } in
    let at : c.loop-rect.rect-index < length c.args.rects.now = omega arith in
    let so_far = simp to_z-of_z at c.loop-rect.invariant.pixels in
    let pushed = simp to_z-of_z at c.in_ok-push_part.ensures.pixels in
    record {
      placed = c.in_ok-push_part.ensures.placed;
      pixels = λ x y. simp to_z-of_z
          (strip_step c.args.reaching.now c.args.rects.now c.args.left c.args.right x y c.loop-rect.rect-index rect (cover c.loop-rect.seen.items x y)
          (cover c.push_part.new.seen.items x y) at (so_far x y) (pushed x y));
    }

pub returns-clause-pixels : goal.returns-clause-pixels
returns-clause-pixels c x y =
    let left_fits : SFits w32 c.args.left = c.ranges.left in
    let right_fits : SFits w32 c.args.right = c.ranges.right in
    let all : length c.args.rects.now ≤ c.loop-rect.rect-index = omega arith in
    (simp to_z-of_z at c.loop-rect.invariant.pixels) x y
    ∙ ap (λ (l : List Rect). cover c.args.reaching.now x y || (int_le c.args.left x && int_lt x c.args.right && cover l x y))
    (take_all c.loop-rect.rect-index c.args.rects.now all)

use Rattle.std.proofs.Common.{◌∙◌, ◌<◌, ◌≤◌, List, length, take_all, pos, ap, sym, int_le, ◌&&◌, if◌then◌else◌, arith}
use Rattle.std.proofs.lemmas.Int.{ints}
use Rattle.opc_base.specs.declared.plane.Corner.{Corner}
use Rattle.opc_base.specs.declared.plane.Rect.{Rect}
use Rattle.rect_union.specs.Outlines.{path_count, rect_count}
use Rattle.rect_union.proofs.SumLaws.{sum_each-more, sum_each-nil}
use Rattle.rect_union.proofs.rect_corners.rect_corners.Goals as goal

pub loop-rect-init : goal.loop-rect-init
loop-rect-init c x y =
    rw c.new-corners.ensures.items
    (sum_each-nil (λ (c : Corner). if int_le c.x x && int_le c.y y then c.sign else pos 0) ∙ sym (sum_each-nil (λ (r : Rect). rect_count r x y)))

pub loop-rect-preserved : goal.loop-rect-preserved
loop-rect-preserved c x y =
    let rect : Rect = record { x0 = pos 0; y0 = pos 0; x1 = pos 0; y1 = pos 0 } in
    let at : c.loop-rect.rect-index < length c.args.rects.now = omega arith in
    let pushed = c.in_ok-push_corners.ensures.sums x y in
    let so_far = c.loop-rect.invariant x y in
    let more = sum_each-more (λ (r : Rect). rect_count r x y) c.args.rects.now c.loop-rect.rect-index rect at in
    omega (arith, ints)

pub returns : goal.returns
returns c = record {
  sums = λ x y.
      let all : length c.args.rects.now ≤ c.loop-rect.rect-index = omega arith in
      c.loop-rect.invariant x y ∙ ap (λ (l : List Rect). path_count l x y) (take_all c.loop-rect.rect-index c.args.rects.now all);
}

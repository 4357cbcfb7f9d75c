use Rattle.std.proofs.Common.{inl, inr, SFits, w8, to_z-of_z, ◌<◌, ◌≤◌, pos, length, get_or, arith}
use Rattle.std.proofs.Math.Facts.{sfits_lit}
use Rattle.std.proofs.lemmas.Int.{ints}
use Rattle.opc_base.specs.declared.plane.Rect.{Rect}
use Rattle.rect_union.specs.CornerSets.{rect_sign}
use Rattle.rect_union.proofs.SumLaws.{sum_each-more, sum_each-nil}
use Rattle.mask_rules.specs.LineSets.{sign_of, turned_rect}
use Rattle.mask_rules.proofs.LineSetLaws.{corners_of_lines, lines_summed, pixels_of_lines, sign_of_is, turned_within}
use Rattle.mask_rules.proofs.line_sets.line_corners.Goals as goal

pub loop-rect-init : goal.loop-rect-init
loop-rect-init c = record {
  sums = λ x y.
      let none = sum_each-nil (λ (r : Rect). rect_sign (sign_of c.args.out) (turned_rect c.args.turn r) x y) in
      let start = c.in_ok-corners.ensures.sums x y in omega (arith, ints);
  within = c.in_ok-corners.ensures.within;
}

pub loop-rect-preserved : goal.loop-rect-preserved
loop-rect-preserved c =
    let rect : Rect = record { x0 = pos 0; y0 = pos 0; x1 = pos 0; y1 = pos 0 } in
    let at : c.loop-rect.rect-index < length c.args.rects.now = omega arith in
    let sign_fits : SFits w8 (sign_of c.args.out) = elim (sign_of_is c.args.out) [ inl e ↦ rw e (sfits_lit tt) | inr e ↦ rw e (sfits_lit tt) ] in
    record {
      sums = λ x y.
          let more = sum_each-more (λ (r : Rect). rect_sign (sign_of c.args.out) (turned_rect c.args.turn r) x y) c.args.rects.now c.loop-rect.rect-index rect at in
          let pushed = simp to_z-of_z at (rw (c.turned_rect-line.ensures, c.sign_of-sign.ensures) at c.in_ok-push_corners.ensures.sums x y) in
          let so_far = c.loop-rect.invariant.sums x y in omega (arith, ints);
      within = c.in_ok-push_corners.ensures.within c.loop-rect.invariant.within
          (rw c.turned_rect-line.ensures (turned_within c.args.turn (get_or c.args.rects.now c.loop-rect.rect-index rect) (c.requires.within c.loop-rect.rect-index rect at)));
    }

pub returns-clause-set : goal.returns-clause-set
returns-clause-set c =
    let all : length c.args.rects.now ≤ c.loop-rect.rect-index = omega arith in
    corners_of_lines c.args.turn c.args.out c.args.rects.now c.loop-rect.corners.items c.requires.within c.loop-rect.invariant.within
    (lines_summed c.args.turn c.args.out c.args.rects.now c.loop-rect.corners.items c.loop-rect.rect-index c.requires.canonical c.requires.within all c.loop-rect.invariant.sums)

pub returns-clause-pixels : goal.returns-clause-pixels
returns-clause-pixels c =
    let all : length c.args.rects.now ≤ c.loop-rect.rect-index = omega arith in
    pixels_of_lines c.args.turn c.args.out c.args.rects.now c.loop-rect.corners.items
    (lines_summed c.args.turn c.args.out c.args.rects.now c.loop-rect.corners.items c.loop-rect.rect-index c.requires.canonical c.requires.within all c.loop-rect.invariant.sums)

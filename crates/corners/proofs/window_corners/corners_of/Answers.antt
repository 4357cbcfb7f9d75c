use Rattle.std.proofs.Common.{◌≡◌, ℤ, pos, neg_ℤ, ◌+ℤ◌, ◌≤ℤ◌, length, get_or, map, take, take_all, sym, ap, ◌∙◌, subst, All, arith}
use Rattle.std.proofs.lemmas.List.Sorted.{All-permutation}
use Rattle.opc_base.specs.Corners.{point_sum, quadrant_sum}
use Rattle.opc_base.specs.Plane.{cover, indicator, rect_cover}
use Rattle.opc_base.specs.declared.plane.Rect.{Rect}
use Rattle.opc_base.proofs.SumLaws.{sum_each-more, sum_each_start}
use Rattle.corners.specs.Points.{corner_from, quadrants}
use Rattle.signed_points.specs.Points.{IsInOrder, SignsWithin}
use Rattle.corners.specs.Windows.{AreInRows, IsCornerIn, LieWithin, clip, in_window}
use Rattle.corners.proofs.LimitLaws.{in_square, limit_square, limit_square_within}
use Rattle.corners.proofs.MergeLaws.{quadrants-nil}
use Rattle.corners.proofs.RegionLaws.{corners_within}
use Rattle.signed_points.proofs.MergeLaws.{in_order}
use Rattle.corners.proofs.SignLaws.{add_up_near, each_in, in_rows, quadrants_are, signs_are, signs_within}
use Rattle.corners.proofs.WindowLaws.{merged_sums}
use Rattle.corners.proofs.window_corners.corners_of.Goals as goal

pub loop-rect-init : goal.loop-rect-init
loop-rect-init c = record {
  signs = λ k d below. absurd (omega (arith, ap length c.new-points.ensures.items));
  sums = λ y x. ap (λ ps. quadrants ps y x) c.new-points.ensures.items ∙ quadrants-nil y x ∙ sum_each_start (λ (r : Rect). indicator (rect_cover (clip c.args.window r)) x y);
  few = omega (arith, ap length c.new-points.ensures.items);
}

pub loop-rect-preserved : goal.loop-rect-preserved
loop-rect-preserved c =
    let none : Rect = record { x0 = pos 0; y0 = pos 0; x1 = pos 0; y1 = pos 0 } in
    let rect : Rect = get_or c.args.rects.now c.loop-rect.rect-index none in
    record {
      signs = c.in_ok-push_seen.ensures.signs;
      sums = λ y x.
          c.in_ok-push_seen.ensures.sums y x
          ∙ ap (λ q. q +ℤ indicator (rect_cover (clip c.args.window rect)) x y) (c.loop-rect.invariant.sums y x)
          ∙ sym (sum_each-more (λ (r : Rect). indicator (rect_cover (clip c.args.window r)) x y) c.args.rects.now c.loop-rect.rect-index none c.loop-rect-test.true);
      few = (let more = c.in_ok-push_seen.ensures.few in let before = c.loop-rect.invariant.few in omega arith);
    }

pub merge_points-requires-clause-order : goal.merge_points-requires-clause-order
merge_points-requires-clause-order c =
    subst IsInOrder (sym c.deref.ensures.value) (in_order c.sort_unstable.new.self.items c.sort_unstable.ensures.sorted)

pub merge_points-requires-clause-signs : goal.merge_points-requires-clause-signs
merge_points-requires-clause-signs c =
    subst (SignsWithin 1) (sym c.deref.ensures.value)
    (All-permutation (λ d. (neg_ℤ (pos 1) ≤ℤ d.sign) × (d.sign ≤ℤ pos 1)) c.loop-rect.points.items c.sort_unstable.new.self.items
    c.sort_unstable.ensures.permutation c.loop-rect.invariant.signs)

-- the merged points add up to what the window shows
sums : (c : goal.After-deref-2) (y x : ℤ) → quadrants c.in_ok-merged.merged.items y x ≡ indicator (in_window c.args.window (cover c.args.rects.now)) x y
sums c =
    merged_sums c.args.window c.args.rects.now (take c.loop-rect.rect-index c.args.rects.now) c.loop-rect.points.items c.sort_unstable.new.self.items c.deref.result.now
    c.in_ok-merged.merged.items c.requires.apart (take_all c.loop-rect.rect-index c.args.rects.now (omega arith)) c.loop-rect.invariant.sums
    c.sort_unstable.ensures.permutation c.deref.ensures.value c.in_ok-merged.ensures.sums

pub corners_from-requires : goal.corners_from-requires
corners_from-requires c =
    subst (SignsWithin 2) (sym c.deref-2.ensures.value)
    (signs_within c.args.window (cover c.args.rects.now) c.in_ok-merged.merged.items c.in_ok-merged.ensures.ascending c.in_ok-merged.ensures.signed (sums c))

sums_then : (c : goal.After-drop-points-2) (y x : ℤ) → quadrants c.in_ok-merged.merged.items y x ≡ indicator (in_window c.args.window (cover c.args.rects.now)) x y
sums_then c =
    merged_sums c.args.window c.args.rects.now (take c.loop-rect.rect-index c.args.rects.now) c.loop-rect.points.items c.sort_unstable.new.self.items c.deref.result.now
    c.in_ok-merged.merged.items c.requires.apart (take_all c.loop-rect.rect-index c.args.rects.now (omega arith)) c.loop-rect.invariant.sums
    c.sort_unstable.ensures.permutation c.deref.ensures.value c.in_ok-merged.ensures.sums

-- the corners are the merged points
made : (c : goal.After-drop-points-2) → c.in_ok-corners.corners.items ≡ map corner_from c.in_ok-merged.merged.items
made c = c.in_ok-corners.ensures ∙ ap (map corner_from) c.deref-2.ensures.value

pub returns-clause-rows : goal.returns-clause-rows
returns-clause-rows c =
    subst AreInRows (sym (made c))
    (in_rows c.args.window (cover c.args.rects.now) c.in_ok-merged.merged.items c.in_ok-merged.ensures.ascending c.in_ok-merged.ensures.signed (sums_then c))

pub returns-clause-each : goal.returns-clause-each
returns-clause-each c =
    subst (All (IsCornerIn c.args.window)) (sym (made c))
    (each_in c.args.window (cover c.args.rects.now) c.in_ok-merged.merged.items c.in_ok-merged.ensures.ascending c.in_ok-merged.ensures.signed (sums_then c))

pub returns-clause-within : goal.returns-clause-within
returns-clause-within c most within =
    let seen = in_window c.args.window (cover c.args.rects.now) in
    subst (LieWithin most) (sym (made c))
    (corners_within most (limit_square most) (map corner_from c.in_ok-merged.merged.items) (limit_square_within most)
    (each_in (limit_square most) seen c.in_ok-merged.merged.items c.in_ok-merged.ensures.ascending c.in_ok-merged.ensures.signed
    (λ y x. sums_then c y x ∙ in_square most c.args.window c.args.rects.now x y within)))

pub returns-clause-signs : goal.returns-clause-signs
returns-clause-signs c x y =
    ap (λ corners. point_sum corners x y) (made c)
    ∙ signs_are c.args.window (cover c.args.rects.now) c.in_ok-merged.merged.items c.in_ok-merged.ensures.ascending c.in_ok-merged.ensures.signed (sums_then c) x y

pub returns-clause-quadrants : goal.returns-clause-quadrants
returns-clause-quadrants c x y =
    ap (λ corners. quadrant_sum corners x y) (made c)
    ∙ quadrants_are c.args.window (cover c.args.rects.now) c.in_ok-merged.merged.items c.in_ok-merged.ensures.ascending c.in_ok-merged.ensures.signed (sums_then c) x y

pub returns-clause-near : goal.returns-clause-near
returns-clause-near c reach x y shows =
    add_up_near c.args.window (cover c.args.rects.now) c.in_ok-corners.corners.items reach x y (returns-clause-quadrants c) shows

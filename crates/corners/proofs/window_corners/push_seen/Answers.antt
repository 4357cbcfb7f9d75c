use Rattle.std.proofs.Common.{◌≡◌, ℤ, pos, ◌+ℤ◌, ap, ◌∙◌, arith}
use Rattle.std.proofs.lemmas.Int.{ints}
use Rattle.opc_base.specs.Plane.{indicator, rect_cover}
use Rattle.opc_base.specs.declared.plane.Rect.{Rect}
use Rattle.corners.specs.Points.{quadrants}
use Rattle.corners.proofs.WindowLaws.{area_of, flat-cover}
use Rattle.corners.proofs.window_corners.push_seen.Goals as goal

pub push_points-requires-clause-area : goal.push_points-requires-clause-area
push_points-requires-clause-area c = area_of c.clipped-seen.result c.has_area.result c.has_area.ensures c.if-has_area.true

pub returns-in_ok-push_points-clause-sums : goal.returns-in_ok-push_points-clause-sums
returns-in_ok-push_points-clause-sums c y x =
    c.in_ok-push_points.ensures.sums y x
    ∙ ap (λ (r : Rect). quadrants c.args.points.now.items y x +ℤ indicator (rect_cover r) x y) c.clipped-seen.ensures.is

pub returns-else-has_area-clause-sums : goal.returns-else-has_area-clause-sums
returns-else-has_area-clause-sums c y x =
    let none = flat-cover c.clipped-seen.result c.has_area.result x y c.has_area.ensures c.if-has_area.false in
    kept (quadrants c.args.points.now.items y x) _ _ none (ap (λ (r : Rect). indicator (rect_cover r) x y) c.clipped-seen.ensures.is)
  where
    kept : (q a b : ℤ) → a ≡ pos 0 → a ≡ b → q ≡ q +ℤ b
    kept q a b none same = omega (arith, ints)

use Rattle.std.proofs.Common.{pos, get_or, SFits, w32, to_z-of_z, rules, arith}
use Rattle.std.proofs.lemmas.Int.{ints}
use Rattle.signed_points.specs.declared.points.Point.{Point}
use Rattle.corners.proofs.WindowLaws.{corner_is, pushed_corner}
use Rattle.corners.proofs.window_corners.corners_from.Goals as goal

pub loop-point-preserved : goal.loop-point-preserved
loop-point-preserved c =
    let d : Point = record { line = pos 0; place = pos 0; sign = pos 0 } in
    let p : Point = get_or c.args.points.now c.loop-point.point-index d in
    let x_fits : SFits w32 p.place = search rules in
    let y_fits : SFits w32 p.line = search rules in
    let bounds = c.requires c.loop-point.point-index d c.loop-point-test.true in
    let low = bounds.0 in
    let high = bounds.1 in
    pushed_corner c.args.points.now c.loop-point.point-index d _ _ _ c.loop-point-test.true c.loop-point.invariant c.in_ok-push.ensures.items
    (corner_is _ _ _ p.place p.line p.sign (to_z-of_z x_fits) (to_z-of_z y_fits) (omega (arith, ints)))

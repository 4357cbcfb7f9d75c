use Rattle.std.proofs.Common.{SFits, to_z, w32, refl, rules, arith}
use Rattle.std.proofs.lemmas.Int.{clamps, ints, to_z-of_z}
use Rattle.opc_engine.proofs.BarPrintLaws.{columns_do_not, columns_print, fits_window, none_in_band, start_left}
use Rattle.opc_engine.proofs.bar_print.band_prints.Goals as goal

pub loop-x0-init : goal.loop-x0-init
loop-x0-init g c =
    let fits : SFits w32 c.args.band.x0 = search rules in
    rw (to_z-of_z w32 c.args.band.x0 fits) (start_left c.args.light.now c.args.band)

pub window_prints-requires-clause-window : goal.window_prints-requires-clause-window
window_prints-requires-clause-window g c κs within =
    let near = c.requires.band.near in let low = near.0 in let high = near.2 in
    let from = c.loop-x0.invariant.from in let at = c.loop-x0-test.true in let same = c.loop-x0.x0-is in
    let value = c.min-x1.ensures.value in let self = c.min-x1.ensures.self_bound in let other = c.min-x1.ensures.other_bound in
    fits_window c.args.band c.columns_of-window.result _ _ c.columns_of-window.ensures c.requires.band (omega (arith, ints, clamps)) (omega (arith, ints, clamps)) (omega (arith, ints, clamps)) (omega (arith, ints, clamps))

pub returns-then-prints : goal.returns-then-prints
returns-then-prints g c =
    let near = c.requires.band.near in let low = near.0 in let high = near.2 in
    let from = c.loop-x0.invariant.from in let at = c.loop-x0-test.true in let same = c.loop-x0.x0-is in
    let self = c.min-x1.ensures.self_bound in let other = c.min-x1.ensures.other_bound in (
      λ _. columns_print c.args.light.now c.args.band c.columns_of-window.result _ _ (to_z w32 c.loop-x0.x0-bits) c.columns_of-window.ensures (c.in_ok-prints.ensures.0 c.if-prints.true) c.loop-x0.invariant
          (omega (arith, ints)) (omega (arith, ints)),
      λ _. refl,
    )

pub loop-x0-smaller : goal.loop-x0-smaller
loop-x0-smaller g c =
    let near = c.requires.band.near in let low = near.0 in let high = near.2 in
    let from = c.loop-x0.invariant.from in let at = c.loop-x0-test.true in let same = c.loop-x0.x0-is in
    let value = c.min-x1.ensures.value in let self = c.min-x1.ensures.self_bound in let other = c.min-x1.ensures.other_bound in
    omega (arith, ints, clamps)

pub loop-x0-preserved : goal.loop-x0-preserved
loop-x0-preserved g c =
    let near = c.requires.band.near in let low = near.0 in let high = near.2 in
    let from = c.loop-x0.invariant.from in let at = c.loop-x0-test.true in let same = c.loop-x0.x0-is in
    let value = c.min-x1.ensures.value in let self = c.min-x1.ensures.self_bound in let other = c.min-x1.ensures.other_bound in
    columns_do_not c.args.light.now c.args.band c.columns_of-window.result _ _ (to_z w32 c.loop-x0.x0-bits) c.in_ok-prints.prints c.columns_of-window.ensures c.in_ok-prints.ensures.1 c.if-prints.false c.loop-x0.invariant
    (omega (arith, ints)) (omega (arith, ints, clamps))

pub returns : goal.returns
returns g c =
    let at = c.loop-x0-test.false in let same = c.loop-x0.x0-is in (
      λ on. absurd (cc on),
      λ h. absurd (none_in_band c.args.light.now c.args.band (to_z w32 c.loop-x0.x0-bits) c.loop-x0.invariant (omega (arith, ints)) h),
    )

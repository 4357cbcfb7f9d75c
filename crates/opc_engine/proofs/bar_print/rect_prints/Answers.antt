use Rattle.std.proofs.Common.{SFits, to_z, w32, refl, rules, arith}
use Rattle.std.proofs.lemmas.Int.{clamps, ints, to_z-of_z}
use Rattle.opc_engine.proofs.BarPrintLaws.{fits_band, none_at_all, rows_do_not, rows_print, start_below}
use Rattle.opc_engine.proofs.bar_print.rect_prints.Goals as goal

pub loop-y0-init : goal.loop-y0-init
loop-y0-init g c =
    let fits : SFits w32 c.args.rect.y0 = search rules in
    rw (to_z-of_z w32 c.args.rect.y0 fits) (start_below c.args.light.now c.args.rect)

pub band_prints-requires-clause-band : goal.band_prints-requires-clause-band
band_prints-requires-clause-band g c κs within =
    let near = c.requires.rect in let low = near.1 in let high = near.3 in
    let from = c.loop-y0.invariant.from in let at = c.loop-y0-test.true in let same = c.loop-y0.y0-is in
    let value = c.min-y1.ensures.value in let self = c.min-y1.ensures.self_bound in let other = c.min-y1.ensures.other_bound in
    fits_band c.args.rect c.rows_of-band.result _ _ c.rows_of-band.ensures c.requires.rect (omega (arith, ints, clamps)) (omega (arith, ints, clamps)) (omega (arith, ints, clamps)) (omega (arith, ints, clamps))

pub returns-then-prints : goal.returns-then-prints
returns-then-prints g c =
    let near = c.requires.rect in let low = near.1 in let high = near.3 in
    let from = c.loop-y0.invariant.from in let at = c.loop-y0-test.true in let same = c.loop-y0.y0-is in
    let self = c.min-y1.ensures.self_bound in let other = c.min-y1.ensures.other_bound in (
      λ _. rows_print c.args.light.now c.args.rect c.rows_of-band.result _ _ (to_z w32 c.loop-y0.y0-bits) c.rows_of-band.ensures (c.in_ok-prints.ensures.0 c.if-prints.true) c.loop-y0.invariant
          (omega (arith, ints)) (omega (arith, ints)),
      λ _. refl,
    )

pub loop-y0-smaller : goal.loop-y0-smaller
loop-y0-smaller g c =
    let near = c.requires.rect in let low = near.1 in let high = near.3 in
    let from = c.loop-y0.invariant.from in let at = c.loop-y0-test.true in let same = c.loop-y0.y0-is in
    let value = c.min-y1.ensures.value in let self = c.min-y1.ensures.self_bound in let other = c.min-y1.ensures.other_bound in
    omega (arith, ints, clamps)

pub loop-y0-preserved : goal.loop-y0-preserved
loop-y0-preserved g c =
    let near = c.requires.rect in let low = near.1 in let high = near.3 in
    let from = c.loop-y0.invariant.from in let at = c.loop-y0-test.true in let same = c.loop-y0.y0-is in
    let value = c.min-y1.ensures.value in let self = c.min-y1.ensures.self_bound in let other = c.min-y1.ensures.other_bound in
    rows_do_not c.args.light.now c.args.rect c.rows_of-band.result _ _ (to_z w32 c.loop-y0.y0-bits) c.in_ok-prints.prints c.rows_of-band.ensures c.in_ok-prints.ensures.1 c.if-prints.false c.loop-y0.invariant
    (omega (arith, ints)) (omega (arith, ints, clamps))

pub returns : goal.returns
returns g c =
    let at = c.loop-y0-test.false in let same = c.loop-y0.y0-is in (
      λ on. absurd (cc on),
      λ h. absurd (none_at_all c.args.light.now c.args.rect (to_z w32 c.loop-y0.y0-bits) c.loop-y0.invariant (omega (arith, ints)) h),
    )

use Rattle.std.proofs.Common.{SFits, w32, to_z-of_z, rules}
use Rattle.opc_base.specs.Plane.{cover}
use Rattle.mask_rules.proofs.TargetLaws.{verdict_broken, verdict_kept}
use Rattle.mask_rules.proofs.target_check.check_target.Goals as goal

pub first_too_narrow-requires-2-clause-within : goal.first_too_narrow-requires-2-clause-within
first_too_narrow-requires-2-clause-within c = rw c.rects-rects.ensures.list c.requires.within

pub first_touch-requires-clause-within : goal.first_touch-requires-clause-within
first_touch-requires-clause-within c = rw c.rects-rects.ensures.list c.requires.within

pub returns-clause-broken : goal.returns-clause-broken
returns-clause-broken c =
    let width_fits : SFits w32 c.args.rules.now.width = search rules in
    let space_fits : SFits w32 c.args.rules.now.space = search rules in
    let narrow = simp to_z-of_z at (rw c.rects-rects.ensures.list at c.in_ok-narrow.ensures.first) in
    let tight = simp to_z-of_z at (rw c.rects-rects.ensures.list at c.in_ok-tight.ensures.first) in
    rw c.verdict.ensures
    (verdict_broken c.args.rules.now (cover c.args.region.now) c.in_ok-narrow.narrow c.in_ok-tight.tight c.in_ok-touch.touch narrow tight
    (rw c.rects-rects.ensures.list at c.in_ok-touch.ensures.touch))

pub returns-clause-kept : goal.returns-clause-kept
returns-clause-kept c =
    let width_fits : SFits w32 c.args.rules.now.width = search rules in
    let space_fits : SFits w32 c.args.rules.now.space = search rules in
    let narrow = simp to_z-of_z at (rw c.rects-rects.ensures.list at c.in_ok-narrow.ensures.first) in
    let tight = simp to_z-of_z at (rw c.rects-rects.ensures.list at c.in_ok-tight.ensures.first) in
    rw c.verdict.ensures
    (verdict_kept c.args.rules.now (cover c.args.region.now) c.in_ok-narrow.narrow c.in_ok-tight.tight c.in_ok-touch.touch narrow tight
    (rw c.rects-rects.ensures.list at c.in_ok-touch.ensures.touch))

use Rattle.std.proofs.Common.{◌∙◌, refl, arith}
use Rattle.std.proofs.lemmas.Int.{ints}
use Rattle.opc_base.specs.Plane.{cover}
use Rattle.rect_union.proofs.StripLaws.{more_by_strips, rects_inside, strips_end, widened_strips}
use Rattle.rect_union.proofs.strips.striped_within.Goals as goal

pub loop-border-init : goal.loop-border-init
loop-border-init c = c.new-strips.ensures.valid (cover c.args.rects.now) (rects_inside c.args.rects.now c.requires.placed)

pub loop-border-preserved : goal.loop-border-preserved
loop-border-preserved c =
    widened_strips (cover c.args.rects.now) c.args.rects.now c.loop-border.strips c.widen.new.self c.loop-border.invariant c.in_ok-widen.ensures.widened (λ x y from to. refl)

pub returns-then-len-most-clause-stopped : goal.returns-then-len-most-clause-stopped
returns-then-len-most-clause-stopped c =
    let valid = widened_strips (cover c.args.rects.now) c.args.rects.now c.loop-border.strips c.widen.new.self c.loop-border.invariant c.in_ok-widen.ensures.widened (λ x y from to. refl) in
    more_by_strips c.args.most (cover c.args.rects.now) c.widen.new.self.done.items c.widen.new.self.reaching.items c.widen.new.self.border (omega arith) valid.parted valid.pixels

pub returns-clause-pixels : goal.returns-clause-pixels
returns-clause-pixels c x y =
    let valid = widened_strips (cover c.args.rects.now) c.args.rects.now c.loop-border.strips c.widen-2.new.self c.loop-border.invariant c.in_ok-widen-2.ensures.widened (λ t s from to. refl) in
    c.sort_starts.ensures.pixels x y
    ∙ strips_end (cover c.args.rects.now) c.widen-2.new.self.done.items c.widen-2.new.self.reaching.items c.widen-2.new.self.border x y (rects_inside c.args.rects.now c.requires.placed)
    valid.parted.reach (let far = c.in_ok-widen-2.ensures.reached in omega (arith, ints)) valid.pixels

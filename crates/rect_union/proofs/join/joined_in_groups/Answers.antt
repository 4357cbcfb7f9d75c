use Rattle.std.proofs.Common.{◌∙◌}
use Rattle.opc_base.specs.Target.{target}
use Rattle.rect_union.proofs.SetLaws.{if_none, if_some, more_for}
use Rattle.rect_union.proofs.join.joined_in_groups.Goals as goal

pub returns-clause-pixels : goal.returns-clause-pixels
returns-clause-pixels c =
    let pixels = rw c.deref.ensures.value at c.in_ok-found.ensures.pixels in
    if_some c.in_ok-found.found pixels (λ rects covered x y. covered x y ∙ c.loop.invariant.pixels x y)

pub returns-clause-stopped : goal.returns-clause-stopped
returns-clause-stopped c =
    let stopped = rw c.deref.ensures.value at c.in_ok-found.ensures.stopped in
    if_none c.in_ok-found.found stopped (more_for (target c.loop.joined.items) (target c.args.outlines.now) c.args.most c.loop.invariant.pixels)

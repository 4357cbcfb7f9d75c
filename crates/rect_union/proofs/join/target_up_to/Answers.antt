use Rattle.std.proofs.Common.{◌∙◌}
use Rattle.opc_base.specs.Plane.{cover}
use Rattle.opc_base.specs.Target.{target}
use Rattle.rect_union.proofs.SetLaws.{if_none, if_some, if_some_both, more_for}
use Rattle.rect_union.proofs.WithinLaws.{rects_are_within}
use Rattle.rect_union.proofs.join.target_up_to.Goals as goal

pub returns-clause-within : goal.returns-clause-within
returns-clause-within c =
    let pixels = rw c.deref-3.ensures.value at c.in_ok-found.ensures.pixels in
    if_some_both c.in_ok-found.found c.in_ok-found.ensures.canonical pixels
    (λ rects canonical covered. rects_are_within c.args.outlines.now rects.items c.requires.placed canonical
    (λ x y. covered x y ∙ c.in_ok-rects.ensures.pixels x y))

pub returns-clause-pixels : goal.returns-clause-pixels
returns-clause-pixels c =
    let pixels = rw c.deref-3.ensures.value at c.in_ok-found.ensures.pixels in
    if_some c.in_ok-found.found pixels (λ rects covered x y. covered x y ∙ c.in_ok-rects.ensures.pixels x y)

pub returns-clause-stopped : goal.returns-clause-stopped
returns-clause-stopped c =
    let stopped = rw c.deref-3.ensures.value at c.in_ok-found.ensures.stopped in
    if_none c.in_ok-found.found stopped (more_for (cover c.in_ok-rects.rects.items) (target c.args.outlines.now) c.args.most c.in_ok-rects.ensures.pixels)

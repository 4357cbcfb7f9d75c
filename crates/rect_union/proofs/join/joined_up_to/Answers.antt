use Rattle.std.proofs.Common.{◌∙◌}
use Rattle.rect_union.proofs.WithinLaws.{rects_are_within}
use Rattle.rect_union.proofs.join.joined_up_to.Goals as goal

pub returns-in-Swept-clause-within : goal.returns-in-Swept-clause-within
returns-in-Swept-clause-within c =
    let canonical = rw c.in-Swept.is at c.in_ok-end.ensures.canonical in
    let pixels = rw (c.in-Swept.is, c.deref.ensures.value) at c.in_ok-end.ensures.pixels in
    rects_are_within c.args.outlines.now c.in-Swept.swept.items c.requires.placed canonical (λ x y. pixels x y ∙ c.in_ok-rects.ensures.pixels x y)

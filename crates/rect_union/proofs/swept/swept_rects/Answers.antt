use Rattle.std.proofs.Common.{length, ◌∙◌, arith}
use Rattle.rect_union.proofs.TargetLaws.{is_wound-target, quadrants_sorted}
use Rattle.rect_union.proofs.WithinLaws.{rects_are_within}
use Rattle.rect_union.proofs.swept.swept_rects.Goals as goal

pub region_of_quadrants-requires-clause-owners : goal.region_of_quadrants-requires-clause-owners
region_of_quadrants-requires-clause-owners c =
    let sorted = quadrants_sorted c.args.outlines.now c.in_ok-quadrants.quadrants.items c.sort_rows.new.quadrants.items c.sort_rows.ensures.permutation c.in_ok-quadrants.ensures in
    rw c.deref.ensures.value (sorted.owners (length c.args.outlines.now) (omega arith))

pub region_of_quadrants-requires-clause-small : goal.region_of_quadrants-requires-clause-small
region_of_quadrants-requires-clause-small c =
    let sorted = quadrants_sorted c.args.outlines.now c.in_ok-quadrants.quadrants.items c.sort_rows.new.quadrants.items c.sort_rows.ensures.permutation c.in_ok-quadrants.ensures in
    let small = sorted.small in rw c.deref.ensures.value (omega arith)

pub region_of_quadrants-requires-clause-closed_right : goal.region_of_quadrants-requires-clause-closed_right
region_of_quadrants-requires-clause-closed_right c =
    let sorted = quadrants_sorted c.args.outlines.now c.in_ok-quadrants.quadrants.items c.sort_rows.new.quadrants.items c.sort_rows.ensures.permutation c.in_ok-quadrants.ensures in
    rw c.deref.ensures.value sorted.rows

pub region_of_quadrants-requires-clause-closed_above : goal.region_of_quadrants-requires-clause-closed_above
region_of_quadrants-requires-clause-closed_above c =
    let sorted = quadrants_sorted c.args.outlines.now c.in_ok-quadrants.quadrants.items c.sort_rows.new.quadrants.items c.sort_rows.ensures.permutation c.in_ok-quadrants.ensures in
    rw c.deref.ensures.value sorted.columns

pub returns-clause-within : goal.returns-clause-within
returns-clause-within c =
    let sorted = quadrants_sorted c.args.outlines.now c.in_ok-quadrants.quadrants.items c.sort_rows.new.quadrants.items c.sort_rows.ensures.permutation c.in_ok-quadrants.ensures in
    let pixels = rw c.deref.ensures.value at c.in_ok-rects.ensures.pixels in
    rects_are_within c.args.outlines.now c.in_ok-rects.rects.items c.requires.placed c.in_ok-rects.ensures.canonical
    (λ x y. pixels x y ∙ is_wound-target c.args.outlines.now c.sort_rows.new.quadrants.items x y sorted)

pub returns-clause-pixels : goal.returns-clause-pixels
returns-clause-pixels c x y =
    let sorted = quadrants_sorted c.args.outlines.now c.in_ok-quadrants.quadrants.items c.sort_rows.new.quadrants.items c.sort_rows.ensures.permutation c.in_ok-quadrants.ensures in
    let pixels = rw c.deref.ensures.value at c.in_ok-rects.ensures.pixels in
    pixels x y ∙ is_wound-target c.args.outlines.now c.sort_rows.new.quadrants.items x y sorted

use Rattle.std.proofs.Common.{◌∙◌, length, arith}
use Rattle.rect_union.proofs.TargetLaws.{is_wound-target, quadrants_sorted}
use Rattle.opc_base.specs.Target.{target}
use Rattle.rect_union.specs.Quadrants.{is_wound}
use Rattle.rect_union.proofs.SetLaws.{if_none, if_some, if_some_both, more_for}
use Rattle.rect_union.proofs.WithinLaws.{rects_are_within}
use Rattle.rect_union.proofs.swept.swept_up_to.Goals as goal

pub region_up_to-requires : goal.region_up_to-requires
region_up_to-requires c =
    let sorted = quadrants_sorted c.args.outlines.now c.in_ok-quadrants.quadrants.items c.sort_rows.new.quadrants.items c.sort_rows.ensures.permutation c.in_ok-quadrants.ensures in
    rw c.deref.ensures.value
    (record {
      order = c.sort_rows.ensures.rows;
      owners = sorted.owners (length c.args.outlines.now) (omega arith);
      small = let small = sorted.small in omega arith;
      closed_right = sorted.rows;
      closed_above = sorted.columns;
    })

pub returns-clause-within : goal.returns-clause-within
returns-clause-within c =
    let sorted = quadrants_sorted c.args.outlines.now c.in_ok-quadrants.quadrants.items c.sort_rows.new.quadrants.items c.sort_rows.ensures.permutation c.in_ok-quadrants.ensures in
    let pixels = rw c.deref.ensures.value at c.in_ok-found.ensures.pixels in
    if_some_both c.in_ok-found.found c.in_ok-found.ensures.canonical pixels
    (λ rects canonical covered. rects_are_within c.args.outlines.now rects.items c.requires.placed canonical
    (λ x y. covered x y ∙ is_wound-target c.args.outlines.now c.sort_rows.new.quadrants.items x y sorted))

pub returns-clause-pixels : goal.returns-clause-pixels
returns-clause-pixels c =
    let sorted = quadrants_sorted c.args.outlines.now c.in_ok-quadrants.quadrants.items c.sort_rows.new.quadrants.items c.sort_rows.ensures.permutation c.in_ok-quadrants.ensures in
    let pixels = rw c.deref.ensures.value at c.in_ok-found.ensures.pixels in
    if_some c.in_ok-found.found pixels (λ rects covered x y. covered x y ∙ is_wound-target c.args.outlines.now c.sort_rows.new.quadrants.items x y sorted)

pub returns-clause-stopped : goal.returns-clause-stopped
returns-clause-stopped c =
    let sorted = quadrants_sorted c.args.outlines.now c.in_ok-quadrants.quadrants.items c.sort_rows.new.quadrants.items c.sort_rows.ensures.permutation c.in_ok-quadrants.ensures in
    let stopped = rw c.deref.ensures.value at c.in_ok-found.ensures.stopped in
    if_none c.in_ok-found.found stopped
    (more_for (is_wound (length c.args.outlines.now) c.sort_rows.new.quadrants.items) (target c.args.outlines.now) c.args.most
    (λ x y. is_wound-target c.args.outlines.now c.sort_rows.new.quadrants.items x y sorted))

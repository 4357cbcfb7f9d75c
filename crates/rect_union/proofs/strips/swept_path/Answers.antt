use Rattle.std.proofs.Common.{◌∙◌, sym, arith}
use Rattle.rect_union.proofs.TargetLaws.{path_sorted, path_wound}
use Rattle.rect_union.proofs.WithinLaws.{rects_in_limit, rects_within}
use Rattle.rect_union.proofs.strips.swept_path.Goals as goal

pub region_of_quadrants-requires : goal.region_of_quadrants-requires
region_of_quadrants-requires c =
    let adds = rw c.deref.ensures.value at (rw c.new-quadrants.ensures.items at c.in_ok-add_path.ensures) in
    let sorted = path_sorted c.args.rects.items c.add_path.new.quadrants.items c.sort_rows.new.quadrants.items adds c.sort_rows.ensures.permutation in
    rw c.deref-2.ensures.value
    (record {
      order = c.sort_rows.ensures.rows;
      owners = sorted.owners 1 (omega arith);
      small = let small = sorted.small in omega arith;
      closed_right = sorted.rows;
      closed_above = sorted.columns;
    })

pub returns-clause-placed : goal.returns-clause-placed
returns-clause-placed c =
    let adds = rw c.deref.ensures.value at (rw c.new-quadrants.ensures.items at c.in_ok-add_path.ensures) in
    let sorted = path_sorted c.args.rects.items c.add_path.new.quadrants.items c.sort_rows.new.quadrants.items adds c.sort_rows.ensures.permutation in
    let pixels = rw c.deref-2.ensures.value at c.in_ok-swept.ensures.pixels in
    record {
      solid = c.in_ok-swept.ensures.canonical.solid;
      within = rects_in_limit 1048576 c.in_ok-swept.swept.items c.in_ok-swept.ensures.canonical.solid
          (λ x y is. rects_within 1048576 c.args.rects.items x y c.requires.placed.within
          (sym (pixels x y ∙ path_wound c.args.rects.items c.sort_rows.new.quadrants.items x y sorted) ∙ is));
    }

pub returns-clause-pixels : goal.returns-clause-pixels
returns-clause-pixels c x y =
    let adds = rw c.deref.ensures.value at (rw c.new-quadrants.ensures.items at c.in_ok-add_path.ensures) in
    let sorted = path_sorted c.args.rects.items c.add_path.new.quadrants.items c.sort_rows.new.quadrants.items adds c.sort_rows.ensures.permutation in
    let pixels = rw c.deref-2.ensures.value at c.in_ok-swept.ensures.pixels in
    pixels x y ∙ path_wound c.args.rects.items c.sort_rows.new.quadrants.items x y sorted

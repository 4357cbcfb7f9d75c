use Rattle.std.proofs.Common.{◌∙◌, sym, arith}
use Rattle.rect_union.proofs.CornerLaws.{corners_sorted}
use Rattle.rect_union.proofs.WithinLaws.{corners_cover_within}
use Rattle.rect_union.proofs.corners.corner_rects.Goals as goal

pub rects_of_quadrants-requires : goal.rects_of_quadrants-requires
rects_of_quadrants-requires c =
    let sorted = corners_sorted c.args.corners.now c.in_ok-quadrants.quadrants.items c.sort_rows.new.quadrants.items c.requires.corners c.in_ok-quadrants.ensures.small c.in_ok-quadrants.ensures.quadrants c.sort_rows.ensures.permutation in
    rw c.deref.ensures.value
    (record {
      swept = record {
        order = c.sort_rows.ensures.rows;
        owners = sorted.owners;
        small = let small = sorted.small in omega arith;
        closed_right = sorted.rows;
        closed_above = sorted.columns;
      };
      near = λ x y is. corners_cover_within 1048576 c.args.corners.now x y (omega arith) c.requires.corners.within c.requires.corners (sym (sorted.covers x y) ∙ is);
    })

pub returns-clause-pixels : goal.returns-clause-pixels
returns-clause-pixels c x y =
    let sorted = corners_sorted c.args.corners.now c.in_ok-quadrants.quadrants.items c.sort_rows.new.quadrants.items c.requires.corners c.in_ok-quadrants.ensures.small c.in_ok-quadrants.ensures.quadrants c.sort_rows.ensures.permutation in
    let pixels = rw c.deref.ensures.value at c.in_ok-rects.ensures.pixels in pixels x y ∙ sorted.covers x y

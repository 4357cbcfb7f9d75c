use Rattle.std.proofs.Common.{◌∙◌, SFits, w32, to_z-of_z}
use Rattle.rect_union.proofs.CutLaws.{cut_swept, cut_wound}
use Rattle.rect_union.proofs.cut.strip_rects.Goals as goal

pub region_of_quadrants-requires : goal.region_of_quadrants-requires
region_of_quadrants-requires c =
    let left_fits : SFits w32 c.args.left = c.ranges.left in
    let right_fits : SFits w32 c.args.right = c.ranges.right in
    let cut = simp to_z-of_z at c.in_ok-seen.ensures.cut in
    let swept = cut_swept c.args.owners c.args.quadrants.now c.in_ok-seen.seen.items c.args.left c.args.right c.requires.wide c.requires.swept cut in
    rw c.deref.ensures.value
    (record {
      order = swept.order;
      owners = swept.owners;
      small = swept.small;
      closed_right = swept.closed_right;
      closed_above = swept.closed_above;
    })

pub returns-clause-pixels : goal.returns-clause-pixels
returns-clause-pixels c x y =
    let left_fits : SFits w32 c.args.left = c.ranges.left in
    let right_fits : SFits w32 c.args.right = c.ranges.right in
    let cut = simp to_z-of_z at c.in_ok-seen.ensures.cut in
    (rw c.deref.ensures.value at c.in_ok-rects.ensures.pixels) x y
    ∙ cut_wound c.args.owners c.args.quadrants.now c.in_ok-seen.seen.items c.args.left c.args.right x y c.requires.wide c.requires.swept cut

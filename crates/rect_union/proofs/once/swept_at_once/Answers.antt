use Rattle.std.proofs.Common.{◌∙◌, arith}
use Rattle.opc_base.specs.Plane.{cover}
use Rattle.rect_union.specs.Quadrants.{is_wound}
use Rattle.rect_union.proofs.SetLaws.{if_swept, if_too_many, more_for}
use Rattle.rect_union.proofs.TargetLaws.{path_sorted, path_wound}
use Rattle.rect_union.proofs.once.swept_at_once.Goals as goal

pub region_within-requires : goal.region_within-requires
region_within-requires c =
    let adds = rw c.new-quadrants.ensures.items at c.in_ok-add_path.ensures in
    let sorted = path_sorted c.args.rects.now c.add_path.new.quadrants.items c.sort_rows.new.quadrants.items adds c.sort_rows.ensures.permutation in
    rw c.deref.ensures.value
    (record {
      order = c.sort_rows.ensures.rows;
      owners = sorted.owners 1 (omega arith);
      small = let small = sorted.small in omega arith;
      closed_right = sorted.rows;
      closed_above = sorted.columns;
    })

pub returns-clause-pixels : goal.returns-clause-pixels
returns-clause-pixels c =
    let adds = rw c.new-quadrants.ensures.items at c.in_ok-add_path.ensures in
    let sorted = path_sorted c.args.rects.now c.add_path.new.quadrants.items c.sort_rows.new.quadrants.items adds c.sort_rows.ensures.permutation in
    let pixels = rw c.deref.ensures.value at c.in_ok-end.ensures.pixels in
    if_swept c.in_ok-end.end pixels (λ rects covered x y. covered x y ∙ path_wound c.args.rects.now c.sort_rows.new.quadrants.items x y sorted)

pub returns-clause-stopped : goal.returns-clause-stopped
returns-clause-stopped c =
    let adds = rw c.new-quadrants.ensures.items at c.in_ok-add_path.ensures in
    let sorted = path_sorted c.args.rects.now c.add_path.new.quadrants.items c.sort_rows.new.quadrants.items adds c.sort_rows.ensures.permutation in
    let stopped = rw c.deref.ensures.value at c.in_ok-end.ensures.stopped in
    if_too_many c.in_ok-end.end stopped
    (more_for (is_wound 1 c.sort_rows.new.quadrants.items) (cover c.args.rects.now) c.args.most
    (λ x y. path_wound c.args.rects.now c.sort_rows.new.quadrants.items x y sorted))

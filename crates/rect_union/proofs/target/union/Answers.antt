use Rattle.std.proofs.Common.{arith}
use Rattle.opc_base.specs.Target.{target}
use Rattle.rect_union.proofs.LowerSides.{more_by_rects, no_more_corners}
use Rattle.rect_union.proofs.SetLaws.{canonical_for, count_for}
use Rattle.rect_union.proofs.target.union.Goals as goal

pub returns-clause-canonical : goal.returns-clause-canonical
returns-clause-canonical c =
    let canonical = rw c.in-Some.is at c.in_ok-found.ensures.canonical in
    let pixels = rw (c.in-Some.is, c.outlines.ensures.list) at c.in_ok-found.ensures.pixels in
    rw c.from_rects.ensures.list (canonical_for (target c.args.placed.now) c.in-Some.rects.items canonical pixels)

pub returns-then-len-gt-MOST_CORNERS-clause-too_many : goal.returns-then-len-gt-MOST_CORNERS-clause-too_many
returns-then-len-gt-MOST_CORNERS-clause-too_many c _ =
    let canonical = rw c.in-Some.is at c.in_ok-found.ensures.canonical in
    let pixels = rw (c.in-Some.is, c.outlines.ensures.list) at c.in_ok-found.ensures.pixels in
    more_by_rects 65536 (target c.args.placed.now) c.in-Some.rects.items (omega arith) canonical pixels

pub returns-clause-corners : goal.returns-clause-corners
returns-clause-corners c more =
    let pixels = rw (c.in-Some.is, c.outlines.ensures.list) at c.in_ok-found.ensures.pixels in
    let counted = rw c.deref.ensures.value at c.in_ok-corners.ensures.counted in
    no_more_corners (target c.args.placed.now) c.in_ok-corners.corners 65536
    (count_for (target c.args.placed.now) c.in-Some.rects.items c.in_ok-corners.corners pixels counted) (omega arith) more

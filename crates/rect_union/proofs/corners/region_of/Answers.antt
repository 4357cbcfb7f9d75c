use Rattle.rect_union.specs.CornerSets.{corner_set}
use Rattle.rect_union.proofs.PointLaws.{few_corner_rects}
use Rattle.rect_union.proofs.WithinLaws.{corner_rects_within}
use Rattle.rect_union.proofs.SetLaws.{canonical_for}
use Rattle.rect_union.proofs.corners.region_of.Goals as goal

pub returns-clause-canonical : goal.returns-clause-canonical
returns-clause-canonical c =
    rw c.from_rects.ensures.list
    (canonical_for (corner_set c.args.corners.now) c.in_ok-corner_rects.field-0.items c.in_ok-corner_rects.ensures.canonical c.in_ok-corner_rects.ensures.pixels)

pub returns-clause-few : goal.returns-clause-few
returns-clause-few c =
    rw c.from_rects.ensures.list
    (few_corner_rects c.args.corners.now c.in_ok-corner_rects.field-0.items c.requires.corners c.in_ok-corner_rects.ensures.canonical c.in_ok-corner_rects.ensures.pixels)

pub returns-clause-within : goal.returns-clause-within
returns-clause-within c most near within =
    rw c.from_rects.ensures.list
    (corner_rects_within most c.args.corners.now c.in_ok-corner_rects.field-0.items c.requires.corners c.in_ok-corner_rects.ensures.canonical c.in_ok-corner_rects.ensures.pixels near within)

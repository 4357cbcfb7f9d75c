use Rattle.std.proofs.Common.{arith}
use Rattle.opc_base.specs.Plane.{cover}
use Rattle.corners.proofs.RegionLaws.{no_overlap, wider}
use Rattle.optics_rows.proofs.WindowSets.{corners_of_set, set_is}
use Rattle.optics_rows.proofs.corner_rows.corners_in.Goals as goal

pub corners_of-requires-clause-apart : goal.corners_of-requires-clause-apart
corners_of-requires-clause-apart c = no_overlap c.rects.result.now (rw c.rects.ensures.list c.rects.ensures.canonical)

pub corners_of-requires-clause-rects : goal.corners_of-requires-clause-rects
corners_of-requires-clause-rects c = wider 1048000 1060000 c.rects.result.now (omega arith) (rw c.rects.ensures.list c.requires.region)

pub returns-clause-corners : goal.returns-clause-corners
returns-clause-corners c =
    corners_of_set c.args.window (cover c.rects.result.now) c.in_ok-corners.corners.items c.requires.window
    c.in_ok-corners.ensures.each c.in_ok-corners.ensures.quadrants

pub returns-clause-pixels : goal.returns-clause-pixels
returns-clause-pixels c =
    rw (← c.rects.ensures.list)
    (set_is c.args.window (cover c.rects.result.now) c.in_ok-corners.corners.items c.in_ok-corners.ensures.quadrants)

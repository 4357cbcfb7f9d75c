use Rattle.std.proofs.Common.{◌≤◌, neg_ℤ, pos, arith}
use Rattle.std.proofs.lemmas.Int.{ints}
use Rattle.opc_base.specs.declared.plane.Rect.{Rect}
use Rattle.opc_base.proofs.OpticsLaws.{reach_within}
use Rattle.corners.proofs.RegionLaws.{corners_within, no_overlap, wider}
use Rattle.optics_rows.proofs.images.all_corners.Goals as goal

whole : Rect
whole = record { x0 = neg_ℤ (pos 1049000); y0 = neg_ℤ (pos 1049000); x1 = pos 1049000; y1 = pos 1049000 }

pub corners_of-requires-clause-apart : goal.corners_of-requires-clause-apart
corners_of-requires-clause-apart c = no_overlap c.rects.result.now (rw c.rects.ensures.list c.rects.ensures.canonical)

pub corners_of-requires-clause-rects : goal.corners_of-requires-clause-rects
corners_of-requires-clause-rects c = wider 1048000 1060000 c.rects.result.now (omega arith) (rw c.rects.ensures.list c.requires.within)

pub returns-clause-each : goal.returns-clause-each
unfolding whole
returns-clause-each c =
    corners_within 1050000 whole c.in_ok-corners.corners.items (omega arith, omega arith, omega arith, omega arith) c.in_ok-corners.ensures.each

pub returns-clause-near : goal.returns-clause-near
returns-clause-near c =
    let near : c.args.tables.now.reach ≤ 64 = reach_within c.args.tables.now c.requires.bounds in
    let x = c.requires.at.0 in
    let y = c.requires.at.1 in
    rw (← c.rects.ensures.list)
    (c.in_ok-corners.ensures.near c.args.tables.now.reach c.args.at.x c.args.at.y
    (record { left = omega (arith, ints); right = omega (arith, ints); bottom = omega (arith, ints); top = omega (arith, ints) }))

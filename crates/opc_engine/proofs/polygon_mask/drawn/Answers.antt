use Rattle.std.proofs.Common.{SFits, w32, rules}
use Rattle.std.proofs.lemmas.Int.{to_z-of_z}
use Rattle.opc_engine.proofs.PolygonLaws.{drawn_is, no_touch}
use Rattle.opc_engine.proofs.polygon_mask.drawn.Goals as goal

pub write_polygons-requires-clause-no_touch : goal.write_polygons-requires-clause-no_touch
write_polygons-requires-clause-no_touch c =
    no_touch c.args.session.now c.in_ok-region.region c.in_ok-region.ensures.pixels c.offsets.ensures.keeps

pub returns : goal.returns
returns c =
    let grid : SFits w32 c.args.given.now.rules.pick.grid = search rules in
    drawn_is c.args.given.now c.args.session.now c.args.between.now c.in_ok-region.region c.rects.result.now _ _ c.requires.over c.in_ok-region.ensures.canonical
    c.in_ok-region.ensures.pixels c.rects.ensures.list c.in_ok-table.ensures.text c.in_ok-table.ensures.last c.offsets.ensures.keeps
    (to_z-of_z w32 c.args.given.now.rules.pick.grid grid) c.in_ok-mask.ensures.file c.in_ok-mask.ensures.expands c.in_ok-mask.ensures.faultless

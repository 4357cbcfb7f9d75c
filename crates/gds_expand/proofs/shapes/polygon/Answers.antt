use Rattle.std.proofs.Common.{List, sym, ◌∙◌, subst}
use Rattle.opc_base.specs.Cover.{IsPolygon}
use Rattle.opc_base.specs.declared.plane.Pix.{Pix}
use Rattle.gds_expand.proofs.OutlineLemmas.{near_points, placed_polygon}
use Rattle.gds_expand.proofs.shapes.polygon.Goals as goal

pub pixels-requires : goal.pixels-requires
pixels-requires c = record { near = near_points c.args.side.now.length c.args.offset c.args.points.now (sym c.polygon_fault.ensures ∙ c.in-None.is) }

pub returns-in_ok-pixels-in-None-clause-placed : goal.returns-in_ok-pixels-in-None-clause-placed
returns-in_ok-pixels-in-None-clause-placed c =
    subst (λ (ps : List Pix). IsPolygon ps) (sym (c.from_vec.ensures.list ∙ c.in_ok-pixels-in-None.ensures))
    (placed_polygon c.args.side.now.length c.args.offset c.args.points.now (sym c.polygon_fault.ensures ∙ c.in-None.is))

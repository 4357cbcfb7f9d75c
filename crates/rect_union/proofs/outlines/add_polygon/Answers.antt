use Rattle.std.proofs.Common.{pos, arith}
use Rattle.opc_base.specs.declared.plane.Pix.{Pix}
use Rattle.rect_union.proofs.OutlineLaws.{AddsPolygon-starts, AddsPolygon-step}
use Rattle.rect_union.proofs.outlines.add_polygon.Goals as goal

pub loop-index-init : goal.loop-index-init
loop-index-init c = record {
  started = omega arith;
  adds = AddsPolygon-starts c.args.quadrants.now.items c.args.owner c.args.points.now;
}

pub loop-index-preserved : goal.loop-index-preserved
loop-index-preserved c =
    let pix : Pix = record { x = pos 0; y = pos 0 } in
    let a = c.in_ok-add_edge.ensures in
    record {
      started = omega arith;
      adds = AddsPolygon-step c.args.quadrants.now.items c.loop-index.quadrants.items c.add_edge.new.quadrants.items c.args.owner c.args.points.now
          c.loop-index.index pix c.loop-index.invariant.started (omega arith) c.loop-index.invariant.adds c.in_ok-add_edge.ensures;
    }

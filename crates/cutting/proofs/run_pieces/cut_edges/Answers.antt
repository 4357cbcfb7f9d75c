-- The pieces of one more edge.
use Rattle.std.proofs.Common.{◌++◌, ◌∙◌, sym, ap, pos, false, arith}
use Rattle.opc_base.specs.declared.plane.Side.TheVariants.{Left}
use Rattle.outline_model.specs.Edges.{edge_at}
use Rattle.outline_model.specs.Pieces.{pieces_of}
use Rattle.cutting.proofs.LengthLaws.{pieces_along-nil, pieces_along-take_more}
use Rattle.cutting.proofs.run_pieces.cut_edges.Goals as goal

pub loop-edge-init : goal.loop-edge-init
loop-edge-init c = c.new-pieces.ensures.items ∙ sym (pieces_along-nil c.args.rules.now)

pub loop-edge-preserved : goal.loop-edge-preserved
loop-edge-preserved c =
    c.in_ok-cut_edge.ensures ∙ ap (λ ps. ps ++ pieces_of c.args.rules.now (edge_at c.args.edges.now c.loop-edge.edge-index)) c.loop-edge.invariant
    ∙ sym (pieces_along-take_more c.args.rules.now c.args.edges.now c.loop-edge.edge-index
    (record { side = Left; line = pos 0; lo = pos 0; hi = pos 0; low_convex = false; high_convex = false }) (omega arith))

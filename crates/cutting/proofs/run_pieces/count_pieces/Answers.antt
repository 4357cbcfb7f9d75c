-- The pieces of one more edge.
use Rattle.std.proofs.Common.{◌≡◌, ◌+◌, ◌-◌, ◌≤◌, pos, false, sym, subst, arith}
use Rattle.opc_base.specs.declared.plane.Side.TheVariants.{Left}
use Rattle.outline_model.specs.Edges.{edge_at}
use Rattle.cutting.specs.Limits.{reach}
use Rattle.cutting.proofs.CountLaws.{length-pieces_along_more, length-pieces_along_none, step_bound}
use Rattle.cutting.proofs.run_pieces.count_pieces.Goals as goal

pub loop-edge-init : goal.loop-edge-init
loop-edge-init c = record {
  count = sym (length-pieces_along_none c.args.rules.now);
  none = λ e. e;
  bound = λ h. absurd (omega arith);
}

pub overflow_add-total : goal.overflow_add-total
overflow_add-total c =
    let i = c.loop-edge.edge-index in
    let n = c.from-total.ensures in
    let step = step_bound c.args.edges.now i c.loop-edge.total c.piece_count.result c.requires.edges c.requires.sorted (omega arith)
    c.loop-edge.invariant.none c.loop-edge.invariant.bound c.piece_count.ensures.bound in
    let small = step.1 in
    omega arith

pub loop-edge-preserved : goal.loop-edge-preserved
loop-edge-preserved c =
    let i = c.loop-edge.edge-index in
    let n = c.from-total.ensures in
    let step = step_bound c.args.edges.now i c.loop-edge.total c.piece_count.result c.requires.edges c.requires.sorted (omega arith)
    c.loop-edge.invariant.none c.loop-edge.invariant.bound c.piece_count.ensures.bound in
    let more = length-pieces_along_more c.args.rules.now c.args.edges.now i
    (record { side = Left; line = pos 0; lo = pos 0; hi = pos 0; low_convex = false; high_convex = false }) (omega arith) in
    let counted = c.piece_count.ensures.count in
    let before = c.loop-edge.invariant.count in
    record {
      count = omega arith;
      none = λ e. absurd (omega arith);
      bound = λ h.
          let upto = step.0 in
          subst (λ k. c.loop-edge.total + c.from-total.result ≤ reach (edge_at c.args.edges.now k)) (let e : i ≡ i + 1 - 1 = omega arith in e) (omega arith);
    }

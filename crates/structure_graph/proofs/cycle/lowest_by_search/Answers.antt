use Rattle.std.proofs.Common.{ℕ, ◌<◌, true, false, length, set, arith, below_more}
use Rattle.std.proofs.lemmas.List.{length-set}
use Rattle.structure_graph.specs.Graph.{Reaches, ReachesByReference}
use Rattle.structure_graph.proofs.CycleLemmas.{with_start, not_true, reached_in_range}
use Rattle.structure_graph.proofs.ReachLemmas.{mark_read}
use Rattle.structure_graph.proofs.cycle.lowest_by_search.Goals as goal
use Rattle.structure_graph.proofs.cycle.lowest_by_search.Goals.{then-index+in_ok-marks+else-index-2, else-index}

pub returns-then-index-2-clause-found : goal.returns-then-index-2-clause-found
returns-then-index-2-clause-found c =
    let s : ℕ = c.loop-structure.structure in
    let first : c.args.start < length c.in_ok-reached.reached.items = omega (arith, c.in_ok-reached.ensures.size) in
    let reached = with_start c.args.graph.now c.args.start c.in_ok-reached.reached.items first c.in_ok-reached.ensures.marked in
    let there : s < length (set c.in_ok-reached.reached.items c.args.start true) =
    omega (arith, c.in_ok-reached.ensures.size, length-set c.in_ok-reached.reached.items c.args.start true) in
    let there' : s < length c.in_ok-marks.marks.items = omega (arith, c.in_ok-marks.ensures.size) in
    record {
      reached = reached.to s (mark_read _ s c.index.result.now true there c.index.ensures c.if-index.true);
      cycle = (c.in_ok-marks.ensures.marked s).0 (mark_read _ s c.index-then-index.result.now true there' c.index-then-index.ensures c.if-index-2.true);
      lowest = c.loop-structure.invariant;
    }

pub loop-structure-preserved : goal.loop-structure-preserved
loop-structure-preserved c =
    let s : ℕ = c.loop-structure.structure in
    let first : c.args.start < length c.in_ok-reached.reached.items = omega (arith, c.in_ok-reached.ensures.size) in
    let reached = with_start c.args.graph.now c.args.start c.in_ok-reached.reached.items first c.in_ok-reached.ensures.marked in
    let there : s < length (set c.in_ok-reached.reached.items c.args.start true) =
    omega (arith, c.in_ok-reached.ensures.size, length-set c.in_ok-reached.reached.items c.args.start true) in
    below_more (λ (t : ℕ). Reaches c.args.graph.now c.args.start t → ReachesByReference c.args.graph.now t t → ⊥) s c.loop-structure.invariant
    (λ r cycle. elim c.if-index.branch [
      | then-index+in_ok-marks+else-index-2 w ↦
          let there' : s < length w.in_ok-marks.marks.items = omega (arith, w.in_ok-marks.ensures.size) in
          not_true _ (mark_read _ s w.index-then-index.result.now false there' w.index-then-index.ensures w.if-index-2.false) ((w.in_ok-marks.ensures.marked s).1 cycle)
      | else-index w ↦ not_true _ (mark_read _ s c.index.result.now false there c.index.ensures w.if-index.false) (reached.from s r)
    ])

pub returns-clause-none : goal.returns-clause-none
returns-clause-none c = λ s r cycle.
    let below : s < length c.args.graph.now = reached_in_range c.args.graph.now c.args.start s c.requires.closed c.requires.start r in
    c.loop-structure.invariant s (omega (arith, below)) r cycle

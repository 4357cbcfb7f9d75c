use Rattle.std.proofs.Common.{ℕ, ◌<◌, IfSome, IfNone, length, subst, arith}
use Rattle.structure_graph.specs.Graph.{IsLowestOnCycle, Reaches, ReachesByReference}
use Rattle.gds_expand.proofs.StageLemmas.{reached_in}
use Rattle.gds_expand.proofs.stages.cycle_fault.Goals as goal

pub overflow_cast-result : goal.overflow_cast-result
overflow_cast-result c =
    let found : IsLowestOnCycle c.args.graph.now c.args.top c.in-Some.structure =
    subst (λ x. IfSome x (IsLowestOnCycle c.args.graph.now c.args.top)) c.in-Some.is c.in_ok-structure.ensures.found in
    let below : c.in-Some.structure < length c.args.graph.now =
    reached_in c.args.graph.now c.args.top c.in-Some.structure c.requires.closed c.requires.top found.reached in
    omega (arith, below, c.requires.few)

pub unreachable-requires : goal.unreachable-requires
unreachable-requires c =
    let none = subst (λ x. IfNone x ((s : ℕ) → Reaches c.args.graph.now c.args.top s → ReachesByReference c.args.graph.now s s → ⊥)) c.in-None.is c.in_ok-structure.ensures.none in
    none c.requires.cycle.0 c.requires.cycle.1 c.requires.cycle.2

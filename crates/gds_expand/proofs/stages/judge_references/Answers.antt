use Rattle.std.proofs.Common.{inr, List, Bool, Some, None, length, subst}
use Rattle.gds_expand.specs.Wrong.{IsLowest, IsMarkedBelow}
use Rattle.gds_expand.proofs.GraphLemmas.{closed_graph}
use Rattle.gds_expand.proofs.StageLemmas.{marked_reached}
use Rattle.gds_expand.proofs.WrongLemmas.{none_is_wrong, wrong_is_fault}
use Rattle.gds_expand.proofs.stages.judge_references.Goals as goal

pub reached_from-requires-clause-closed : goal.reached_from-requires-clause-closed
reached_from-requires-clause-closed c = closed_graph c.args.library.now.structures c.args.graph.now c.requires.graph

pub returns-in-None-clause-right : goal.returns-in-None-clause-right
returns-in-None-clause-right c =
    let library = c.args.library.now.structures in
    let right = marked_reached library c.args.graph.now c.args.top c.in_ok-marks.marks.items c.requires.graph c.in_ok-marks.ensures.marked in
    none_is_wrong library c.args.top c.in_ok-marks.marks.items right
    (subst (λ (marks : List Bool). IsLowest library (IsMarkedBelow library marks (length library)) None) c.deref.ensures.value c.in-None.ensures)

pub returns-clause-wrong : goal.returns-clause-wrong
returns-clause-wrong c =
    let library = c.args.library.now.structures in
    let right = marked_reached library c.args.graph.now c.args.top c.in_ok-marks.marks.items c.requires.graph c.in_ok-marks.ensures.marked in
    inr (wrong_is_fault library c.args.top c.in_ok-marks.marks.items c.in-Some.wrong right
    (subst (λ (marks : List Bool). IsLowest library (IsMarkedBelow library marks (length library)) (Some c.in-Some.wrong)) c.deref.ensures.value c.in-Some.ensures))

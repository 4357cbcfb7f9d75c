use Rattle.std.proofs.Common.{ℕ, ◌<◌, List, Contains, slice_index, sym, ◌∙◌, subst}
use Rattle.structure_graph.proofs.CycleLemmas.{not_true}
use Rattle.structure_graph.proofs.LevelLemmas.{holds_more, holds_unmarked}
use Rattle.structure_graph.proofs.SearchLemmas.{references_of-row}
use Rattle.structure_graph.proofs.falls.lowest_not_falling.Goals as goal
use Rattle.structure_graph.proofs.falls.lowest_not_falling.Goals.{else-marks-structure-via-then-marks-structure+else-not-are_below, else-marks-structure-via-else-marks-structure}

pub loop-structure-preserved : goal.loop-structure-preserved
loop-structure-preserved c =
    let s : ℕ = c.loop-structure.structure in
    let Falls : ℕ → ℕ → Type 0 = λ (s t : ℕ). slice_index c.args.levels.now t < slice_index c.args.levels.now s in
    elim c.else-marks-structure.branch [
      | else-marks-structure-via-then-marks-structure+else-not-are_below w ↦
          let here = references_of-row c.args.graph.now s w.index-graph-structure.result c.loop-structure-test.true w.index-graph-structure.is ∙ sym w.deref.ensures.value in
          holds_more c.args.graph.now c.args.marks.now Falls s c.loop-structure.invariant (λ t there.
          subst (λ (n : ℕ). slice_index c.args.levels.now t < n) w.level.ensures
          (w.are_below.ensures w.if-not-are_below.false t (subst (λ (xs : List ℕ). Contains xs t) here there)))
      | else-marks-structure-via-else-marks-structure w ↦
          holds_unmarked c.args.graph.now c.args.marks.now Falls s c.loop-structure.invariant (not_true _ w.if-marks-structure.false)
    ]

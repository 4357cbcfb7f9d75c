use Rattle.std.proofs.Common.{◌+◌, ap, sym, ◌∙◌, subst}
use Rattle.std.specs.Prelude.{fold}
use Rattle.gds_expand.specs.Wrong.{IsLowest, IsMarkedBelow, lower_by}
use Rattle.gds_expand.proofs.WrongLemmas.{lowest_none, lowest_marked, lowest_unmarked}
use Rattle.gds_expand.proofs.wrong.lowest_wrong.Goals.{then-marks-i, else-marks-i}
use Rattle.gds_expand.proofs.wrong.lowest_wrong.Goals as goal

pub loop-i-init : goal.loop-i-init
loop-i-init c = lowest_none c.args.library.now.structures c.args.marks.now

pub loop-i-preserved : goal.loop-i-preserved
loop-i-preserved c =
    let library = c.args.library.now.structures in
    let marks = c.args.marks.now in
    elim c.if-marks-i.branch [
      | then-marks-i w ↦
          subst (IsLowest library (IsMarkedBelow library marks (c.loop-i.i + 1)))
          (sym (w.lowest-is ∙ w.lowest_in-lowest.ensures ∙ ap (fold (lower_by library) c.loop-i.lowest) w.as_slice.ensures.list))
          (lowest_marked library marks c.loop-i.i w.structure.result.now c.loop-i.lowest w.structure.ensures.structure w.if-marks-i.true c.loop-i.invariant)
      | else-marks-i w ↦
          subst (IsLowest library (IsMarkedBelow library marks (c.loop-i.i + 1))) (sym w.lowest-is)
          (lowest_unmarked library marks c.loop-i.i c.loop-i.lowest (λ marked. let no : ⊥ = let off = w.if-marks-i.false in cc in no) c.loop-i.invariant)
    ]

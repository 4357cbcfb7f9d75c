use Rattle.std.proofs.Common.{FitsSigned, w64}
use Rattle.std.proofs.lemmas.Int.{to_z-of_z}
use Rattle.contour_error.proofs.ContourLaws.{crossing_is}
use Rattle.contour_error.proofs.contour.crossing.Goals as goal

pub returns-clause-part : goal.returns-clause-part
returns-clause-part c =
    let before : FitsSigned w64 c.args.before = c.ranges.before in
    let after : FitsSigned w64 c.args.after = c.ranges.after in
    let threshold : FitsSigned w64 c.args.threshold = c.ranges.threshold in
    crossing_is c.args.threshold c.args.before c.args.after _ _ c.requires.above c.requires.below
    (simp to_z-of_z at c.abs_diff.ensures)
    (simp to_z-of_z at c.abs_diff-drop.ensures)

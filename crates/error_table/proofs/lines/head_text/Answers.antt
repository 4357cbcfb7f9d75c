use Rattle.std.proofs.Common.{◌++◌, FitsSigned, w32, w64, ap, ◌∙◌}
use Rattle.std.proofs.lemmas.Int.{to_z-of_z}
use Rattle.error_table.specs.Table.{version_line}
use Rattle.error_table.proofs.lines.head_text.Goals as goal

pub returns : goal.returns
returns c =
    let samples : FitsSigned w32 c.args.samples = c.ranges.samples in
    let threshold : FitsSigned w64 c.args.threshold = c.ranges.threshold in
    c.in_ok-push_str.ensures.bytes ∙ ap (λ x. x ++ c.as_str.result.now) c.in_ok-lines.ensures.ok
    ∙ ap (λ x. version_line ++ x) (c.as_str.ensures.value ∙ simp to_z-of_z at c.in_ok-counts.ensures)

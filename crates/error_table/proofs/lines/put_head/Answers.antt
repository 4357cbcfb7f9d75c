use Rattle.std.proofs.Common.{◌≡◌, ◌++◌, OnOk, FitsSigned, w32, w64, subst, ◌∙◌}
use Rattle.std.proofs.lemmas.Int.{to_z-of_z}
use Rattle.error_table.proofs.lines.put_head.Goals as goal

pub returns-clause-ok : goal.returns-clause-ok
returns-clause-ok c =
    let samples : FitsSigned w32 c.args.samples = c.ranges.samples in
    let threshold : FitsSigned w64 c.args.threshold = c.ranges.threshold in
    subst (λ x. OnOk c.append.result (c.append.new.self ≡ c.args.out.now ++ x))
    (c.as_bytes.ensures.value ∙ simp to_z-of_z at c.in_ok-lines.ensures)
    c.append.ensures.appended

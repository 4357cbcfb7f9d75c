use Rattle.std.proofs.Common.{rules, SFits, w32, to_z-of_z}
use Rattle.rect_union.proofs.RowLaws.{in_runs-stays_off, in_runs-ends}
use Rattle.rect_union.proofs.runs.RunBuilder.switch.Goals as goal

pub returns-else-on-clause-set : goal.returns-else-on-clause-set
returns-else-on-clause-set c =
    λ x. rw (c.in-None.is, c.if-on.false) (in_runs-stays_off c.args.self.now.runs.items c.args.at x c.requires.later.runs)

pub returns-in_ok-push-in-Some-clause-set : goal.returns-in_ok-push-in-Some-clause-set
returns-in_ok-push-in-Some-clause-set c =
    λ x. let at_fits : SFits w32 c.args.at = c.ranges.at in
    let first_fits : SFits w32 c.in-Some.first = search rules in
    rw (c.in_ok-push-in-Some.ensures.items, c.in-Some.is, c.if-not-on.true)
    (simp to_z-of_z
    (in_runs-ends c.args.self.now.runs.items c.in-Some.first c.args.at x (rw c.in-Some.is at c.requires.valid.started)
    (rw c.in-Some.is at c.requires.later.started)))

use Rattle.std.proofs.Common.{inr, SFits, w32, to_z-of_z, arith, rules}
use Rattle.rect_union.proofs.StackLaws.{other_run}
use Rattle.rect_union.proofs.stack.place_run.Goals as goal
use Rattle.rect_union.proofs.stack.place_run.Goals.{else-next-growing-via-then-next-growing+else-eq, else-next-growing-via-else-next-growing}

pub returns-in_ok-push : goal.returns-in_ok-push
returns-in_ok-push c =
    let bottom_fits : SFits w32 c.args.bottom = c.ranges.bottom in
    let top_fits : SFits w32 c.args.top = c.ranges.top in
    let first_fits : SFits w32 c.args.run.first = search rules in
    let past_fits : SFits w32 c.args.run.past = search rules in
    inr (record {
      other = λ d below. elim c.else-next-growing.branch [
        | else-next-growing-via-then-next-growing+else-eq w ↦ other_run c.args.growing.now c.args.next _ d c.args.run below w.if-eq.ensures
        | else-next-growing-via-else-next-growing w ↦ absurd (omega arith)
      ];
      last = search rules;
      changed = simp to_z-of_z at c.in_ok-push.ensures.items;
    })

use Rattle.rect_union.proofs.JoinLaws.{joining_step}
use Rattle.rect_union.proofs.join.join_groups.Goals as goal

pub loop-rest-preserved : goal.loop-rest-preserved
loop-rest-preserved c =
    let join = rw (c.in-Some.is, c.split_at.ensures.front) at c.in_ok-found.ensures.joined in
    rw (c.split_at.ensures.back, c.in_ok-push.ensures.items)
    (joining_step c.args.outlines.now c.loop-rest.joined.items c.loop-rest.rest.now c.min-count.result c.in-Some.outline c.loop-rest.invariant join)

use Rattle.std.specs.Prelude.{◌==◌}
use Rattle.worked_rows.proofs.Apart.{two_keys, unequal}
use Rattle.worked_rows.proofs.hosts.two.Goals as goal

pub returns : goal.returns
returns c =
    let apart = unequal c.args.first.call c.args.second.call c.requires in
    rw (c.in_ok-push-2.ensures.items, c.in_ok-push.ensures.items, c.new-fails.ensures.items) (two_keys (λ a b. a == b) c.args.first.call c.args.second.call apart)

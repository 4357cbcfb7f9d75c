use Rattle.std.specs.Prelude.{◌==◌}
use Rattle.worked_rows.proofs.Apart.{one_key}
use Rattle.worked_rows.proofs.hosts.one.Goals as goal

pub returns : goal.returns
returns c = rw (c.in_ok-push.ensures.items, c.new-fails.ensures.items) (one_key (λ a b. a == b) c.args.call)

use Rattle.std.specs.Prelude.{◌==◌}
use Rattle.worked_rows.proofs.Apart.{no_key}
use Rattle.worked_rows.proofs.hosts.none.Goals as goal

pub returns : goal.returns
returns c = rw c.new.ensures.items (no_key (λ a b. a == b))

use Rattle.std.specs.Str.{bytes_eq}
use Rattle.worked_rows.proofs.Apart.{no_key}
use Rattle.worked_rows.proofs.hosts.no_files.Goals as goal

pub returns : goal.returns
returns c = rw c.new.ensures.items (no_key bytes_eq)

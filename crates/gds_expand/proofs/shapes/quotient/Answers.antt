use Rattle.std.proofs.Common.{rules}
use Rattle.gds_expand.proofs.OutlineLemmas.{quotient_read}
use Rattle.gds_expand.proofs.shapes.quotient.Goals as goal

pub returns : goal.returns
returns c = quotient_read c.args.n c.args.side.now.length (search rules) (search rules) c.args.side.now.positive c.requires.near

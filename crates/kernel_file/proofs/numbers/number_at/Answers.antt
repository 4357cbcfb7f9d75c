use Rattle.std.proofs.Common.{◌∙◌}
use Rattle.kernel_file.proofs.Places.{big_number-rest}
use Rattle.kernel_file.proofs.numbers.number_at.Goals as goal

pub returns : goal.returns
returns c = c.read_u16.ensures ∙ big_number-rest c.args.bytes.now c.args.place

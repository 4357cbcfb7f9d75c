use Rattle.std.proofs.Common.{ap, rules, ◌∙◌}
use Rattle.std.proofs.lemmas.Int.{to_z-of_z}
use Rattle.std.specs.Int.{w16, cast_signed}
use Rattle.std.specs.Int.RustNames.{FitsSigned}
use Rattle.kernel_file.proofs.Places.{big_number-rest}
use Rattle.kernel_file.proofs.numbers.signed_at.Goals as goal

pub returns : goal.returns
returns c =
    let fits : FitsSigned w16 c.read_i16.result = search rules in
    to_z-of_z w16 c.read_i16.result fits ∙ c.read_i16.ensures ∙ ap (cast_signed w16) (big_number-rest c.args.bytes.now c.args.place)

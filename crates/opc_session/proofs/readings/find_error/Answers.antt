use Rattle.std.proofs.Common.{SFits, w32, ◌∙◌, rules}
use Rattle.std.proofs.lemmas.Int.{to_z-of_z}
use Rattle.opc_session.proofs.readings.find_error.Goals as goal

pub returns-clause-error : goal.returns-clause-error
returns-clause-error c pixels holds =
    let fits : SFits w32 c.error_in.result = search rules in
    to_z-of_z w32 c.error_in.result fits ∙ c.error_in.ensures.error pixels holds

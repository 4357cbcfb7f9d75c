use Rattle.std.proofs.Common.{◌<◌, length, arith}
use Rattle.opc_cli.specs.Command.{texts}
use Rattle.opc_cli.proofs.WordLemmas.{assist_of_short, length-texts}
use Rattle.opc_cli.proofs.words.assist_of.Goals as goal

pub returns-in_default-clause-words : goal.returns-in_default-clause-words
returns-in_default-clause-words c = λ _.
    let count = length-texts c.args.words.now in
    let short : length (texts c.args.words.now) < 5 = omega (arith, count, c.in_default.len_below) in
    assist_of_short (texts c.args.words.now) short

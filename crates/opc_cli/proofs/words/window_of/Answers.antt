use Rattle.std.proofs.Common.{◌<◌, length, arith}
use Rattle.opc_cli.specs.Command.{texts}
use Rattle.opc_cli.proofs.ConditionWordLaws.{window_of_short}
use Rattle.opc_cli.proofs.WordLemmas.{length-texts}
use Rattle.opc_cli.proofs.words.window_of.Goals as goal

pub returns-in_default-clause-words : goal.returns-in_default-clause-words
returns-in_default-clause-words c = λ _.
    let count = length-texts c.args.words.now in
    let short : length (texts c.args.words.now) < 4 = omega (arith, count, c.in_default.len_below) in
    window_of_short (texts c.args.words.now) short

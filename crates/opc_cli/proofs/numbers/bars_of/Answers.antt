use Rattle.std.proofs.Common.{◌≡◌, arith, length, sym}
use Rattle.opc_cli.specs.Command.{texts}
use Rattle.opc_cli.proofs.WordLemmas.{bars_of_not_four, length-texts}
use Rattle.opc_cli.proofs.numbers.bars_of.Goals as goal

pub returns-in_default-clause-bars : goal.returns-in_default-clause-bars
returns-in_default-clause-bars c =
    sym (bars_of_not_four (texts c.args.words.now) (λ (four : length (texts c.args.words.now) ≡ 4).
    let count = length-texts c.args.words.now in let below = c.in_default.len_below in omega (arith, count, below)))

pub returns-in_default-2-clause-bars : goal.returns-in_default-2-clause-bars
returns-in_default-2-clause-bars c =
    sym (bars_of_not_four (texts c.args.words.now) (λ (four : length (texts c.args.words.now) ≡ 4).
    let count = length-texts c.args.words.now in let above = c.in_default.len_at_least in omega (arith, count, above)))

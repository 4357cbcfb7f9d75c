use Rattle.std.proofs.Common.{◌<◌, ◌≤◌, arith, length}
use Rattle.opc_cli.specs.Command.{conditions_from, texts}
use Rattle.opc_cli.proofs.ConditionWordLaws.{enough, named_few, named_is, too_many}
use Rattle.opc_cli.proofs.WordLemmas.{length-texts}
use Rattle.opc_cli.proofs.condition_words.conditions_of.Goals as goal

pub returns-then-words-gt12-clause-words : goal.returns-then-words-gt12-clause-words
returns-then-words-gt12-clause-words c = λ _.
    let count = length-texts c.args.words.now in
    let more : 12 < length (texts c.args.words.now) = omega (arith, count, c.if-words-gt12.true) in
    too_many (texts c.args.words.now) more

pub returns-clause-conditions : goal.returns-clause-conditions
returns-clause-conditions c =
    let named = named_is (conditions_from (texts c.args.words.now)) c.new-conditions.result.items c.add_conditions.new.conditions.items c.new-conditions.ensures.items
    c.in_ok-add_conditions.ensures.conditions in
    let some : 2 ≤ length c.add_conditions.new.conditions.items = omega (arith, c.len.ensures, c.if-len-lt2.false) in
    let few : length c.add_conditions.new.conditions.items ≤ 4 = omega (arith, c.len-else-len-lt2.ensures, c.if-len-gt4.false) in
    rw c.from_vec.ensures.list (named_few (conditions_from (texts c.args.words.now)) c.add_conditions.new.conditions.items named (enough c.add_conditions.new.conditions.items some few))

use Rattle.std.proofs.Common.{◌<◌, arith, length}
use Rattle.std.proofs.lemmas.Bool.Decides.{nat_tests}
use Rattle.opc_cli.specs.Command.{texts}
use Rattle.opc_cli.proofs.ConditionWordLaws.{added_words, not_three, ranges_added}
use Rattle.opc_cli.proofs.WordLemmas.{length-texts}
use Rattle.opc_cli.proofs.condition_words.+add_conditions.Goals as goal

pub returns-in_default-clause-words : goal.returns-in_default-clause-words
returns-in_default-clause-words t c = λ _.
    let count = length-texts c.args.words.now in
    let no_word = c.if-is_empty.false in
    let tested = c.is_empty.ensures in
    let below = c.in_default.len_below in
    let some : 0 < length (texts c.args.words.now) = grind (arith, nat_tests) in
    let few : length (texts c.args.words.now) < 3 = omega (arith, count, below) in
    not_three (texts c.args.words.now) some few

pub returns-clause-conditions : goal.returns-clause-conditions
returns-clause-conditions t c =
    added_words c.args.words.now c.kernels-item.result c.threshold-item.result c.weight-item.result c.deref.result.now c.deref-2.result.now c.deref-3.result.now c.in_ok-condition.condition
    c.args.conditions.now.items c.push.new.self.items c.add_conditions.new.conditions.items c.add_conditions.result c.in-len3-up.len_at_least
    c.kernels-item.is c.threshold-item.is c.weight-item.is c.deref.ensures c.deref-2.ensures c.deref-3.ensures c.in_ok-condition.ensures.condition c.in_ok-push.ensures.items c.add_conditions.ensures.conditions

pub returns-clause-ranges : goal.returns-clause-ranges
returns-clause-ranges t c =
    ranges_added c.in_ok-condition.condition c.args.conditions.now.items c.push.new.self.items c.add_conditions.new.conditions.items c.add_conditions.result c.in_ok-condition.ensures.range
    c.in_ok-push.ensures.items c.add_conditions.ensures.ranges

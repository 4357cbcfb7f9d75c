use Rattle.std.proofs.Common.{◌+◌, arith}
use Rattle.std.proofs.lemmas.Int.Digits.{digits_value_more}
use Rattle.rule_file.proofs.LineLaws.{digit_of, fewer_digits}
use Rattle.rule_file.proofs.moves_text.value_of.Goals as goal

pub overflow_mul-value : goal.overflow_mul-value
overflow_mul-value c =
    omega (arith, c.loop-byte.invariant, fewer_digits c.args.digits.now (c.loop-byte.byte-index + 1) c.requires.few c.requires.digits, digits_value_more 10 c.args.digits.now c.loop-byte.byte-index c.loop-byte-test.true)

pub overflow_add-value : goal.overflow_add-value
overflow_add-value c =
    omega (arith, c.loop-byte.invariant, c.from.ensures, fewer_digits c.args.digits.now (c.loop-byte.byte-index + 1) c.requires.few c.requires.digits, digits_value_more 10 c.args.digits.now c.loop-byte.byte-index c.loop-byte-test.true, digit_of c.args.digits.now c.loop-byte.byte-index c.loop-byte-test.true c.requires.digits)

pub loop-byte-preserved : goal.loop-byte-preserved
loop-byte-preserved c =
    omega (arith, c.loop-byte.invariant, c.from.ensures, digits_value_more 10 c.args.digits.now c.loop-byte.byte-index c.loop-byte-test.true, digit_of c.args.digits.now c.loop-byte.byte-index c.loop-byte-test.true c.requires.digits)

pub returns-clause-small : goal.returns-clause-small
returns-clause-small c = omega (arith, c.loop-byte.invariant, fewer_digits c.args.digits.now c.loop-byte.byte-index c.requires.few c.requires.digits)

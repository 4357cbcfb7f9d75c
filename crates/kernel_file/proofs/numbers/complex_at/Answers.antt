use Rattle.std.proofs.Common.{◌∙◌, ap, arith, rules}
use Rattle.std.specs.Prelude.{unsigned_abs}
use Rattle.std.specs.Int.{w16}
use Rattle.std.specs.Int.RustNames.{FitsSigned}
use Rattle.std.proofs.lemmas.Int.{to_z-of_z}
use Rattle.kernel_file.proofs.Firsts.{bad_part-first, bad_part-second, bad_part-neither}
use Rattle.kernel_file.proofs.numbers.complex_at.Goals as goal

pub returns-then-unsigned_abs-limit-clause-err : goal.returns-then-unsigned_abs-limit-clause-err
returns-then-unsigned_abs-limit-clause-err c =
    let fits : FitsSigned w16 c.signed_at-re.result = search rules in
    let re = c.unsigned_abs.ensures.value ∙ ap unsigned_abs (to_z-of_z w16 c.signed_at-re.result fits ∙ c.signed_at-re.ensures) in
    bad_part-first c.args.limit c.args.bytes.now c.args.place (omega (arith, re))

pub returns-then-unsigned_abs-limit-2-clause-err : goal.returns-then-unsigned_abs-limit-2-clause-err
returns-then-unsigned_abs-limit-2-clause-err c =
    let fits : FitsSigned w16 c.signed_at-re.result = search rules in
    let fits_im : FitsSigned w16 c.signed_at-im.result = search rules in
    let re = c.unsigned_abs.ensures.value ∙ ap unsigned_abs (to_z-of_z w16 c.signed_at-re.result fits ∙ c.signed_at-re.ensures) in
    let im = c.unsigned_abs-2.ensures.value ∙ ap unsigned_abs (to_z-of_z w16 c.signed_at-im.result fits_im ∙ c.signed_at-im.ensures) in
    bad_part-second c.args.limit c.args.bytes.now c.args.place (omega (arith, re)) (omega (arith, im))

pub returns-clause-ok : goal.returns-clause-ok
returns-clause-ok c =
    let fits : FitsSigned w16 c.signed_at-re.result = search rules in
    let fits_im : FitsSigned w16 c.signed_at-im.result = search rules in
    let re_is = to_z-of_z w16 c.signed_at-re.result fits ∙ c.signed_at-re.ensures in
    let im_is = to_z-of_z w16 c.signed_at-im.result fits_im ∙ c.signed_at-im.ensures in
    let re = c.unsigned_abs.ensures.value ∙ ap unsigned_abs re_is in
    let im = c.unsigned_abs-2.ensures.value ∙ ap unsigned_abs im_is in
    (cc, bad_part-neither c.args.limit c.args.bytes.now c.args.place (omega (arith, re)) (omega (arith, im)))

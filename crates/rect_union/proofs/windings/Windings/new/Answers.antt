use Rattle.std.proofs.Common.{length, sym, arith}
use Rattle.std.proofs.lemmas.Grind.{common_steps}
use Rattle.rect_union.specs.Windings.{AreZero, count_at}
use Rattle.rect_union.proofs.SumLaws.{count_set-zero}
use Rattle.rect_union.proofs.windings.Windings.new.Goals as goal

pub invariant_of-result : goal.invariant_of-result
invariant_of-result c =
    let zero : AreZero c.in_ok-vec.field-0.items = grind (arith, common_steps) in
    record { counted = sym (count_set-zero (length c.in_ok-vec.field-0.items) (count_at c.in_ok-vec.field-0.items) zero) }

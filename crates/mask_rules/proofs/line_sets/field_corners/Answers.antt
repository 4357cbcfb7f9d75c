use Rattle.std.proofs.Common.{◌∙◌, pos, int_le, ◌&&◌, if◌then◌else◌, arith}
use Rattle.std.proofs.lemmas.Int.{ints}
use Rattle.opc_base.specs.declared.plane.Corner.{Corner}
use Rattle.rect_union.proofs.SumLaws.{sum_each-nil}
use Rattle.mask_rules.proofs.LineSetLaws.{no_field, whole_field}
use Rattle.mask_rules.proofs.line_sets.field_corners.Goals as goal

pub returns-then-not-out-clause-sums : goal.returns-then-not-out-clause-sums
returns-then-not-out-clause-sums c x y =
    rw c.new-corners.ensures.items
    (sum_each-nil (λ (c : Corner). if int_le c.x x && int_le c.y y then c.sign else pos 0) ∙ no_field c.args.out x y c.if-not-out.true)

pub returns-clause-sums : goal.returns-clause-sums
returns-clause-sums c x y =
    let pushed = rw (c.new-corners.ensures.items, c.field_rect-field.ensures) at c.in_ok-push_corners.ensures.sums x y in
    let none = sum_each-nil (λ (c : Corner). if int_le c.x x && int_le c.y y then c.sign else pos 0) in
    let whole = whole_field c.args.out x y c.if-not-out.false in omega (arith, ints)

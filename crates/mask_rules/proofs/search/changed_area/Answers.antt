-- The rectangle has the area of each of the three.
use Rattle.std.proofs.Common.{◌≡◌, ◌≤ℤ◌, w32, SFits, subst, arith, rules}
use Rattle.std.proofs.lemmas.Int.{ints, clamps, to_z-of_z}
use Rattle.fragment.specs.Index.{IsInside}
use Rattle.opc_base.specs.declared.plane.Rect.{Rect}
use Rattle.mask_rules.specs.Clashes.{clash_area}
use Rattle.mask_rules.proofs.ChangeLaws.{inside_inside}
use Rattle.mask_rules.proofs.search.changed_area.Goals as goal

pub clash_area-beside-requires-clause-reach : goal.clash_area-beside-requires-clause-reach
clash_area-beside-requires-clause-reach c =
    let a = c.requires.rules.width_least in let b = c.requires.rules.width_most in let d = c.requires.rules.space_most in
    (omega (arith, ints, clamps), omega (arith, ints, clamps))

pub clash_area-after-requires-clause-reach : goal.clash_area-after-requires-clause-reach
clash_area-after-requires-clause-reach c =
    let a = c.requires.rules.width_least in let b = c.requires.rules.width_most in let d = c.requires.rules.space_most in
    (omega (arith, ints, clamps), omega (arith, ints, clamps))

pub returns : goal.returns
returns c =
    let r = c.args.rules.now in
    let v = c.args.vertical in
    let s = c.args.changed.now in
    let far = c.max-reach.result in
    let far_fits : SFits w32 far = search rules in
    let width : r.width ≤ℤ far = omega (arith, ints, clamps) in
    let space : r.space ≤ℤ far = omega (arith, ints, clamps) in
    let before_is : c.clash_area-before.result ≡ clash_area far v s.before = simp to_z-of_z at c.clash_area-before.ensures in
    let beside_is : c.clash_area-beside.result ≡ clash_area far v s.beside = simp to_z-of_z at c.clash_area-beside.ensures in
    let after_is : c.clash_area-after.result ≡ clash_area far v s.after = simp to_z-of_z at c.clash_area-after.ensures in
    let mid = c.around.result in
    let area = c.around-2.result in
    record {
      far = far;
      width = width;
      space = space;
      before = subst (λ (part : Rect). IsInside part area) before_is (inside_inside c.clash_area-before.result mid area c.around.ensures.first c.around-2.ensures.first);
      beside = subst (λ (part : Rect). IsInside part area) beside_is (inside_inside c.clash_area-beside.result mid area c.around.ensures.second c.around-2.ensures.first);
      after = subst (λ (part : Rect). IsInside part area) after_is c.around-2.ensures.second;
    }

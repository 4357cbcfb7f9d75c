use Rattle.std.proofs.Common.{◌≡◌, ℕ, ◌≤◌, List, length, slice_index, All, Contains, sym, ◌∙◌, subst, refl, arith}
use Rattle.std.proofs.lemmas.List.Elements.{Contains-get_or}
use Rattle.gds_model.specs.declared.elements.Element.{Element}
use Rattle.gds_model.specs.PlacedList.{is_on}
use Rattle.gds_model.specs.Reach.{elements_at}
use Rattle.gds_expand.specs.Rows.{IsRight, IsRow}
use Rattle.gds_expand.specs.declared.walk.Step.TheVariants.{Copy}
use Rattle.gds_expand.specs.Steps.{Plan, steps_of}
use Rattle.gds_expand.proofs.StepLemmas.{made_all, made_more, made_near}
use Rattle.gds_expand.proofs.WrongLemmas.{elements_from}
use Rattle.gds_expand.proofs.plans.step_plan.Goals as goal

pub row_of-requires-clause-right : goal.row_of-requires-clause-right
row_of-requires-clause-right c =
    let library = c.args.library.now.structures in
    let v : ℕ = slice_index c.args.order.now c.loop-number.number-index in
    let here : elements_at library v ≡ c.as_slice.result.now = elements_from library v _ c.structure-structure.ensures.structure ∙ sym c.as_slice.ensures.list in
    subst (All (IsRight library)) here (c.requires.right v (Contains-get_or c.args.order.now c.loop-number.number-index 0 c.loop-number-test.true))

pub row_of-requires-clause-near : goal.row_of-requires-clause-near
row_of-requires-clause-near c = λ s t m copied.
    let few : length c.args.order.now ≤ 65535 = omega (arith, c.requires.order.few, c.count.ensures.layout.few) in
    made_near c.args.library.now.structures (is_on c.args.pick.now.layer c.args.pick.now.datatype) c.args.order.now c.loop-number.number-index c.loop-number.plan.items
    few c.loop-number.invariant s t m (subst (λ (rows : Plan). Contains (steps_of rows s) (Copy t m)) c.deref.ensures.value copied)

pub loop-number-preserved : goal.loop-number-preserved
loop-number-preserved c =
    let library = c.args.library.now.structures in
    let chosen = is_on c.args.pick.now.layer c.args.pick.now.datatype in
    let v : ℕ = slice_index c.args.order.now c.loop-number.number-index in
    let here : elements_at library v ≡ c.as_slice.result.now = elements_from library v _ c.structure-structure.ensures.structure ∙ sym c.as_slice.ensures.list in
    made_more library chosen c.args.order.now c.loop-number.number-index v c.loop-number.plan.items c.in_ok-row.row c.requires.order
    c.loop-number-test.true refl c.loop-number.invariant
    (subst (λ (elements : List Element). IsRow library chosen c.loop-number.plan.items elements c.in_ok-row.row.items) (sym here)
    (subst (λ (rows : Plan). IsRow library chosen rows c.as_slice.result.now c.in_ok-row.row.items) c.deref.ensures.value c.in_ok-row.ensures))

pub returns : goal.returns
returns c =
    let few : length c.args.order.now ≤ 65535 = omega (arith, c.requires.order.few, c.count.ensures.layout.few) in
    let past : length c.args.order.now ≤ c.loop-number.number-index = omega arith in
    made_all c.args.library.now.structures (is_on c.args.pick.now.layer c.args.pick.now.datatype) c.args.order.now c.loop-number.number-index c.loop-number.plan.items
    few past c.loop-number.invariant

use Rattle.std.proofs.Common.{◌≡◌, ◌<◌, List, Bool, Some, length, sym, ◌∙◌, subst, arith, Contains}
use Rattle.gds_model.specs.declared.elements.Element.TheVariants as element_kind
use Rattle.gds_model.specs.declared.shape.Shape.{Shape}
use Rattle.gds_model.specs.Reach.{number_of}
use Rattle.gds_expand.specs.Bases.{AddsReference}
use Rattle.gds_expand.specs.declared.walk.Step.{Step}
use Rattle.gds_expand.specs.declared.walk.Step.TheVariants.{Copy}
use Rattle.gds_expand.specs.Rows.{AddsElement}
use Rattle.gds_expand.specs.Steps.{steps_of}
use Rattle.gds_expand.proofs.BaseLemmas.{on_ok}
use Rattle.gds_model.proofs.Chains.{number_below}
use Rattle.gds_expand.proofs.RowMeanings.{element_by_reference, right_own}
use Rattle.gds_expand.proofs.WalkLemmas.{steps_of-row}
use Rattle.gds_expand.proofs.rows.push_named.Goals as goal

pub push_reference-requires-clause-right : goal.push_reference-requires-clause-right
push_reference-requires-clause-right c =
    right_own c.args.library.now.structures c.args.reference.now c.in-Some.target c.requires.right (sym c.number_of.ensures.number ∙ c.in-Some.is)

pub push_reference-requires-clause-near : goal.push_reference-requires-clause-near
push_reference-requires-clause-near c =
    let named : number_of c.args.library.now.structures c.args.reference.now.name ≡ Some c.in-Some.target = sym c.number_of.ensures.number ∙ c.in-Some.is in
    let below : c.in-Some.target < length c.args.library.now.structures = number_below _ _ _ named in
    let there : c.in-Some.target < length c.args.plan.now = omega (arith, below, c.requires.sized) in
    let here : steps_of c.args.plan.now c.in-Some.target ≡ c.deref.result.now = steps_of-row c.args.plan.now c.in-Some.target _ there c.index-plan-target.is ∙ sym c.deref.ensures.value in
    λ t m copied. c.requires.near c.in-Some.target t m (subst (λ (xs : List Step). Contains xs (Copy t m)) (sym here) copied)

pub returns-in-Some : goal.returns-in-Some
returns-in-Some c =
    let library = c.args.library.now.structures in
    let r = c.args.reference.now in
    let old = c.args.steps.now.items in
    let new = c.push_reference.new.steps.items in
    let named : number_of library r.name ≡ Some c.in-Some.target = sym c.number_of.ensures.number ∙ c.in-Some.is in
    let below : c.in-Some.target < length library = number_below _ _ _ named in
    let there : c.in-Some.target < length c.args.plan.now = omega (arith, below, c.requires.sized) in
    let here : steps_of c.args.plan.now c.in-Some.target ≡ c.deref.result.now = steps_of-row c.args.plan.now c.in-Some.target _ there c.index-plan-target.is ∙ sym c.deref.ensures.value in
    on_ok c.push_reference.result (AddsReference r c.in-Some.target c.deref.result.now old new)
    ((chosen : Shape → Bool) → AddsElement library chosen c.args.plan.now (element_kind.Reference r) old new)
    (λ h. λ chosen. element_by_reference library chosen c.args.plan.now r c.in-Some.target old new named
    (subst (λ (row : List Step). AddsReference r c.in-Some.target row old new) (sym here) h))
    c.push_reference.ensures

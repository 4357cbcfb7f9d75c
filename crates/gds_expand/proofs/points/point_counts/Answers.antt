use Rattle.std.proofs.Common.{◌≡◌, ℕ, ◌<◌, List, length, take, drop, get_or, slice_index, Contains, All, Vec, refl, sym, ◌∙◌, subst, arith}
use Rattle.std.proofs.lemmas.List.{take_all, take-append-drop, length-set}
use Rattle.std.proofs.lemmas.List.Elements.{All-contains, Contains-append_left}
use Rattle.std.specs.declared.alloc.Global.{Global}
use Rattle.gds_expand.specs.declared.points.Part.{Part}
use Rattle.gds_expand.specs.Points.{Plan, parts_of, parts_points, targets_of}
use Rattle.gds_model.specs.PlaceFaults.{saturated}
use Rattle.gds_expand.proofs.PointLemmas.{AreCounted-next, parts_of-row}
use Rattle.gds_expand.proofs.points.point_counts.Goals as goal

-- the parts of the structure at this place of the order
parts_here : (plan : Plan) (order : List ℕ) (i : ℕ) (row : Vec Part Global) (parts : List Part) → All (λ s. s < length plan) order → i < length order →
    row ≡ get_or plan (slice_index order i) row → parts ≡ row.items → parts_of plan (slice_index order i) ≡ parts
parts_here plan order i row parts in_range there is e = parts_of-row plan (slice_index order i) row (in_range i 0 there) is ∙ sym e

pub points_of-points-requires : goal.points_of-points-requires
points_of-points-requires c = λ t copied.
    let i : ℕ = c.loop-structure.structure-index in
    let there : i < length c.args.order.now = c.loop-structure-test.true in
    let here = parts_here c.args.plan.now c.args.order.now i _ _ c.requires.in_range there c.index-plan-structure.is c.deref.ensures.value in
    let earlier = c.requires.order i t there (subst (λ (ps : List Part). Contains (targets_of ps) t) (sym here) copied) in
    let listed = subst (λ (xs : List ℕ). Contains xs t) (take-append-drop i c.args.order.now) (Contains-append_left (take i c.args.order.now) (drop i c.args.order.now) t earlier) in
    let below : t < length c.args.plan.now = All-contains (λ (s : ℕ). s < length c.args.plan.now) c.args.order.now t c.requires.in_range listed in
    rw c.deref-in-loop-structure.ensures.value (omega (arith, below, c.loop-structure.invariant.sized))

pub loop-structure-preserved : goal.loop-structure-preserved
loop-structure-preserved c =
    let i : ℕ = c.loop-structure.structure-index in
    let v : ℕ = slice_index c.args.order.now i in
    let there : i < length c.args.order.now = c.loop-structure-test.true in
    let here = parts_here c.args.plan.now c.args.order.now i _ _ c.requires.in_range there c.index-plan-structure.is c.deref.ensures.value in
    let in_plan : v < length c.args.plan.now = c.requires.in_range i 0 there in
    let in_range : v < length c.loop-structure.counts.items = omega (arith, in_plan, c.loop-structure.invariant.sized) in
    let made : (inner : ℕ → ℕ) → ((t : ℕ) → Contains (targets_of (parts_of c.args.plan.now v)) t → slice_index c.loop-structure.counts.items t ≡ saturated (inner t)) →
    c.points_of-points.result ≡ saturated (parts_points inner (parts_of c.args.plan.now v)) =
    λ inner right. subst (λ (ps : List Part). c.points_of-points.result ≡ saturated (parts_points inner ps)) (sym here)
    (c.points_of-points.ensures inner (λ t copied.
    rw c.deref-in-loop-structure.ensures.value (right t (subst (λ (ps : List Part). Contains (targets_of ps) t) (sym here) copied)))) in
    record {
      sized = length-set c.loop-structure.counts.items v c.points_of-points.result ∙ c.loop-structure.invariant.sized;
      right = AreCounted-next c.args.plan.now c.loop-structure.counts.items c.args.order.now i v c.points_of-points.result c.requires.order there refl in_range made c.loop-structure.invariant.right;
    }

pub returns-clause-counted : goal.returns-clause-counted
returns-clause-counted c = λ s depth there deep.
    let whole : take c.loop-structure.structure-index c.args.order.now ≡ c.args.order.now = take_all _ _ (omega arith) in
    c.loop-structure.invariant.right s depth (subst (λ (xs : List ℕ). Contains xs s) (sym whole) there) (omega arith)

use Rattle.std.proofs.Common.{◌≡◌, ◌-◌, ◌*◌, ◌^◌, ◌<◌, ◌≤◌, List, [], length, refl, sym, ◌∙◌, subst, arith, rules}
use Rattle.std.proofs.lemmas.List.{nil_from_length}
use Rattle.gds_expand.specs.declared.walk.Step.TheVariants.{Shape, Copy}
use Rattle.gds_expand.specs.declared.walk.Task.{Task}
use Rattle.gds_expand.proofs.WalkLemmas.{IsWalking, IsPositionWithin-le, steps_of-row, goes_on_at, with_last, last_placing, near_task, starts_walk_from, ends_near, ends_walk, ends_task, places_shape, enters_copy, walks_on, fewer_at_end, fewer_at_shape, fewer_at_copy}
use Rattle.gds_expand.proofs.walk.placed_shapes.Goals as goal

pub walk-init : goal.walk-init
walk-init c = record {
  rank = c.requires.ranked.0;
  ranked = c.requires.ranked.1;
  deep = c.requires.ranked.2;
  walking =
      starts_walk_from c.args.plan.now c.requires.ranked.0 c.args.top _ _ _ _ c.new-shapes.ensures.items c.new-tasks.ensures.items c.in_ok-push.ensures.items
      c.requires.ranked.1 c.requires.top (refl, refl, refl, refl);
}

pub bounds-plan-structure : goal.bounds-plan-structure
bounds-plan-structure c = (last_placing c.args.plan.now c.walk.invariant.rank c.args.top _ _ _ _ c.in-Some.ensures.items c.walk.invariant.walking).in_range

pub offset_bounds-plan-structure : goal.offset_bounds-plan-structure
offset_bounds-plan-structure c =
    let there : c.in-Some.task.structure < length c.args.plan.now = (last_placing c.args.plan.now c.walk.invariant.rank c.args.top _ _ _ _ c.in-Some.ensures.items c.walk.invariant.walking).in_range in
    search rules

pub walk-smaller-in-Continue-branch-3 : goal.walk-smaller-in-Continue-branch-3
walk-smaller-in-Continue-branch-3 c =
    let there = (last_placing c.args.plan.now c.walk.invariant.rank c.args.top _ _ _ _ c.in-Some.ensures.items c.walk.invariant.walking).in_range in
    let here = steps_of-row c.args.plan.now c.in-Some.task.structure _ there c.index-plan-structure.is ∙ sym c.deref.ensures.value in
    let on = goes_on_at c.args.plan.now c.in-Some.task.structure c.in-Some.task.next _ _ (Shape c.in-Shape.shape) here c.in-Some-get.ensures.lookup.3.0 c.in-Some-get.ensures.lookup.3.1 c.in-Shape.is in
    rw (c.in_ok-push-2.ensures.items, c.in-Some.ensures.items)
    (fewer_at_shape c.args.plan.now (2 ^ 16) c.in-Some.task.structure c.in-Some.task.next c.in-Shape.shape c.in-Some.task.placement c.pop.new.self.items on)

pub walk-preserved-in-Continue-branch-3 : goal.walk-preserved-in-Continue-branch-3
walk-preserved-in-Continue-branch-3 c =
    let h = with_last c.args.plan.now c.walk.invariant.rank c.args.top _ _ _ _ c.in-Some.ensures.items c.walk.invariant.walking in
    let there = (last_placing c.args.plan.now c.walk.invariant.rank c.args.top _ _ _ _ c.in-Some.ensures.items c.walk.invariant.walking).in_range in
    let here = steps_of-row c.args.plan.now c.in-Some.task.structure _ there c.index-plan-structure.is ∙ sym c.deref.ensures.value in
    let on = goes_on_at c.args.plan.now c.in-Some.task.structure c.in-Some.task.next _ _ (Shape c.in-Shape.shape) here c.in-Some-get.ensures.lookup.3.0 c.in-Some-get.ensures.lookup.3.1 c.in-Shape.is in
    walks_on c.args.plan.now c.args.top _ _ c.walk.invariant.rank c.walk.invariant.ranked c.walk.invariant.deep
    (rw (c.in_ok-push-in-Shape.ensures.items, c.in_ok-push-2.ensures.items)
    (places_shape c.args.plan.now c.walk.invariant.rank c.args.top c.in-Some.task.structure c.in-Some.task.next c.in-Shape.shape c.in-Some.task.placement c.walk.shapes.items c.pop.new.self.items on h))

pub after-requires-clause-shift : goal.after-requires-clause-shift
after-requires-clause-shift c =
    near_task c.args.plan.now c.walk.invariant.rank c.args.top _ c.walk.invariant.deep (last_placing c.args.plan.now c.walk.invariant.rank c.args.top _ _ _ _ c.in-Some.ensures.items c.walk.invariant.walking)

pub after-requires-clause-inner : goal.after-requires-clause-inner
after-requires-clause-inner c =
    let there = (last_placing c.args.plan.now c.walk.invariant.rank c.args.top _ _ _ _ c.in-Some.ensures.items c.walk.invariant.walking).in_range in
    let here = steps_of-row c.args.plan.now c.in-Some.task.structure _ there c.index-plan-structure.is ∙ sym c.deref.ensures.value in
    let on = goes_on_at c.args.plan.now c.in-Some.task.structure c.in-Some.task.next _ _ (Copy c.in-Copy.target c.in-Copy.inner) here c.in-Some-get.ensures.lookup.3.0 c.in-Some-get.ensures.lookup.3.1 c.in-Copy.is in
    let low : c.walk.invariant.rank c.in-Some.task.structure ≤ c.walk.invariant.rank c.args.top = (last_placing c.args.plan.now c.walk.invariant.rank c.args.top _ _ _ _ c.in-Some.ensures.items c.walk.invariant.walking).lower in
    let small : (c.walk.invariant.rank c.in-Some.task.structure - c.walk.invariant.rank c.in-Copy.target) * 2 ^ 34 ≤ 2 ^ 61 = omega (arith, c.walk.invariant.deep) in
    IsPositionWithin-le _ (2 ^ 61) c.in-Copy.inner.shift small (c.walk.invariant.ranked.near c.in-Some.task.structure c.in-Copy.target c.in-Copy.inner on.there)

pub walk-smaller-in-Continue-branch-4 : goal.walk-smaller-in-Continue-branch-4
walk-smaller-in-Continue-branch-4 c =
    let placing = last_placing c.args.plan.now c.walk.invariant.rank c.args.top _ _ _ _ c.in-Some.ensures.items c.walk.invariant.walking in
    let here = steps_of-row c.args.plan.now c.in-Some.task.structure _ placing.in_range c.index-plan-structure.is ∙ sym c.deref.ensures.value in
    let on = goes_on_at c.args.plan.now c.in-Some.task.structure c.in-Some.task.next _ _ (Copy c.in-Copy.target c.in-Copy.inner) here c.in-Some-get.ensures.lookup.3.0 c.in-Some-get.ensures.lookup.3.1 c.in-Copy.is in
    let lower = c.walk.invariant.ranked.lower c.in-Some.task.structure c.in-Copy.target c.in-Copy.inner on.there in
    let low : c.walk.invariant.rank c.in-Copy.target < 2 ^ 16 = omega (arith, lower, placing.lower, c.walk.invariant.deep) in
    rw (c.in_ok-push-in-Copy.ensures.items, c.in_ok-push-2.ensures.items, c.in-Some.ensures.items)
    (fewer_at_copy c.args.plan.now c.walk.invariant.rank 65535 c.in-Some.task.structure c.in-Some.task.next c.in-Copy.target c.in-Some.task.placement c.in-Copy.inner c.after.result c.pop.new.self.items
    c.walk.invariant.ranked low on)

pub walk-preserved-in-Continue-branch-4 : goal.walk-preserved-in-Continue-branch-4
walk-preserved-in-Continue-branch-4 c =
    let h = with_last c.args.plan.now c.walk.invariant.rank c.args.top _ _ _ _ c.in-Some.ensures.items c.walk.invariant.walking in
    let there = (last_placing c.args.plan.now c.walk.invariant.rank c.args.top _ _ _ _ c.in-Some.ensures.items c.walk.invariant.walking).in_range in
    let here = steps_of-row c.args.plan.now c.in-Some.task.structure _ there c.index-plan-structure.is ∙ sym c.deref.ensures.value in
    let on = goes_on_at c.args.plan.now c.in-Some.task.structure c.in-Some.task.next _ _ (Copy c.in-Copy.target c.in-Copy.inner) here c.in-Some-get.ensures.lookup.3.0 c.in-Some-get.ensures.lookup.3.1 c.in-Copy.is in
    walks_on c.args.plan.now c.args.top _ _ c.walk.invariant.rank c.walk.invariant.ranked c.walk.invariant.deep
    (rw (c.in_ok-push-in-Copy.ensures.items, c.in_ok-push-2.ensures.items)
    (enters_copy c.args.plan.now c.walk.invariant.rank c.args.top c.in-Some.task.structure c.in-Some.task.next c.in-Copy.target c.in-Some.task.placement c.in-Copy.inner c.after.result c.walk.shapes.items c.pop.new.self.items
    c.walk.invariant.ranked on c.after.ensures.value c.after.ensures.bound h))

pub walk-smaller : goal.walk-smaller
walk-smaller c =
    rw c.in-Some.ensures.items
    (fewer_at_end c.args.plan.now (2 ^ 16) c.in-Some.task.structure c.in-Some.task.next c.in-Some.task.placement c.pop.new.self.items)

pub walk-preserved : goal.walk-preserved
walk-preserved c =
    let h = with_last c.args.plan.now c.walk.invariant.rank c.args.top _ _ _ _ c.in-Some.ensures.items c.walk.invariant.walking in
    let there = (last_placing c.args.plan.now c.walk.invariant.rank c.args.top _ _ _ _ c.in-Some.ensures.items c.walk.invariant.walking).in_range in
    let here = steps_of-row c.args.plan.now c.in-Some.task.structure _ there c.index-plan-structure.is ∙ sym c.deref.ensures.value in
    walks_on c.args.plan.now c.args.top _ _ c.walk.invariant.rank c.walk.invariant.ranked c.walk.invariant.deep
    (ends_task c.args.plan.now c.walk.invariant.rank c.args.top c.in-Some.task.structure c.in-Some.task.next c.in-Some.task.placement c.walk.shapes.items c.pop.new.self.items
    (rw here c.in_default-get.ensures.lookup.3) h)

pub returns-clause-near : goal.returns-clause-near
returns-clause-near c = ends_near c.walk.invariant.rank c.args.top c.walk.shapes.items c.walk.invariant.deep c.walk.invariant.walking.near

pub returns-clause-placed : goal.returns-clause-placed
returns-clause-placed c =
    let no_task : length c.walk.tasks.items ≡ 0 = omega (arith, c.in_default.ensures.cases.0) in
    let none : c.walk.tasks.items ≡ [] = nil_from_length c.walk.tasks.items no_task in
    ends_walk c.args.plan.now c.walk.invariant.rank c.args.top c.walk.shapes.items (2 ^ 16) c.walk.invariant.ranked c.walk.invariant.deep
    (subst (λ (xs : List Task). IsWalking c.args.plan.now c.walk.invariant.rank c.args.top c.walk.shapes.items xs) none c.walk.invariant.walking)

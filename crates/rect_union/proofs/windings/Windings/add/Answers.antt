use Rattle.std.proofs.Common.{◌≡◌, ◌∙◌, ◌<◌, ◌+ℤ◌, pos, length, SFits, to_z-of_z, arith, rules}
use Rattle.std.specs.Int.{w128}
use Rattle.rect_union.specs.Windings.{count_at}
use Rattle.rect_union.proofs.SumLaws.{count_set-set, count_set-le, counted_after, set_within}
use Rattle.std.proofs.lemmas.List.{get_or_default}
use Rattle.rect_union.proofs.windings.Windings.add.Goals as goal

pub overflow_add-self : goal.overflow_add-self
overflow_add-self c =
    let counted = c.args.self.now.counted in
    let few = count_set-le (length c.args.self.now.counts.items) (count_at c.args.self.now.counts.items) in
    omega arith

pub invariant_of-self : goal.invariant_of-self
invariant_of-self c =
    let owner : c.args.owner < length c.args.self.now.counts.items = omega arith in
    let before_is : c.index-before.result.now ≡ count_at c.args.self.now.counts.items c.args.owner =
    c.index-before.ensures ∙ get_or_default c.args.self.now.counts.items c.args.owner _ (pos 0) owner in
    let before_fits : SFits w128 c.index-before.result.now = search rules in
    let sign_fits : SFits w128 c.args.sign = c.ranges.sign in
    let after_fits : SFits w128 (c.index-before.result.now +ℤ c.args.sign) = rw before_is c.requires.fits in
    let before_set = simp to_z-of_z at c.one_if_set-2.ensures.value in
    let after_set = simp to_z-of_z at c.one_if_set.ensures.value in
    let changed = count_set-set c.args.self.now.counts.items c.args.owner (c.index-before.result.now +ℤ c.args.sign) owner in
    simp to_z-of_z
    (record { counted = counted_after _ _ _ _ _ _ _ c.args.self.now.counted before_set after_set (rw (← before_is) at changed) })

pub overflow_sub-self : goal.overflow_sub-self
overflow_sub-self c =
    let owner : c.args.owner < length c.args.self.now.counts.items = omega arith in
    let before_is : c.index-before.result.now ≡ count_at c.args.self.now.counts.items c.args.owner =
    c.index-before.ensures ∙ get_or_default c.args.self.now.counts.items c.args.owner _ (pos 0) owner in
    let before_fits : SFits w128 c.index-before.result.now = search rules in
    let sign_fits : SFits w128 c.args.sign = c.ranges.sign in
    let after_fits : SFits w128 (c.index-before.result.now +ℤ c.args.sign) = rw before_is c.requires.fits in
    let before_set = simp to_z-of_z at c.one_if_set-2.ensures.value in
    let after_set = simp to_z-of_z at c.one_if_set.ensures.value in
    let changed = count_set-set c.args.self.now.counts.items c.args.owner (c.index-before.result.now +ℤ c.args.sign) owner in
    set_within _ _ _ _ _ _ _ c.args.self.now.counted before_set after_set (rw (← before_is) at changed)

use Rattle.std.proofs.Common.{All, List, ℕ, ◌≡◌, ◌<◌, ◌≤◌, length, sym, ◌∙◌, ap, subst, arith}
use Rattle.outline_model.specs.Limits.{IsPlacedFragment}
use Rattle.fragment.specs.Index.{IsOrder}
use Rattle.fragment.proofs.AreaLaws.{all_placed, length-areas}
use Rattle.fragment.proofs.IndexLaws.{placed-few}
use Rattle.fragment.proofs.MetLaws.{order-below}
use Rattle.fragment.proofs.near.Near.build.Goals as goal

pub areas_of-requires : goal.areas_of-requires
areas_of-requires c =
    subst (All IsPlacedFragment) (sym (c.deref.ensures.value ∙ c.in_ok-items.ensures.items)) (all_placed c.args.fragments.now c.in_ok-items.ensures.list)

pub in_order-requires : goal.in_order-requires
in_order-requires c =
    let size : length c.deref-2.result.now ≡ length c.deref-3.result.now = ap length (c.deref-2.ensures.value ∙ sym c.deref-3.ensures.value) in
    subst (λ (l : List ℕ). All (λ j. j < length c.deref-3.result.now) l) (sym c.deref-4.ensures.value)
    (subst (λ n. All (λ j. j < n) c.in_ok-order.order.items) size
    (order-below (length c.deref-2.result.now) c.in_ok-order.order.items c.in_ok-order.ensures))

pub build-requires-2 : goal.build-requires-2
build-requires-2 c =
    let all : IsOrder (length c.deref-2.result.now) c.deref-4.result.now =
    subst (IsOrder (length c.deref-2.result.now)) (sym c.deref-4.ensures.value) c.in_ok-order.ensures in
    let size : length c.in_ok-placed.placed.items ≡ length c.deref-2.result.now =
    placed-few (length c.deref-2.result.now) c.deref-3.result.now c.in_ok-placed.placed.items c.deref-4.result.now all c.in_ok-placed.ensures in
    let areas : length c.deref-2.result.now ≡ length c.args.fragments.now =
    ap length (c.deref-2.ensures.value ∙ c.in_ok-areas.ensures) ∙ length-areas c.deref.result.now ∙ ap length (c.deref.ensures.value ∙ c.in_ok-items.ensures.items) in
    let few : length c.args.fragments.now ≤ 32768 = c.in_ok-items.ensures.list.few in
    omega arith

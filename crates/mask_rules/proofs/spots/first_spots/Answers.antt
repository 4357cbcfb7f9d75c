-- All fragments with stretches inside the rectangle are among those that were looked at.
use Rattle.std.proofs.Common.{◌≡◌, ◌<◌, true, false, not, length, List, ℕ, w32, SFits, sym, ◌∙◌, subst, rules}
use Rattle.std.proofs.lemmas.Int.{to_z-of_z}
use Rattle.std.proofs.lemmas.Iterator.Consumers.{YieldsList-end, YieldsList-from_first, YieldsList-turn}
use Rattle.std.proofs.lemmas.List.{map-id}
use Rattle.outline_model.specs.declared.fragment.Fragment.{Fragment}
use Rattle.mask_rules.specs.First.{IsFirst}
use Rattle.mask_rules.specs.Placements.{line_of}
use Rattle.mask_rules.specs.Spots.{SpotsAt, lowest}
use Rattle.mask_rules.proofs.Changed.{keep_near}
use Rattle.mask_rules.proofs.ClashSearch.{IsAllNear}
use Rattle.mask_rules.proofs.SpotSearch.{spots_inside, spots_lowest}
use Rattle.mask_rules.proofs.spots.first_spots.Goals as goal

pub spots_of-found-requires-clause-k : goal.spots_of-found-requires-clause-k
spots_of-found-requires-clause-k c =
    let turn = YieldsList-turn (YieldsList-from_first (λ (k : ℕ). k) (λ (m : List ℕ). m) c.within-k-items.result c.into_iter-k-iterator.ensures.into_iter_gives)
    c.loop-k.yielded _ c.loop-k.yielded_by _ _ c.in-Some.k c.in-Some.is c.next.ensures.steps in
    let inside = c.within-k-items.ensures.below (length c.loop-k.yielded) c.in-Some.k turn.0 in
    subst (λ (l : List Fragment). c.in-Some.k < length l) c.requires.near (subst (λ n. n < length c.args.near.now) (sym turn.1) inside)

pub returns : goal.returns
returns c =
    let p = c.args.outline.now in
    let fs = p.fragments.now in
    let line = line_of p in
    let r = c.args.rect.now in
    let v = c.args.vertical in
    let o = c.args.opens in
    let near_ones = c.loop-k.yielded in
    let ended = YieldsList-end (YieldsList-from_first (λ (k : ℕ). k) (λ (m : List ℕ). m) c.within-k-items.result c.into_iter-k-iterator.ensures.into_iter_gives)
    c.loop-k.yielded _ c.loop-k.yielded_by _ _ c.in-None.is c.next.ensures.steps in
    let all : c.loop-k.yielded ≡ c.within-k-items.result = sym (map-id c.loop-k.yielded) ∙ ended.0 in
    let reach_fits : SFits w32 p.reach = search rules in
    let reach_is = simp to_z-of_z at c.within-k-items.ensures.complete in
    let near_all : IsAllNear c.args.near.now p.reach r c.within-k-items.result =
    record { below = c.within-k-items.ensures.below; complete = reach_is } in
    let near : IsAllNear fs p.reach r c.loop-k.yielded = subst (IsAllNear fs p.reach r) (sym all)
    (subst (λ (l : List Fragment). IsAllNear l p.reach r c.within-k-items.result) c.requires.near near_all) in
    let keep = keep_near fs p.offsets.now p.moved p.to p.reach c.requires.placement.offsets_within.one_each c.requires.placement.moved_below
    c.requires.placement.reach_least c.requires.placement.offsets_near c.requires.placement.to_near in
    let first = c.loop-k.invariant in
    let least = c.requires.placement.reach_least in
    record {
      across = subst (IsFirst (SpotsAt fs line true r o)) (sym first.0) (spots_inside fs line p.reach r o near_ones c.requires.list least keep near);
      along = subst (IsFirst (SpotsAt fs line false (lowest false r) o)) (sym first.1)
          (spots_lowest fs line p.reach false r o near_ones c.requires.wide c.requires.high c.requires.list least keep near);
      begins = subst (IsFirst (SpotsAt fs line v (lowest v r) o)) (sym first.2)
          (spots_lowest fs line p.reach v r o near_ones c.requires.wide c.requires.high c.requires.list least keep near);
      ends = subst (IsFirst (SpotsAt fs line v (lowest v r) (not o))) (sym first.3)
          (spots_lowest fs line p.reach v r (not o) near_ones c.requires.wide c.requires.high c.requires.list least keep near);
    }

-- All fragments whose stretches clash with one that the move can have changed are among those that were looked at.
use Rattle.std.proofs.Common.{◌≡◌, ◌<◌, true, false, length, List, ℕ, w32, SFits, sym, ◌∙◌, subst, rules}
use Rattle.std.proofs.lemmas.Int.{to_z-of_z}
use Rattle.std.proofs.lemmas.Iterator.Consumers.{YieldsList-end, YieldsList-from_first, YieldsList-turn}
use Rattle.std.proofs.lemmas.List.{map-id}
use Rattle.outline_model.specs.declared.fragment.Fragment.{Fragment}
use Rattle.mask_rules.specs.declared.search.Changed.{Changed}
use Rattle.mask_rules.specs.Changes.{HasClashes, changed_at}
use Rattle.mask_rules.specs.Clashes.{ClashesNow}
use Rattle.mask_rules.specs.Found.{IsFound}
use Rattle.mask_rules.specs.Placements.{line_of}
use Rattle.mask_rules.proofs.Changed.{keep_near}
use Rattle.mask_rules.proofs.ChangeLaws.{wider}
use Rattle.mask_rules.proofs.ClashSearch.{IsAllNear}
use Rattle.mask_rules.proofs.FoundLaws.{found_is}
use Rattle.mask_rules.proofs.search.first_found.Goals as goal

pub found_with-across-requires-clause-k : goal.found_with-across-requires-clause-k
found_with-across-requires-clause-k c =
    let turn = YieldsList-turn (YieldsList-from_first (λ (k : ℕ). k) (λ (m : List ℕ). m) c.within-k-items.result c.into_iter-k-iterator.ensures.into_iter_gives)
    c.loop-k.yielded _ c.loop-k.yielded_by _ _ c.in-Some.k c.in-Some.is c.next.ensures.steps in
    let inside = c.within-k-items.ensures.below (length c.loop-k.yielded) c.in-Some.k turn.0 in
    subst (λ (l : List Fragment). c.in-Some.k < length l) c.requires.near (subst (λ n. n < length c.args.near.now) (sym turn.1) inside)

pub found_with-along-requires-clause-k : goal.found_with-along-requires-clause-k
found_with-along-requires-clause-k c =
    let turn = YieldsList-turn (YieldsList-from_first (λ (k : ℕ). k) (λ (m : List ℕ). m) c.within-k-items.result c.into_iter-k-iterator.ensures.into_iter_gives)
    c.loop-k.yielded _ c.loop-k.yielded_by _ _ c.in-Some.k c.in-Some.is c.next.ensures.steps in
    let inside = c.within-k-items.ensures.below (length c.loop-k.yielded) c.in-Some.k turn.0 in
    subst (λ (l : List Fragment). c.in-Some.k < length l) c.requires.near (subst (λ n. n < length c.args.near.now) (sym turn.1) inside)

pub found_with-across-requires-clause-area : goal.found_with-across-requires-clause-area
found_with-across-requires-clause-area c =
    wider c.args.rules.now true c.changed_by-upright.result c.changed_area-upright_area.result c.around-area.result c.around-area.ensures.first c.changed_area-upright_area.ensures

pub found_with-along-requires-clause-area : goal.found_with-along-requires-clause-area
found_with-along-requires-clause-area c =
    wider c.args.rules.now false c.changed_by-level.result c.changed_area-level_area.result c.around-area.result c.around-area.ensures.second c.changed_area-level_area.ensures

pub returns : goal.returns
returns c =
    let p = c.args.outline.now in
    let r = c.args.rules.now in
    let fs = p.fragments.now in
    let line = line_of p in
    let area = c.around-area.result in
    let ended = YieldsList-end (YieldsList-from_first (λ (k : ℕ). k) (λ (m : List ℕ). m) c.within-k-items.result c.into_iter-k-iterator.ensures.into_iter_gives)
    c.loop-k.yielded _ c.loop-k.yielded_by _ _ c.in-None.is c.next.ensures.steps in
    let all : c.loop-k.yielded ≡ c.within-k-items.result = sym (map-id c.loop-k.yielded) ∙ ended.0 in
    let reach_fits : SFits w32 p.reach = search rules in
    let reach_is = simp to_z-of_z at c.within-k-items.ensures.complete in
    let near_all : IsAllNear c.args.near.now p.reach area c.within-k-items.result =
    record { below = c.within-k-items.ensures.below; complete = reach_is } in
    let near : IsAllNear fs p.reach area c.loop-k.yielded = subst (IsAllNear fs p.reach area) (sym all)
    (subst (λ (l : List Fragment). IsAllNear l p.reach area c.within-k-items.result) c.requires.near near_all) in
    let upright : HasClashes r true (changed_at fs line true p.moved) area =
    subst (λ (s : Changed). HasClashes r true s area) c.changed_by-upright.ensures.changed
    (wider r true c.changed_by-upright.result c.changed_area-upright_area.result area c.around-area.ensures.first c.changed_area-upright_area.ensures) in
    let level : HasClashes r false (changed_at fs line false p.moved) area =
    subst (λ (s : Changed). HasClashes r false s area) c.changed_by-level.ensures.changed
    (wider r false c.changed_by-level.result c.changed_area-level_area.result area c.around-area.ensures.second c.changed_area-level_area.ensures) in
    subst (IsFound r (λ clash. ClashesNow fs line clash p.moved)) (sym c.loop-k.invariant)
    (found_is r fs line p.reach area p.moved c.loop-k.yielded c.requires.rules c.requires.list c.requires.placement.reach_least
    (keep_near fs p.offsets.now p.moved p.to p.reach c.requires.placement.offsets_within.one_each c.requires.placement.moved_below c.requires.placement.reach_least
    c.requires.placement.offsets_near c.requires.placement.to_near)
    upright level near)

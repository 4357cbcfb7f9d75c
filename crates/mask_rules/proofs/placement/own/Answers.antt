-- The fragment's own stretch lies on its line, between its ends.
use Rattle.std.proofs.Common.{◌≡◌, w32, SFits, sym, ◌∙◌, ap, arith, rules}
use Rattle.std.proofs.lemmas.Int.{ints, to_z-of_z}
use Rattle.outline_model.specs.declared.fragment.Join.{Join}
use Rattle.outline_model.specs.Outline.{fragment_at, end_at, start_join, start_place, finish_join, finish_place}
use Rattle.mask_rules.specs.Placements.{line_of}
use Rattle.mask_rules.specs.Stretches.{walked}
use Rattle.mask_rules.proofs.StretchIs.{stretch-own, finish_within, start_within}
use Rattle.mask_rules.proofs.placement.own.Goals as goal

pub end-from-requires-clause-place : goal.end-from-requires-clause-place
end-from-requires-clause-place c =
    let within = start_within c.args.outline.now.fragments.now c.args.k c.get-fragment.ensures.list c.requires.k in
    let low = within.0 in let high = within.1 in
    let is : c.start-start_join.result.1 ≡ start_place (fragment_at c.args.outline.now.fragments.now c.args.k) =
    c.start-start_join.ensures.place ∙ ap start_place c.get-fragment.ensures.fragment in
    (omega (arith, ints), omega (arith, ints))

pub end-to-requires-clause-place : goal.end-to-requires-clause-place
end-to-requires-clause-place c =
    let within = finish_within c.args.outline.now.fragments.now c.args.k c.get-fragment.ensures.list c.requires.k in
    let low = within.0 in let high = within.1 in
    let is : c.finish-finish_join.result.1 ≡ finish_place (fragment_at c.args.outline.now.fragments.now c.args.k) =
    c.finish-finish_join.ensures.place ∙ ap finish_place c.get-fragment.ensures.fragment in
    (omega (arith, ints), omega (arith, ints))

pub returns-clause-stretch : goal.returns-clause-stretch
returns-clause-stretch c =
    let fs = c.args.outline.now.fragments.now in
    let line = line_of c.args.outline.now in
    let v = c.args.vertical in
    let f = fragment_at fs c.args.k in
    let from_fits : SFits w32 c.end-from.result = search rules in
    let to_fits : SFits w32 c.end-to.result = search rules in
    let at_fits : SFits w32 c.line-at.result = search rules in
    let start_fits : SFits w32 c.start-start_join.result.1 = search rules in
    let finish_fits : SFits w32 c.finish-finish_join.result.1 = search rules in
    let is : c.walk.result ≡ walked v c.line-at.result c.end-from.result c.end-to.result = simp to_z-of_z at c.walk.ensures.stretch in
    let from_is : c.end-from.result ≡ end_at line c.start-start_join.result.0 c.start-start_join.result.1 = simp to_z-of_z at c.end-from.ensures.end in
    let to_is : c.end-to.result ≡ end_at line c.finish-finish_join.result.0 c.finish-finish_join.result.1 = simp to_z-of_z at c.end-to.ensures.end in
    let start_join_is : c.start-start_join.result.0 ≡ start_join f = c.start-start_join.ensures.join ∙ ap start_join c.get-fragment.ensures.fragment in
    let start_place_is : c.start-start_join.result.1 ≡ start_place f = c.start-start_join.ensures.place ∙ ap start_place c.get-fragment.ensures.fragment in
    let finish_join_is : c.finish-finish_join.result.0 ≡ finish_join f = c.finish-finish_join.ensures.join ∙ ap finish_join c.get-fragment.ensures.fragment in
    let finish_place_is : c.finish-finish_join.result.1 ≡ finish_place f = c.finish-finish_join.ensures.place ∙ ap finish_place c.get-fragment.ensures.fragment in
    is
    ∙ ap (λ t. walked v t c.end-from.result c.end-to.result) c.line-at.ensures.line
    ∙ ap (λ t. walked v (line c.args.k) t c.end-to.result)
    (from_is ∙ ap (λ (j : Join). end_at line j c.start-start_join.result.1) start_join_is ∙ ap (end_at line (start_join f)) start_place_is)
    ∙ ap (λ t. walked v (line c.args.k) (end_at line (start_join f) (start_place f)) t)
    (to_is ∙ ap (λ (j : Join). end_at line j c.finish-finish_join.result.1) finish_join_is ∙ ap (end_at line (finish_join f)) finish_place_is)
    ∙ sym (stretch-own fs line v c.args.k c.requires.side)

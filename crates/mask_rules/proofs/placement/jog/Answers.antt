-- The jog is that of the join at the fragment's finish.
use Rattle.std.proofs.Common.{◌≡◌, w32, SFits, sym, ◌∙◌, ap, arith, rules}
use Rattle.std.proofs.lemmas.Int.{ints, to_z-of_z}
use Rattle.outline_model.specs.declared.fragment.Join.TheVariants.{Cut, Corner}
use Rattle.outline_model.specs.Outline.{fragment_at, finish_join, finish_place}
use Rattle.mask_rules.specs.Placements.{line_of}
use Rattle.mask_rules.specs.Stretches.{walked}
use Rattle.mask_rules.proofs.StretchIs.{stretch-cut, stretch-corner, finish_within}
use Rattle.mask_rules.proofs.placement.jog.Goals as goal

pub returns-in-Cut-clause-stretch : goal.returns-in-Cut-clause-stretch
returns-in-Cut-clause-stretch c =
    let fs = c.args.outline.now.fragments.now in
    let from_fits : SFits w32 c.line-from.result = search rules in
    let to_fits : SFits w32 c.line-to.result = search rules in
    let place_fits : SFits w32 c.finish-join.result.1 = search rules in
    let is : c.walk.result ≡ walked c.args.vertical c.finish-join.result.1 c.line-from.result c.line-to.result = simp to_z-of_z at c.walk.ensures.stretch in
    let join_is : finish_join (fragment_at fs c.args.k) ≡ Cut c.in-Cut.j =
    ap finish_join (sym c.get.ensures.fragment) ∙ sym c.finish-join.ensures.join ∙ c.in-Cut.is in
    let place_is : c.finish-join.result.1 ≡ finish_place (fragment_at fs c.args.k) = c.finish-join.ensures.place ∙ ap finish_place c.get.ensures.fragment in
    is
    ∙ ap (λ t. walked c.args.vertical t c.line-from.result c.line-to.result) place_is
    ∙ ap (λ t. walked c.args.vertical (finish_place (fragment_at fs c.args.k)) t c.line-to.result) c.line-from.ensures.line
    ∙ ap (λ t. walked c.args.vertical (finish_place (fragment_at fs c.args.k)) (line_of c.args.outline.now c.args.k) t) c.line-to.ensures.line
    ∙ sym (stretch-cut fs (line_of c.args.outline.now) c.args.vertical c.args.k c.in-Cut.j c.get.ensures.list.outline c.requires.k c.requires.side join_is)

pub returns-in-Corner-clause-stretch : goal.returns-in-Corner-clause-stretch
returns-in-Corner-clause-stretch c =
    let fs = c.args.outline.now.fragments.now in
    let from_fits : SFits w32 c.line-from.result = search rules in
    let at_fits : SFits w32 c.line-at.result = search rules in
    let is : c.walk-in-Corner.result ≡ walked c.args.vertical c.line-at.result c.line-from.result c.line-from.result = simp to_z-of_z at c.walk-in-Corner.ensures.stretch in
    let join_is : finish_join (fragment_at fs c.args.k) ≡ Corner c.in-Corner.j =
    ap finish_join (sym c.get.ensures.fragment) ∙ sym c.finish-join.ensures.join ∙ c.in-Corner.is in
    is
    ∙ ap (λ t. walked c.args.vertical t c.line-from.result c.line-from.result) c.line-at.ensures.line
    ∙ ap (λ t. walked c.args.vertical (line_of c.args.outline.now c.in-Corner.j) t t) c.line-from.ensures.line
    ∙ sym (stretch-corner fs (line_of c.args.outline.now) c.args.vertical c.args.k c.in-Corner.j c.get.ensures.list.outline c.requires.k c.requires.side join_is)

pub walk-requires-clause-at : goal.walk-requires-clause-at
walk-requires-clause-at c =
    let within = finish_within c.args.outline.now.fragments.now c.args.k c.get.ensures.list c.requires.k in
    let low = within.0 in let high = within.1 in
    let is : c.finish-join.result.1 ≡ finish_place (fragment_at c.args.outline.now.fragments.now c.args.k) =
    c.finish-join.ensures.place ∙ ap finish_place c.get.ensures.fragment in
    (omega (arith, ints), omega (arith, ints))

-- The fragment lies on its line, and the jog at the place of its finish.
use Rattle.std.proofs.Common.{◌≡◌, not, w32, SFits, sym, ◌∙◌, ap, subst, rules}
use Rattle.std.proofs.lemmas.Int.{to_z-of_z}
use Rattle.outline_model.specs.declared.fragment.Join.TheVariants.{Cut, Corner}
use Rattle.outline_model.specs.Outline.{fragment_at, finish_join, finish_place, is_vertical, side_of}
use Rattle.mask_rules.specs.declared.stretch.Stretch.{Stretch}
use Rattle.mask_rules.specs.Placements.{line_of}
use Rattle.mask_rules.proofs.StretchIs.{stretch-own, stretch-cut, stretch-corner, walked_nowhere}
use Rattle.mask_rules.proofs.placement.place_across.Goals as goal

pub returns-then-is_vertical-vertical-clause-place : goal.returns-then-is_vertical-vertical-clause-place
returns-then-is_vertical-vertical-clause-place c =
    let fs = c.args.outline.now.fragments.now in
    let side : is_vertical (side_of fs c.args.k) ≡ c.args.vertical = search rules in
    let fits : SFits w32 c.line.result = search rules in
    ap (λ (s : Stretch). s.at) (stretch-own fs (line_of c.args.outline.now) c.args.vertical c.args.k side)
    ∙ sym c.line.ensures.line ∙ sym (to_z-of_z w32 c.line.result fits)

pub returns-in-Cut-clause-place : goal.returns-in-Cut-clause-place
returns-in-Cut-clause-place c =
    let fs = c.args.outline.now.fragments.now in
    let side : is_vertical (side_of fs c.args.k) ≡ not c.args.vertical = search rules in
    let fits : SFits w32 c.finish-join.result.1 = search rules in
    let join_is : finish_join (fragment_at fs c.args.k) ≡ Cut c.in-Cut.field-0 =
    ap finish_join (sym c.get-fragment.ensures.fragment) ∙ sym c.finish-join.ensures.join ∙ c.in-Cut.is in
    let place_is : c.finish-join.result.1 ≡ finish_place (fragment_at fs c.args.k) = c.finish-join.ensures.place ∙ ap finish_place c.get-fragment.ensures.fragment in
    ap (λ (s : Stretch). s.at) (stretch-cut fs (line_of c.args.outline.now) c.args.vertical c.args.k c.in-Cut.field-0 c.get-fragment.ensures.list.outline c.requires.k side join_is)
    ∙ sym place_is ∙ sym (to_z-of_z w32 c.finish-join.result.1 fits)

pub returns-in-Corner-clause-none : goal.returns-in-Corner-clause-none
returns-in-Corner-clause-none c =
    let fs = c.args.outline.now.fragments.now in
    let line = line_of c.args.outline.now in
    let side : is_vertical (side_of fs c.args.k) ≡ not c.args.vertical = search rules in
    let join_is : finish_join (fragment_at fs c.args.k) ≡ Corner c.in-Corner.field-0 =
    ap finish_join (sym c.get-fragment.ensures.fragment) ∙ sym c.finish-join.ensures.join ∙ c.in-Corner.is in
    subst (λ (s : Stretch). s.low ≡ s.high)
    (sym (stretch-corner fs line c.args.vertical c.args.k c.in-Corner.field-0 c.get-fragment.ensures.list.outline c.requires.k side join_is))
    (walked_nowhere c.args.vertical (line c.in-Corner.field-0) (line c.args.k))

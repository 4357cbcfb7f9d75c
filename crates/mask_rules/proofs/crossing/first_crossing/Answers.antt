-- The first of the two ways in which rule M0 can be broken.
use Rattle.std.proofs.Common.{◌≡◌, int_lt, w32, to_z, of_z, SFits, sym, ◌∙◌, ap, subst, rules}
use Rattle.std.proofs.lemmas.Int.{to_z-of_z}
use Rattle.outline_model.specs.Outline.{swept}
use Rattle.outline_model.specs.Rules.{CrossesAt}
use Rattle.mask_rules.specs.First.{IsFirst}
use Rattle.mask_rules.specs.Placements.{line_of, line_to}
use Rattle.mask_rules.proofs.OffsetMoves.{sweep_facts, crossing_is}
use Rattle.mask_rules.proofs.crossing.first_crossing.Goals as goal

pub first_miscount-miscount-requires-clause-wide : goal.first_miscount-miscount-requires-clause-wide
first_miscount-miscount-requires-clause-wide c =
    let p = c.args.present.now in
    let from_fits : SFits w32 p.to = search rules in
    let to_fits : SFits w32 c.args.to = c.ranges.to in
    let line_fits : SFits w32 c.line.result = search rules in
    let line_is : c.line.result ≡ line_to p c.args.to p.moved = simp to_z-of_z at c.line.ensures.line in
    let rect_is : c.swept-rect.result ≡ swept p.fragments.now (line_of p) p.moved c.line.result = simp to_z-of_z at c.swept-rect.ensures.swept in
    let outward_is : int_lt (to_z w32 (of_z w32 p.to)) (to_z w32 (of_z w32 c.args.to)) ≡ int_lt p.to c.args.to =
    ap (λ t. int_lt t (to_z w32 (of_z w32 c.args.to))) (to_z-of_z w32 p.to from_fits) ∙ ap (int_lt p.to) (to_z-of_z w32 c.args.to to_fits) in
    (sweep_facts p.fragments.now p.offsets.now p.moved p.to c.args.to c.swept-rect.result _ c.swept-rect.ensures.list.outline c.requires.placement.moved_below
    c.requires.placement.offsets_within.one_each c.requires.crosses c.requires.ordered c.requires.moves
    (rect_is ∙ ap (swept p.fragments.now (line_of p) p.moved) line_is) outward_is).0

pub first_miscount-miscount-requires-clause-high : goal.first_miscount-miscount-requires-clause-high
first_miscount-miscount-requires-clause-high c =
    let p = c.args.present.now in
    let from_fits : SFits w32 p.to = search rules in
    let to_fits : SFits w32 c.args.to = c.ranges.to in
    let line_fits : SFits w32 c.line.result = search rules in
    let line_is : c.line.result ≡ line_to p c.args.to p.moved = simp to_z-of_z at c.line.ensures.line in
    let rect_is : c.swept-rect.result ≡ swept p.fragments.now (line_of p) p.moved c.line.result = simp to_z-of_z at c.swept-rect.ensures.swept in
    let outward_is : int_lt (to_z w32 (of_z w32 p.to)) (to_z w32 (of_z w32 c.args.to)) ≡ int_lt p.to c.args.to =
    ap (λ t. int_lt t (to_z w32 (of_z w32 c.args.to))) (to_z-of_z w32 p.to from_fits) ∙ ap (int_lt p.to) (to_z-of_z w32 c.args.to to_fits) in
    (sweep_facts p.fragments.now p.offsets.now p.moved p.to c.args.to c.swept-rect.result _ c.swept-rect.ensures.list.outline c.requires.placement.moved_below
    c.requires.placement.offsets_within.one_each c.requires.crosses c.requires.ordered c.requires.moves
    (rect_is ∙ ap (swept p.fragments.now (line_of p) p.moved) line_is) outward_is).1

pub first_miscount-miscount-requires-clause-beside : goal.first_miscount-miscount-requires-clause-beside
first_miscount-miscount-requires-clause-beside c =
    let p = c.args.present.now in
    let from_fits : SFits w32 p.to = search rules in
    let to_fits : SFits w32 c.args.to = c.ranges.to in
    let line_fits : SFits w32 c.line.result = search rules in
    let line_is : c.line.result ≡ line_to p c.args.to p.moved = simp to_z-of_z at c.line.ensures.line in
    let rect_is : c.swept-rect.result ≡ swept p.fragments.now (line_of p) p.moved c.line.result = simp to_z-of_z at c.swept-rect.ensures.swept in
    let outward_is : int_lt (to_z w32 (of_z w32 p.to)) (to_z w32 (of_z w32 c.args.to)) ≡ int_lt p.to c.args.to =
    ap (λ t. int_lt t (to_z w32 (of_z w32 c.args.to))) (to_z-of_z w32 p.to from_fits) ∙ ap (int_lt p.to) (to_z-of_z w32 c.args.to to_fits) in
    (sweep_facts p.fragments.now p.offsets.now p.moved p.to c.args.to c.swept-rect.result _ c.swept-rect.ensures.list.outline c.requires.placement.moved_below
    c.requires.placement.offsets_within.one_each c.requires.crosses c.requires.ordered c.requires.moves
    (rect_is ∙ ap (swept p.fragments.now (line_of p) p.moved) line_is) outward_is).2

pub returns : goal.returns
returns c =
    let p = c.args.present.now in
    let from_fits : SFits w32 p.to = search rules in
    let to_fits : SFits w32 c.args.to = c.ranges.to in
    let line_fits : SFits w32 c.line.result = search rules in
    let line_is : c.line.result ≡ line_to p c.args.to p.moved = simp to_z-of_z at c.line.ensures.line in
    let rect_is : c.swept-rect.result ≡ swept p.fragments.now (line_of p) p.moved c.line.result = simp to_z-of_z at c.swept-rect.ensures.swept in
    let outward_is : int_lt (to_z w32 (of_z w32 p.to)) (to_z w32 (of_z w32 c.args.to)) ≡ int_lt p.to c.args.to =
    ap (λ t. int_lt t (to_z w32 (of_z w32 c.args.to))) (to_z-of_z w32 p.to from_fits) ∙ ap (int_lt p.to) (to_z-of_z w32 c.args.to to_fits) in
    subst (IsFirst (λ q. CrossesAt p.fragments.now (line_to p c.args.to) q.x q.y)) (sym c.earlier.ensures)
    (crossing_is p.fragments.now p.offsets.now p.moved p.to c.args.to c.swept-rect.result _ c.args.meeting c.first_miscount-miscount.result
    c.swept-rect.ensures.list.outline c.requires.placement.moved_below c.requires.placement.offsets_within.one_each c.requires.crosses c.requires.ordered
    (rect_is ∙ ap (swept p.fragments.now (line_of p) p.moved) line_is) outward_is
    c.requires.meeting c.first_miscount-miscount.ensures)

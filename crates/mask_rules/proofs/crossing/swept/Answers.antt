-- The rectangle between the two lines.
use Rattle.std.proofs.Common.{◌≡◌, ◌<◌, length, w32, SFits, sym, ◌∙◌, ap, subst, arith, rules}
use Rattle.std.proofs.lemmas.Int.{ints, to_z-of_z}
use Rattle.outline_model.specs.declared.fragment.Fragment.{Fragment}
use Rattle.outline_model.specs.Outline.{fragment_at, end_at, joined, side_of, low_end, rect_between}
use Rattle.mask_rules.specs.Placements.{line_of}
use Rattle.mask_rules.proofs.StretchIs.{high_joined}
use Rattle.mask_rules.specs.Limits.{IsMaskRect}
use Rattle.mask_rules.proofs.OffsetMoves.{rect_within}
use Rattle.mask_rules.proofs.crossing.swept.Goals as goal

pub end-low-requires-clause-place : goal.end-low-requires-clause-place
end-low-requires-clause-place c =
    let within = c.get-fragment.ensures.list.lo_within c.args.present.now.moved c.requires.placement.moved_below in
    let low = within.0 in let high = within.1 in
    let is : c.get-fragment.result.now.lo ≡ (fragment_at c.args.present.now.fragments.now c.args.present.now.moved).lo = ap (λ (f : Fragment). f.lo) c.get-fragment.ensures.fragment in
    (omega (arith, ints), omega (arith, ints))

pub end-high-requires-clause-place : goal.end-high-requires-clause-place
end-high-requires-clause-place c =
    let within = c.get-fragment.ensures.list.hi_within c.args.present.now.moved c.requires.placement.moved_below in
    let low = within.0 in let high = within.1 in
    let is : c.get-fragment.result.now.hi ≡ (fragment_at c.args.present.now.fragments.now c.args.present.now.moved).hi = ap (λ (f : Fragment). f.hi) c.get-fragment.ensures.fragment in
    (omega (arith, ints), omega (arith, ints))

pub returns-clause-within : goal.returns-clause-within
returns-clause-within c =
    let from_fits : SFits w32 c.line-from.result = search rules in
    let low_fits : SFits w32 c.end-low.result = search rules in
    let high_fits : SFits w32 c.end-high.result = search rules in
    let to_fits = c.ranges.to in
    let is : c.rect_between.result ≡ rect_between c.get-fragment.result.now.side c.line-from.result c.args.to c.end-low.result c.end-high.result = simp to_z-of_z at c.rect_between.ensures in
    subst IsMaskRect (sym is)
    (rect_within c.get-fragment.result.now.side c.line-from.result c.args.to c.end-low.result c.end-high.result c.line-from.ensures.within c.requires.to c.end-low.ensures.within)

pub end-high-requires-clause-join : goal.end-high-requires-clause-join
end-high-requires-clause-join c =
    let fs = c.args.present.now.fragments.now in
    subst (λ (f : Fragment). joined f.high < length fs) (sym c.get-fragment.ensures.fragment)
    (high_joined fs c.args.present.now.moved c.get-fragment.ensures.list.outline c.requires.placement.moved_below)

pub returns-clause-swept : goal.returns-clause-swept
returns-clause-swept c =
    let fs = c.args.present.now.fragments.now in
    let i = c.args.present.now.moved in
    let line = line_of c.args.present.now in
    let f = c.get-fragment.result.now in
    let from_fits : SFits w32 c.line-from.result = search rules in
    let low_fits : SFits w32 c.end-low.result = search rules in
    let high_fits : SFits w32 c.end-high.result = search rules in
    let lo_fits : SFits w32 f.lo = search rules in
    let hi_fits : SFits w32 f.hi = search rules in
    let to_fits = c.ranges.to in
    let is : c.rect_between.result ≡ rect_between f.side c.line-from.result c.args.to c.end-low.result c.end-high.result = simp to_z-of_z at c.rect_between.ensures in
    let low_is : c.end-low.result ≡ end_at line f.low f.lo = simp to_z-of_z at c.end-low.ensures.end in
    let high_is : c.end-high.result ≡ end_at line f.high f.hi = simp to_z-of_z at c.end-high.ensures.end in
    is
    ∙ ap (λ s. rect_between s c.line-from.result c.args.to c.end-low.result c.end-high.result) (ap (λ (g : Fragment). g.side) c.get-fragment.ensures.fragment)
    ∙ ap (λ t. rect_between (side_of fs i) t c.args.to c.end-low.result c.end-high.result) c.line-from.ensures.line
    ∙ ap (λ t. rect_between (side_of fs i) (line i) c.args.to t c.end-high.result)
    (low_is ∙ ap (λ (g : Fragment). end_at line g.low g.lo) c.get-fragment.ensures.fragment)
    ∙ ap (λ t. rect_between (side_of fs i) (line i) c.args.to (low_end fs line i) t)
    (high_is ∙ ap (λ (g : Fragment). end_at line g.high g.hi) c.get-fragment.ensures.fragment)

-- What is not given has no pixel of the rectangle after it.
use Rattle.std.proofs.Common.{Bool, true, false, not, sym, ◌∙◌, ap, subst}
use Rattle.opc_base.specs.declared.plane.Rect.{Rect}
use Rattle.mask_rules.specs.declared.stretch.Stretch.{Stretch}
use Rattle.mask_rules.specs.Placements.{line_of}
use Rattle.mask_rules.specs.Spots.{spot_of}
use Rattle.mask_rules.specs.Stretches.{stretch_at}
use Rattle.mask_rules.proofs.SpotSearch.{IsGiven, given_chosen, given_inside, given_lowest}
use Rattle.mask_rules.proofs.spots.spots_of.Goals as goal

pub returns-clause-across : goal.returns-clause-across
returns-clause-across c =
    let p = c.args.outline.now in
    let s = stretch_at p.fragments.now (line_of p) true c.args.k in
    c.spot_of-across.ensures
    ∙ given_inside c.args.rect.now c.args.opens s c.stretch_across-upright.result
    (record { is = c.stretch_across-upright.ensures.stretch; none = c.stretch_across-upright.ensures.none })

pub returns-clause-along : goal.returns-clause-along
returns-clause-along c =
    let p = c.args.outline.now in
    let s = stretch_at p.fragments.now (line_of p) false c.args.k in
    c.spot_of-along.ensures
    ∙ ap (λ (band : Rect). spot_of false band c.args.opens c.stretch_across-level.result) c.lowest-left.ensures
    ∙ given_lowest false c.args.rect.now c.args.opens s c.stretch_across-level.result c.requires.wide c.requires.high
    (record { is = c.stretch_across-level.ensures.stretch; none = c.stretch_across-level.ensures.none })

pub returns-clause-begins : goal.returns-clause-begins
returns-clause-begins c =
    let p = c.args.outline.now in
    let v = c.args.vertical in
    let s : Bool → Stretch = λ turn. stretch_at p.fragments.now (line_of p) turn c.args.k in
    c.spot_of-begins.ensures
    ∙ ap (λ (band : Rect). spot_of v band c.args.opens c.choose-mine.result) c.lowest-band.ensures
    ∙ given_lowest v c.args.rect.now c.args.opens (s v) c.choose-mine.result c.requires.wide c.requires.high
    (subst (IsGiven c.args.rect.now v (s v)) (sym c.choose-mine.ensures)
    (given_chosen v c.args.rect.now s c.stretch_across-upright.result c.stretch_across-level.result
    (record { is = c.stretch_across-upright.ensures.stretch; none = c.stretch_across-upright.ensures.none })
    (record { is = c.stretch_across-level.ensures.stretch; none = c.stretch_across-level.ensures.none })))

pub returns-clause-ends : goal.returns-clause-ends
returns-clause-ends c =
    let p = c.args.outline.now in
    let v = c.args.vertical in
    let s : Bool → Stretch = λ turn. stretch_at p.fragments.now (line_of p) turn c.args.k in
    c.spot_of-ends.ensures
    ∙ ap (λ (band : Rect). spot_of v band (not c.args.opens) c.choose-mine.result) c.lowest-band.ensures
    ∙ given_lowest v c.args.rect.now (not c.args.opens) (s v) c.choose-mine.result c.requires.wide c.requires.high
    (subst (IsGiven c.args.rect.now v (s v)) (sym c.choose-mine.ensures)
    (given_chosen v c.args.rect.now s c.stretch_across-upright.result c.stretch_across-level.result
    (record { is = c.stretch_across-upright.ensures.stretch; none = c.stretch_across-upright.ensures.none })
    (record { is = c.stretch_across-level.ensures.stretch; none = c.stretch_across-level.ensures.none })))

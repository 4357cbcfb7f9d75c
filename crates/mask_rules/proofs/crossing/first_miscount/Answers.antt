-- The first of the pixels that begin in the rectangle, and of its corner.
use Rattle.std.proofs.Common.{◌≡◌, Bool, not, if◌then◌else◌, Some, None, length, sym, ◌∙◌, ap, subst}
use Rattle.outline_model.specs.declared.fragment.Fragment.{Fragment}
use Rattle.outline_model.specs.Outline.{is_vertical, mask, side_of}
use Rattle.mask_rules.specs.First.{IsFirst, earlier}
use Rattle.mask_rules.specs.Placements.{line_of}
use Rattle.mask_rules.specs.Spots.{SpotsAt, is_ahead, lowest}
use Rattle.mask_rules.specs.Stretches.{stretch_at}
use Rattle.mask_rules.specs.Sweeps.{MiscountAt, corner_of}
use Rattle.mask_rules.proofs.Drawn.{drawn}
use Rattle.mask_rules.proofs.Miscount.{miscount_is}
use Rattle.mask_rules.proofs.crossing.first_miscount.Goals as goal

pub returns : goal.returns
returns c =
    let p = c.args.present.now in
    let fs = p.fragments.now in
    let line = line_of p in
    let r = c.args.rect.now in
    let outward = c.args.outward in
    let inside = mask fs line in
    let v = is_vertical (side_of fs p.moved) in
    let v_is : c.is_vertical-vertical.result ≡ v = c.is_vertical-vertical.ensures ∙ ap (λ (f : Fragment). is_vertical f.side) c.get.ensures.fragment in
    let spots = c.first_spots-spots.result in
    let found = c.first_spots-spots.ensures in
    let begins_first : IsFirst (SpotsAt fs line v (lowest v r) outward) spots.begins =
    subst (λ (t : Bool). IsFirst (SpotsAt fs line t (lowest t r) outward) spots.begins) v_is found.begins in
    let ends_first : IsFirst (SpotsAt fs line v (lowest v r) (not outward)) spots.ends =
    subst (λ (t : Bool). IsFirst (SpotsAt fs line t (lowest t r) (not outward)) spots.ends) v_is found.ends in
    let corner_is : c.corner_if-corner.result ≡ (if is_ahead spots.ends spots.begins then Some (corner_of r) else None) =
    c.corner_if-corner.ensures ∙ ap (λ (t : Bool). if t then Some (corner_of r) else None) c.is_ahead.ensures in
    subst (IsFirst (MiscountAt inside r outward))
    (sym (c.earlier-2.ensures ∙ ap (λ t. earlier t c.corner_if-corner.result) c.earlier.ensures
    ∙ ap (earlier (earlier spots.across spots.along)) corner_is))
    (miscount_is inside (length fs) (stretch_at fs line) v r outward spots.across spots.along spots.begins spots.ends
    (drawn fs line c.requires.list.outline c.requires.crosses) c.requires.wide c.requires.high c.requires.beside
    found.across found.along begins_first ends_first)

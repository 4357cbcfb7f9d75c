-- The first rule that a pixel breaks, in the order in which they are judged.
use Rattle.std.proofs.Common.{Some, set, w32, SFits, sym, subst}
use Rattle.std.proofs.lemmas.Int.{to_z-of_z}
use Rattle.opc_base.specs.declared.broken.RuleName.TheVariants.{M0, M4}
use Rattle.opc_base.specs.declared.broken.Place.TheVariants.{Pixel, Fragment as FragmentNumber}
use Rattle.outline_model.specs.Outline.{lines}
use Rattle.outline_model.specs.Rules.{Breaks}
use Rattle.opc_base.specs.declared.broken.Broken.{Broken}
use Rattle.mask_rules.specs.Clashes.{ClashesNow}
use Rattle.mask_rules.specs.First.{IsFirst}
use Rattle.mask_rules.specs.Found.{IsFound}
use Rattle.mask_rules.specs.Verdicts.{IsJudged, NoneBreaks}
use Rattle.mask_rules.proofs.VerdictLemmas.{none_crosses, first_m1, first_m2, first_m3, none_m0, judged_pixel, judged_verdict, before_m0, ordered_of}
use Rattle.mask_rules.proofs.judge.judge_pixels.Goals as goal

pub first_crossing-requires-clause-meeting : goal.first_crossing-requires-clause-meeting
first_crossing-requires-clause-meeting c = c.first_found-found.ensures.meet

pub first_crossing-requires-clause-crosses : goal.first_crossing-requires-clause-crosses
first_crossing-requires-clause-crosses c =
    let p = c.args.present.now in
    none_crosses c.args.rules.now p.fragments.now (set p.offsets.now p.moved p.to) (c.requires.keeps M0)

pub first_crossing-requires-clause-ordered : goal.first_crossing-requires-clause-ordered
first_crossing-requires-clause-ordered c =
    let p = c.args.present.now in
    ordered_of _ _ (λ out. c.requires.keeps M4 (FragmentNumber p.moved) (c.requires.placement.moved_below, out))

pub returns-in-Some : goal.returns-in-Some
returns-in-Some c =
    let p = c.args.present.now in
    let fs = p.fragments.now in
    let o = p.offsets.now in
    let i = p.moved in
    let to = c.args.to in
    let r = c.args.rules.now in
    let to_fits : SFits w32 to = c.ranges.to in
    let is_m0 : IsFirst (λ q. Breaks r fs (set o i to) M0 (Pixel q)) c.first_crossing.result = simp to_z-of_z at c.first_crossing.ensures in
    subst (λ (b : Broken). IsJudged r fs (set o i to) (Some b)) (sym c.at_pixel.ensures)
    (judged_pixel r fs (set o i to) M0 c.in-Some.crossing c.first_crossing.result is_m0 c.in-Some.is
    (before_m0 r fs (set o i to) c.requires.offset c.requires.ends))

pub returns-in-None : goal.returns-in-None
returns-in-None c =
    let p = c.args.present.now in
    let fs = p.fragments.now in
    let o = p.offsets.now in
    let i = p.moved in
    let to = c.args.to in
    let r = c.args.rules.now in
    let found = c.first_found-found.result in
    let to_fits : SFits w32 to = c.ranges.to in
    let is_m0 : IsFirst (λ q. Breaks r fs (set o i to) M0 (Pixel q)) c.first_crossing.result = simp to_z-of_z at c.first_crossing.ensures in
    let m0 : NoneBreaks r fs (set o i to) M0 = none_m0 r fs (set o i to) c.first_crossing.result is_m0 c.in-None.is in
    let is_found : IsFound r (λ clash. ClashesNow fs (lines fs (set o i to)) clash i) found = simp to_z-of_z at c.first_found-found.ensures in
    let keeps = c.requires.keeps in
    let outline = c.requires.list.outline in
    let below = c.requires.placement.moved_below in
    subst (IsJudged r fs (set o i to)) (sym c.verdict.ensures)
    (judged_verdict r fs (set o i to) found.narrow found.close found.touch c.requires.offset c.requires.ends m0
    (first_m1 r fs o i p.to to found.narrow outline below keeps m0 is_found.narrow)
    (first_m2 r fs o i p.to to found.close outline below keeps m0 is_found.close)
    (first_m3 r fs o i p.to to found.touch outline below keeps m0 is_found.touch))

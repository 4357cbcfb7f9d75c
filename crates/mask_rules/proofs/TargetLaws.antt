-- The first broken rule of a target, from the first pixel of each.
use Rattle.std.proofs.Common.{inl, inr, ◌<◌, Option, Some, None, refl, arith}
use Rattle.std.specs.Prelude.{IfSome, IsNone, ◌↔◌}
use Rattle.std.proofs.lemmas.Int.{ints}
use Rattle.opc_base.specs.declared.plane.Pix.{Pix}
use Rattle.opc_base.specs.declared.rules.MaskRules.{MaskRules}
use Rattle.opc_base.specs.declared.broken.Broken.{Broken}
use Rattle.opc_base.specs.declared.broken.RuleName.{RuleName}
use Rattle.opc_base.specs.declared.broken.RuleName.TheVariants.{M0, M1, M2, M3, M4, M5}
use Rattle.opc_base.specs.declared.broken.Place.{Place}
use Rattle.opc_base.specs.declared.broken.Place.TheVariants.{Pixel, Fragment as FragmentNumber}
use Rattle.opc_base.specs.Plane.{PixelSet, outside}
use Rattle.opc_base.specs.Runs.{IsTooNarrow}
use Rattle.outline_model.specs.Rules.{ComesBefore, rank}
use Rattle.rect_union.specs.Touches.{IsFirstTouch}
use Rattle.mask_rules.specs.First.{IsFirst, IsUpTo}
use Rattle.mask_rules.specs.TargetRules.{BreaksTarget, IsFirstBrokenOf, KeepsTarget, at_pixel, verdict}

not_before : (p q : Pix) → IsUpTo p q → ComesBefore (Pixel q) (Pixel p) → ⊥
not_before p q up before = elim up [
  | inl less ↦ elim before [ inl more ↦ omega (arith, ints) | inr level ↦ (let same = level.0 in omega (arith, ints)) ]
  | inr row ↦ (let same_row = row.0 in let right = row.1 in elim before [ inl more ↦ omega (arith, ints) | inr level ↦ (let left = level.1 in omega (arith, ints)) ])
]

abbrev IsNarrow : MaskRules → PixelSet → Pix → Type 0
IsNarrow rules pixels p = IsTooNarrow pixels rules.width p.x p.y

abbrev IsTight : MaskRules → PixelSet → Pix → Type 0
IsTight rules pixels p = IsTooNarrow (outside pixels) rules.space p.x p.y

first_narrow_breaks : (rules : MaskRules) (pixels : PixelSet) (p : Pix) → IsFirst (λ q. IsTooNarrow pixels rules.width q.x q.y) (Some p) → IsFirstBrokenOf rules pixels (at_pixel M1 p)
first_narrow_breaks rules pixels p first = record {
  broken = first.is_one p refl;
  rules_before = before;
  places_before = places;
}
  where
    before : (rule : RuleName) (place : Place) → rank rule < rank M1 → ¬ BreaksTarget rules pixels rule place
    before M0 (Pixel q) less breaks = breaks
    before M4 (Pixel q) less breaks = breaks
    before M5 (Pixel q) less breaks = breaks
    before M1 (Pixel q) less breaks = absurd (omega arith)
    before M2 (Pixel q) less breaks = absurd (omega arith)
    before M3 (Pixel q) less breaks = absurd (omega arith)
    before rule (FragmentNumber k) less breaks = breaks

    places : (place : Place) → ComesBefore place (Pixel p) → ¬ BreaksTarget rules pixels M1 place
    places (Pixel q) comes breaks = not_before p q (first.before_all q breaks) comes
    places (FragmentNumber k) comes breaks = breaks

first_tight_breaks : (rules : MaskRules) (pixels : PixelSet) (p : Pix) → IsFirst (λ q. IsTooNarrow pixels rules.width q.x q.y) None
    → IsFirst (λ q. IsTooNarrow (outside pixels) rules.space q.x q.y) (Some p) → IsFirstBrokenOf rules pixels (at_pixel M2 p)
first_tight_breaks rules pixels p wide first = record {
  broken = first.is_one p refl;
  rules_before = before;
  places_before = places;
}
  where
    before : (rule : RuleName) (place : Place) → rank rule < rank M2 → ¬ BreaksTarget rules pixels rule place
    before M0 (Pixel q) less breaks = breaks
    before M4 (Pixel q) less breaks = breaks
    before M5 (Pixel q) less breaks = breaks
    before M1 (Pixel q) less breaks = wide.before_all q breaks
    before M2 (Pixel q) less breaks = absurd (omega arith)
    before M3 (Pixel q) less breaks = absurd (omega arith)
    before rule (FragmentNumber k) less breaks = breaks

    places : (place : Place) → ComesBefore place (Pixel p) → ¬ BreaksTarget rules pixels M2 place
    places (Pixel q) comes breaks = not_before p q (first.before_all q breaks) comes
    places (FragmentNumber k) comes breaks = breaks

first_touch_breaks : (rules : MaskRules) (pixels : PixelSet) (p : Pix) → IsFirst (λ q. IsTooNarrow pixels rules.width q.x q.y) None
    → IsFirst (λ q. IsTooNarrow (outside pixels) rules.space q.x q.y) None → IsFirstTouch pixels (Some p) → IsFirstBrokenOf rules pixels (at_pixel M3 p)
first_touch_breaks rules pixels p wide spaced touch = record {
  broken = touch.0;
  rules_before = before;
  places_before = places;
}
  where
    before : (rule : RuleName) (place : Place) → rank rule < rank M3 → ¬ BreaksTarget rules pixels rule place
    before M0 (Pixel q) less breaks = breaks
    before M4 (Pixel q) less breaks = breaks
    before M5 (Pixel q) less breaks = breaks
    before M1 (Pixel q) less breaks = wide.before_all q breaks
    before M2 (Pixel q) less breaks = spaced.before_all q breaks
    before M3 (Pixel q) less breaks = absurd (omega arith)
    before rule (FragmentNumber k) less breaks = breaks

    places : (place : Place) → ComesBefore place (Pixel p) → ¬ BreaksTarget rules pixels M3 place
    places (Pixel q) comes breaks = touch.1 q.x q.y comes breaks
    places (FragmentNumber k) comes breaks = breaks

target_kept : (rules : MaskRules) (pixels : PixelSet) → IsFirst (λ q. IsTooNarrow pixels rules.width q.x q.y) None
    → IsFirst (λ q. IsTooNarrow (outside pixels) rules.space q.x q.y) None → IsFirstTouch pixels None → KeepsTarget rules pixels
target_kept rules pixels wide spaced none M0 (Pixel q) breaks = breaks
target_kept rules pixels wide spaced none M1 (Pixel q) breaks = wide.before_all q breaks
target_kept rules pixels wide spaced none M2 (Pixel q) breaks = spaced.before_all q breaks
target_kept rules pixels wide spaced none M3 (Pixel q) breaks = none q.x q.y breaks
target_kept rules pixels wide spaced none M4 (Pixel q) breaks = breaks
target_kept rules pixels wide spaced none M5 (Pixel q) breaks = breaks
target_kept rules pixels wide spaced none rule (FragmentNumber k) breaks = breaks

not_kept : (rules : MaskRules) (pixels : PixelSet) (b : Broken) → IsFirstBrokenOf rules pixels b → IsNone (Some b) ↔ KeepsTarget rules pixels
not_kept rules pixels b first = (λ none. absurd (cc), λ keeps. absurd (keeps b.rule b.at first.broken))

-- the verdict on what was found for each rule
pub verdict_broken : (rules : MaskRules) (pixels : PixelSet) (narrow tight touch : Option Pix) → IsFirst (λ q. IsTooNarrow pixels rules.width q.x q.y) narrow
    → IsFirst (λ q. IsTooNarrow (outside pixels) rules.space q.x q.y) tight → IsFirstTouch pixels touch → IfSome (verdict narrow tight touch) (IsFirstBrokenOf rules pixels)
verdict_broken rules pixels (Some p) tight touch a b c = first_narrow_breaks rules pixels p a
verdict_broken rules pixels None (Some p) touch a b c = first_tight_breaks rules pixels p a b
verdict_broken rules pixels None None (Some p) a b c = first_touch_breaks rules pixels p a b c
verdict_broken rules pixels None None None a b c = tt

pub verdict_kept : (rules : MaskRules) (pixels : PixelSet) (narrow tight touch : Option Pix) → IsFirst (λ q. IsTooNarrow pixels rules.width q.x q.y) narrow
    → IsFirst (λ q. IsTooNarrow (outside pixels) rules.space q.x q.y) tight → IsFirstTouch pixels touch → IsNone (verdict narrow tight touch) ↔ KeepsTarget rules pixels
verdict_kept rules pixels (Some p) tight touch a b c = not_kept rules pixels (at_pixel M1 p) (first_narrow_breaks rules pixels p a)
verdict_kept rules pixels None (Some p) touch a b c = not_kept rules pixels (at_pixel M2 p) (first_tight_breaks rules pixels p a b)
verdict_kept rules pixels None None (Some p) a b c = not_kept rules pixels (at_pixel M3 p) (first_touch_breaks rules pixels p a b c)
verdict_kept rules pixels None None None a b c = (λ none. target_kept rules pixels a b c, λ keeps. refl)

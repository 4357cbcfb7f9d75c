-- Where no fragment has moved, the mask keeps all rules where the target keeps those of runs and corners.
use Rattle.std.proofs.Common.{◌≡◌, ◌⊎◌, inl, inr, ℕ, ◌<◌, ℤ, pos, ◌≤ℤ◌, ◌<ℤ◌, Bool, true, false, not, if◌then◌else◌, List, length, refl, sym, ◌∙◌, ap, subst, arith}
use mathlib.Core.Path.{fun_ext}
use Rattle.std.proofs.lemmas.Int.{ints, clamps}
use Rattle.opc_base.specs.declared.broken.RuleName.{RuleName}
use Rattle.opc_base.specs.declared.broken.RuleName.TheVariants.{M0, M1, M2, M3, M4, M5}
use Rattle.opc_base.specs.declared.broken.Place.{Place}
use Rattle.opc_base.specs.declared.broken.Place.TheVariants.{Pixel, Fragment as FragmentNumber}
use Rattle.opc_base.specs.declared.plane.Rect.{Rect}
use Rattle.opc_base.specs.declared.rules.MaskRules.{MaskRules}
use Rattle.opc_base.specs.Plane.{cover}
use Rattle.outline_model.specs.declared.fragment.Fragment.{Fragment}
use Rattle.outline_model.specs.declared.fragment.Join.{Join}
use Rattle.outline_model.specs.declared.fragment.Join.TheVariants.{Cut, Corner}
use Rattle.outline_model.specs.Limits.{IsFragmentList}
use Rattle.outline_model.specs.Outline.{count, end_at, finish_join, finish_place, fragment_at, is_rising, is_vertical, lines, mask, side_of, start_join, start_place}
use Rattle.outline_model.specs.Rules.{Breaks, CrossesAt, KeepsRules, NoneCrosses}
use Rattle.outline_model.proofs.TargetMask.{AtRest, IsUnmoved, at_rest_without_offsets, finish_at_rest, start_at_rest, unmoved_count, unmoved_ends, unmoved_mask}
use Rattle.outline_model.proofs.Walk.{stands}
use Rattle.mask_rules.specs.declared.stretch.Stretch.{Stretch}
use Rattle.mask_rules.specs.Stretches.{Spans, stretch_at, walked}
use Rattle.mask_rules.specs.TargetRules.{KeepsTarget}
use Rattle.mask_rules.proofs.Drawn.{StretchOn, falls_stretch, leftward_stretch, rightward_stretch, rises_stretch}
use Rattle.mask_rules.proofs.StretchIs.{stretch-corner, stretch-cut, stretch-own}

-- ---- the outline does not cross itself

-- a fragment lies beside t on the line a, of vertical lines or of horizontal ones
abbrev LiesOn : Bool → Fragment → ℤ → ℤ → Type 0
LiesOn v f a t = (is_vertical f.side ≡ v) × (f.edge ≡ a) × (f.lo ≤ℤ t) × (t <ℤ f.hi)

-- a stretch of no length spans nothing
no_span : (v : Bool) (at from to t : ℤ) → from ≡ to → ¬ Spans (walked v at from to) t
no_span v at from to t same spans = let a = spans.0 in let b = spans.1 in omega (arith, ints, clamps)

-- at rest only the fragments themselves span anything
own_lies : (fs : List Fragment) (line : ℕ → ℤ) (v : Bool) (k : ℕ) (a t : ℤ) (opens : Bool) → IsFragmentList fs → AtRest fs line → k < length fs
    → stands fs k ≡ v → StretchOn fs line v k a t opens → LiesOn v (fragment_at fs k) a t
own_lies fs line v k a t opens list rest below own on = by (is_rising (side_of fs k)) refl
  where
    is : stretch_at fs line v k ≡ walked v (fragment_at fs k).edge (start_place (fragment_at fs k)) (finish_place (fragment_at fs k))
    is =
        stretch-own fs line v k own
        ∙ ap (λ l. walked v l (end_at line (start_join (fragment_at fs k)) (start_place (fragment_at fs k))) (end_at line (finish_join (fragment_at fs k)) (finish_place (fragment_at fs k)))) (rest k)
        ∙ ap (λ l. walked v (fragment_at fs k).edge l (end_at line (finish_join (fragment_at fs k)) (finish_place (fragment_at fs k)))) (start_at_rest fs line k list.outline rest below)
        ∙ ap (λ l. walked v (fragment_at fs k).edge (start_place (fragment_at fs k)) l) (finish_at_rest fs line k list.outline rest below)

    at : (fragment_at fs k).edge ≡ a
    at = sym (ap (λ (s : Stretch). s.at) is) ∙ on.0

    spans : Spans (walked v (fragment_at fs k).edge (start_place (fragment_at fs k)) (finish_place (fragment_at fs k))) t
    spans = subst (λ (s : Stretch). Spans s t) is on.1

    by : (r : Bool) → is_rising (side_of fs k) ≡ r → LiesOn v (fragment_at fs k) a t
    by true e =
        let some = list.some k below in
        let here = subst (λ (r : Bool). Spans (walked v (fragment_at fs k).edge (if r then (fragment_at fs k).lo else (fragment_at fs k).hi) (if r then (fragment_at fs k).hi else (fragment_at fs k).lo)) t) e spans in
        let low = here.0 in let high = here.1 in
        (own, at, omega (arith, ints, clamps), omega (arith, ints, clamps))
    by false e =
        let some = list.some k below in
        let here = subst (λ (r : Bool). Spans (walked v (fragment_at fs k).edge (if r then (fragment_at fs k).lo else (fragment_at fs k).hi) (if r then (fragment_at fs k).hi else (fragment_at fs k).lo)) t) e spans in
        let low = here.0 in let high = here.1 in
        (own, at, omega (arith, ints, clamps), omega (arith, ints, clamps))

jog_spans_none : (fs : List Fragment) (line : ℕ → ℤ) (v : Bool) (k : ℕ) (t : ℤ) → IsFragmentList fs → AtRest fs line → k < length fs
    → stands fs k ≡ not v → ¬ Spans (stretch_at fs line v k) t
jog_spans_none fs line v k t list rest below across = by (finish_join (fragment_at fs k)) refl
  where
    by : (j : Join) → finish_join (fragment_at fs k) ≡ j → ¬ Spans (stretch_at fs line v k) t
    by (Cut j) e spans =
        let met = list.outline.cut k j below e in
        let same : line k ≡ line j = rest k ∙ sym met.3 ∙ sym (rest j) in
        no_span v (finish_place (fragment_at fs k)) (line k) (line j) t same
        (subst (λ (s : Stretch). Spans s t) (stretch-cut fs line v k j list.outline below across e) spans)
    by (Corner j) e spans =
        no_span v (line j) (line k) (line k) t refl
        (subst (λ (s : Stretch). Spans s t) (stretch-corner fs line v k j list.outline below across e) spans)

stretch_lies : (fs : List Fragment) (line : ℕ → ℤ) (v : Bool) (k : ℕ) (a t : ℤ) (opens : Bool) → IsFragmentList fs → AtRest fs line → k < length fs
    → StretchOn fs line v k a t opens → LiesOn v (fragment_at fs k) a t
stretch_lies fs line v k a t opens list rest below on = by (same v (stands fs k))
  where
    same : (b c : Bool) → (c ≡ b) ⊎ (c ≡ not b)
    same true true = inl refl
    same true false = inr refl
    same false true = inr refl
    same false false = inl refl

    by : (stands fs k ≡ v) ⊎ (stands fs k ≡ not v) → LiesOn v (fragment_at fs k) a t
    by (inl own) = own_lies fs line v k a t opens list rest below own on
    by (inr across) = absurd (jog_spans_none fs line v k t list rest below across on.1)

-- two stretches on one side of a pixel are one
stretches_differ : (fs : List Fragment) (line : ℕ → ℤ) (v : Bool) (j k : ℕ) (a t : ℤ) → j ≡ k
    → StretchOn fs line v j a t true → StretchOn fs line v k a t false → ⊥
stretches_differ fs line v j k a t same first second =
    let one : (stretch_at fs line v k).opens ≡ true = sym (ap (λ i. (stretch_at fs line v i).opens) same) ∙ first.2 in
    let wrong : true ≡ false = sym one ∙ second.2 in cc wrong

pub unmoved_crosses : (rects : List Rect) (fs : List Fragment) (offsets : List ℤ) → IsUnmoved rects fs offsets → NoneCrosses fs (lines fs offsets)
unmoved_crosses rects fs offsets unmoved x y crosses = by crosses
  where
    rest : AtRest fs (lines fs offsets)
    rest = at_rest_without_offsets fs offsets unmoved.zero

    single : (b : Bool) → count fs (lines fs offsets) x y ≡ (if b then pos 1 else pos 0) → (count fs (lines fs offsets) x y ≡ pos 0) ⊎ (count fs (lines fs offsets) x y ≡ pos 1)
    single true e = inr e
    single false e = inl e

    by : CrossesAt fs (lines fs offsets) x y → ⊥
    by (inl not_single) = not_single (single (cover rects x y) (unmoved_count rects fs offsets x y unmoved))
    by (inr (inl meet)) =
        let falls = falls_stretch fs (lines fs offsets) meet.j x y meet.falls in
        let rises = rises_stretch fs (lines fs offsets) meet.k x y meet.rises in
        stretches_differ fs (lines fs offsets) true meet.j meet.k x y
        (unmoved.boundary.upright_once meet.j meet.k x y meet.j_below meet.k_below
        (stretch_lies fs (lines fs offsets) true meet.j x y true unmoved.list rest meet.j_below falls)
        (stretch_lies fs (lines fs offsets) true meet.k x y false unmoved.list rest meet.k_below rises))
        falls rises
    by (inr (inr meet)) =
        let right = rightward_stretch fs (lines fs offsets) meet.k x y meet.rightward in
        let left = leftward_stretch fs (lines fs offsets) meet.j x y meet.leftward in
        stretches_differ fs (lines fs offsets) false meet.k meet.j y x
        (unmoved.boundary.level_once meet.k meet.j x y meet.k_below meet.j_below
        (stretch_lies fs (lines fs offsets) false meet.k y x true unmoved.list rest meet.k_below right)
        (stretch_lies fs (lines fs offsets) false meet.j y x false unmoved.list rest meet.j_below left))
        right left

-- ---- all rules

-- Where no fragment has moved and the target keeps the rules of runs and corners, the mask keeps all rules.
pub unmoved_keeps : (rules : MaskRules) (rects : List Rect) (fs : List Fragment) (offsets : List ℤ) → IsUnmoved rects fs offsets
    → KeepsTarget rules (cover rects) → KeepsRules rules fs offsets
unmoved_keeps rules rects fs offsets unmoved target = by
  where
    rest : AtRest fs (lines fs offsets)
    rest = at_rest_without_offsets fs offsets unmoved.zero

    kept : KeepsTarget rules (mask fs (lines fs offsets))
    kept = subst (KeepsTarget rules) (fun_ext (λ x. fun_ext (λ y. sym (unmoved_mask rects fs offsets x y unmoved)))) target

    by : (rule : RuleName) (place : Place) → ¬ Breaks rules fs offsets rule place
    by M5 (FragmentNumber k) h =
        let a = rules.max_in_in_range in let b = rules.max_out_in_range in
        let a0 = a.0 in let b0 = b.0 in let zero = unmoved.zero k in
        h.1 (omega (arith, ints), omega (arith, ints))
    by M4 (FragmentNumber k) h =
        let ends = unmoved_ends fs (lines fs offsets) k unmoved.list rest h.0 in
        let low = ends.0 in let high = ends.1 in let some = unmoved.list.some k h.0 in
        h.1 (omega (arith, ints))
    by M0 (Pixel p) h = unmoved_crosses rects fs offsets unmoved p.x p.y h
    by M1 (Pixel p) h = kept M1 (Pixel p) h
    by M2 (Pixel p) h = kept M2 (Pixel p) h
    by M3 (Pixel p) h = kept M3 (Pixel p) h
    by M5 (Pixel p) h = h
    by M4 (Pixel p) h = h
    by M0 (FragmentNumber k) h = h
    by M1 (FragmentNumber k) h = h
    by M2 (FragmentNumber k) h = h
    by M3 (FragmentNumber k) h = h

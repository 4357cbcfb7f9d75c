-- What the fragments of a region tell of it: it nowhere touches itself at a corner only, and lies within the limit of a
-- layout.
use Rattle.std.proofs.Common.{◌≡◌, ◌≢◌, ℕ, zero, suc, ◌<◌, ◌≤◌, ℤ, pos, negsuc, ◌+ℤ◌, ◌-ℤ◌, ◌≤ℤ◌, ◌<ℤ◌, Bool, true, false, ◌||◌, List, [], ◌∷◌, length, get_or, replicate, unsigned_abs, inl, refl, sym, ◌∙◌, ap, subst, arith}
use Rattle.std.specs.Prelude.{All}
use mathlib.Core.Path.{fun_ext}
use Rattle.std.proofs.lemmas.Int.{ints, by_lt_z}
use Rattle.std.proofs.lemmas.List.Folds.{list_any_at}
use Rattle.opc_base.specs.declared.plane.Rect.{Rect}
use Rattle.opc_base.specs.declared.rules.CutRules.{CutRules}
use Rattle.opc_base.specs.Canonical.{IsSolid}
use Rattle.opc_base.specs.Plane.{IsRectWithin, PixelSet, cover, rect_cover}
use Rattle.opc_base.specs.Runs.{IsCornerTouch}
use Rattle.outline_model.specs.declared.fragment.Fragment.{Fragment}
use Rattle.outline_model.specs.Fragmentation.{AreFragments}
use Rattle.outline_model.specs.Limits.{IsFragmentList}
use Rattle.outline_model.specs.Outline.{fragment_at, lines, mask}
use Rattle.outline_model.specs.Target.{IsBoundary, LiesLeftOf}
use Rattle.outline_model.proofs.TargetMask.{at_rest_without_offsets, get_or-zeros, mask-at_rest}
use Rattle.cutting.proofs.BoundaryLaws.{boundary_of_pieces}
use Rattle.cutting.proofs.FragmentLaws.{rules_hold}
use Rattle.assist_bars.specs.Bars.{IsCutOf}

-- ---- rectangles end on the left and on the right

left_of : (r : Rect) (x y : ℤ) → x <ℤ r.x0 → rect_cover r x y ≡ false
left_of r x y far = grind (arith, ints)

right_of : (r : Rect) (x y : ℤ) → r.x1 ≤ℤ x → rect_cover r x y ≡ false
right_of r x y far = grind (arith, ints)

in_neither : (r : Rect) (rs : List Rect) (x y : ℤ) → rect_cover r x y ≡ false → cover rs x y ≡ false → cover (r ∷ rs) x y ≡ false
in_neither r rs x y first rest = ap (λ t. t || cover rs x y) first ∙ rest

-- no pixel of them lies at or left of this column, which is left of the limit of a layout
pub record EndsLeft (rects : List Rect) : Type 0 where
  pub low : ℤ
  pub beyond : low ≤ℤ negsuc 1048000
  pub none : (x y : ℤ) → x ≤ℤ low → cover rects x y ≡ false

ends_left : (rects : List Rect) → EndsLeft rects
ends_left [] = record { low = negsuc 1048000; beyond = omega (arith, ints); none = λ x y far. refl }
ends_left (r ∷ rs) =
    let rest = ends_left rs in let beyond = rest.beyond in
    by_lt_z r.x0 rest.low
    (λ less. record {
      low = r.x0 -ℤ pos 1;
      beyond = omega (arith, ints);
      none = λ x y far. in_neither r rs x y (left_of r x y (omega (arith, ints))) (rest.none x y (omega (arith, ints)));
    })
    (λ most. record {
      low = rest.low -ℤ pos 1;
      beyond = omega (arith, ints);
      none = λ x y far. in_neither r rs x y (left_of r x y (omega (arith, ints))) (rest.none x y (omega (arith, ints)));
    })

pub record EndsRight (rects : List Rect) : Type 0 where
  pub high : ℤ
  pub beyond : pos 1048001 ≤ℤ high
  pub none : (x y : ℤ) → high ≤ℤ x → cover rects x y ≡ false

ends_right : (rects : List Rect) → EndsRight rects
ends_right [] = record { high = pos 1048001; beyond = omega (arith, ints); none = λ x y far. refl }
ends_right (r ∷ rs) =
    let rest = ends_right rs in let beyond = rest.beyond in
    by_lt_z rest.high r.x1
    (λ less. record {
      high = r.x1;
      beyond = omega (arith, ints);
      none = λ x y far. in_neither r rs x y (right_of r x y (omega (arith, ints))) (rest.none x y (omega (arith, ints)));
    })
    (λ most. record {
      high = rest.high;
      beyond = omega (arith, ints);
      none = λ x y far. in_neither r rs x y (right_of r x y (omega (arith, ints))) (rest.none x y (omega (arith, ints)));
    })

-- ---- where a line changes

steps : (a b : ℤ) → a ≤ℤ b → (n : ℕ) × (b ≡ a +ℤ pos n)
steps a b most = by (b -ℤ a) refl
  where
    by : (z : ℤ) → b -ℤ a ≡ z → (n : ℕ) × (b ≡ a +ℤ pos n)
    by (pos n) e = (n, omega (arith, ints))
    by (negsuc n) e = absurd (omega (arith, ints))

abbrev Changes : (ℤ → Bool) → ℤ → ℤ → Type 0
Changes line a b = (t : ℤ) × (a <ℤ t) × (t ≤ℤ b) × (line t ≢ line (t -ℤ pos 1))

change_step : (line : ℤ → Bool) (a b : ℤ) → (line (b -ℤ pos 1) ≢ line a → Changes line a (b -ℤ pos 1)) → a <ℤ b → line b ≢ line a → Changes line a b
change_step line a b earlier less differ = by (line b) (line (b -ℤ pos 1)) refl refl
  where
    onward : line b ≡ line (b -ℤ pos 1) → Changes line a b
    onward same =
        let found = earlier (λ is. differ (same ∙ is)) in
        let from = found.1 in let to = found.2 in
        (found.0, from, omega (arith, ints), found.3)

    by : (v w : Bool) → line b ≡ v → line (b -ℤ pos 1) ≡ w → Changes line a b
    by true true p q = onward (p ∙ sym q)
    by false false p q = onward (p ∙ sym q)
    by true false p q = (b, less, omega (arith, ints), λ is. cc)
    by false true p q = (b, less, omega (arith, ints), λ is. cc)

change : (line : ℤ → Bool) (n : ℕ) (a b : ℤ) → b ≡ a +ℤ pos n → line b ≢ line a → Changes line a b
change line zero a b e differ =
    let same : b ≡ a = omega (arith, ints) in
    absurd (differ (ap line same))
change line (suc n) a b e differ = change_step line a b (λ d. change line n a (b -ℤ pos 1) (omega (arith, ints)) d) (omega (arith, ints)) differ

-- ---- a region and its fragments

boundary_of_cut : (inside : PixelSet) (rules : CutRules) (fs : List Fragment) → AreFragments inside rules fs → IsBoundary inside fs
boundary_of_cut inside rules fs are = boundary_of_pieces inside rules are.pieces.edges fs (rules_hold rules) are.pieces.are_edges are.pieces.pieces

-- where no fragment has moved, the mask is the region
mask_of_cut : (rects : List Rect) (fs : List Fragment) (x y : ℤ) → IsFragmentList fs → IsBoundary (cover rects) fs
    → mask fs (lines fs (replicate (length fs) (pos 0))) x y ≡ cover rects x y
mask_of_cut rects fs x y list boundary =
    let ends = ends_left rects in let beyond = ends.beyond in
    mask-at_rest (cover rects) fs (lines fs (replicate (length fs) (pos 0))) ends.low x y list.outline
    (at_rest_without_offsets fs (replicate (length fs) (pos 0)) (get_or-zeros (length fs))) boundary
    (λ k below. inl (let e = list.edge_within k below in let l = e.0 in omega (arith, ints))) ends.none

pub cut_no_touch : (region : List Rect) (fs : List Fragment) → IsFragmentList fs → IsCutOf region fs → (x y : ℤ) → ¬ IsCornerTouch (cover region) x y
cut_no_touch region fs list cut =
    let some = list.is_cut in
    let same : (x y : ℤ) → cover some.rects x y ≡ cover region x y =
    λ x y. sym (mask_of_cut some.rects fs x y list (boundary_of_cut (cover some.rects) some.rules fs some.fragments))
    ∙ mask_of_cut region fs x y list (boundary_of_cut (cover region) cut.0 fs cut.1) in
    subst (λ (pixels : PixelSet). (x y : ℤ) → ¬ IsCornerTouch pixels x y) (fun_ext (λ x. fun_ext (λ y. same x y))) some.no_touch

-- ---- how far a region reaches

record IsNearPixel (x y : ℤ) : Type 0 where
  pub left : negsuc 1047999 ≤ℤ x
  pub right : x <ℤ pos 1048000
  pub low : negsuc 1047999 ≤ℤ y
  pub high : y <ℤ pos 1048000

near_pixel : (region : List Rect) (fs : List Fragment) (x y : ℤ) → IsFragmentList fs → IsBoundary (cover region) fs → cover region x y ≡ true → IsNearPixel x y
near_pixel region fs x y list boundary here = by_lt_z left.low x
    (λ after. by_lt_z x right.high
    (λ before. near (steps left.low x (omega (arith, ints))) (steps x right.high (omega (arith, ints))))
    (λ most. absurd (differs here (right.none x y most))))
    (λ most. absurd (differs here (left.none x y most)))
  where
    left : EndsLeft region
    left = ends_left region

    right : EndsRight region
    right = ends_right region

    differs : {b : Bool} → b ≡ true → b ≡ false → ⊥
    differs p q = cc

    near : (n : ℕ) × (x ≡ left.low +ℤ pos n) → (n : ℕ) × (right.high ≡ x +ℤ pos n) → IsNearPixel x y
    near first last =
        let a = change (λ s. cover region s y) first.0 left.low x first.1 (λ is. differs here (is ∙ left.none left.low y (omega (arith, ints)))) in
        let b = change (λ s. cover region s y) last.0 x right.high last.1 (λ is. differs here (sym is ∙ right.none right.high y (omega (arith, ints)))) in
        let f = boundary.upright_all a.0 y a.3 in let g = boundary.upright_all b.0 y b.3 in
        let f_edge = list.edge_within f.0 f.1 in let g_edge = list.edge_within g.0 g.1 in
        let f_lo = list.lo_within f.0 f.1 in let f_hi = list.hi_within f.0 f.1 in
        let f_at = f.2.1 in let g_at = g.2.1 in
        let a_to = a.2 in let b_from = b.1 in
        let e = f_edge.0 in let h = g_edge.1 in let i = f_lo.0 in let j = f_hi.1 in
        let l = f.2.2 in let m = f.2.3 in
        record { left = omega (arith, ints); right = omega (arith, ints); low = omega (arith, ints); high = omega (arith, ints) }

size_small : (z : ℤ) → negsuc 1047999 ≤ℤ z → z ≤ℤ pos 1048000 → unsigned_abs z ≤ 1048000
size_small (pos n) low high = omega (arith, ints)
size_small (negsuc n) low high = omega (arith, ints)

corner_of : (r : Rect) (x y : ℤ) → r.x0 ≤ℤ x → x <ℤ r.x1 → r.y0 ≤ℤ y → y <ℤ r.y1 → rect_cover r x y ≡ true
corner_of r x y left right low high = grind (arith, ints)

pub cut_placed : (region : List Rect) (fs : List Fragment) → All IsSolid region → IsFragmentList fs → IsCutOf region fs → All (IsRectWithin 1048000) region
cut_placed region fs solid list cut k d below =
    let r = get_or region k d in
    let wide = (solid k d below).wide in let high = (solid k d below).high in
    let boundary = boundary_of_cut (cover region) cut.0 fs cut.1 in
    let first = near_pixel region fs r.x0 r.y0 list boundary
    (list_any_at (λ s. rect_cover s r.x0 r.y0) region k d below (corner_of r r.x0 r.y0 (omega (arith, ints)) wide (omega (arith, ints)) high)) in
    let last = near_pixel region fs (r.x1 -ℤ pos 1) (r.y1 -ℤ pos 1) list boundary
    (list_any_at (λ s. rect_cover s (r.x1 -ℤ pos 1) (r.y1 -ℤ pos 1)) region k d below
    (corner_of r (r.x1 -ℤ pos 1) (r.y1 -ℤ pos 1) (omega (arith, ints)) (omega (arith, ints)) (omega (arith, ints)) (omega (arith, ints)))) in
    let a = first.left in let b = first.right in let c = first.low in let e = first.high in
    let f = last.left in let g = last.right in let h = last.low in let i = last.high in (
      size_small r.x0 a (omega (arith, ints)),
      size_small r.y0 c (omega (arith, ints)),
      size_small r.x1 (omega (arith, ints)) (omega (arith, ints)),
      size_small r.y1 (omega (arith, ints)) (omega (arith, ints)),
    )

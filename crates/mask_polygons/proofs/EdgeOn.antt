-- The upright edge at a place of a line.
use Rattle.std.proofs.Common.{◌≡◌, inl, inr, ℕ, ◌+◌, ◌<◌, ◌≤◌, ℤ, pos, ◌-ℤ◌, ◌≤ℤ◌, ◌<ℤ◌, Bool, true, false, List, length, get_or, int_lt, refl, ap, sym, ◌∙◌, subst, arith}
use Rattle.std.proofs.lemmas.Int.{ints}
use Rattle.std.proofs.lemmas.Bool.{cases_order}
use Rattle.opc_base.specs.declared.plane.Pix.{Pix}
use Rattle.opc_base.specs.declared.plane.Rect.{Rect}
use Rattle.opc_base.specs.declared.plane.Side.{Side}
use Rattle.opc_base.specs.declared.plane.Side.TheVariants.{Left, Right, Down, Up}
use Rattle.opc_base.specs.Canonical.{AreCanonical, Precedes}
use Rattle.opc_base.specs.Plane.{cover}
use Rattle.opc_base.specs.Runs.{IsRun}
use Rattle.opc_base.proofs.CanonicalLaws.{row_of}
use Rattle.outline_model.specs.declared.fragment.Fragment.{Fragment}
use Rattle.outline_model.specs.Outline.{fragment_at, is_vertical, side_of}
use Rattle.outline_model.specs.Target.{IsBoundary, opens}
use Rattle.mask_polygons.specs.Border.{AreInOrder, ComesFirst}
use Rattle.mask_polygons.specs.Links.{LiesBefore}
use Rattle.mask_polygons.specs.Seams.{EndsOn, HasPlace, IsHoleCorner, BeginsBy, IsSplit}
use Rattle.mask_polygons.proofs.RectLaws.{LiesAt, lies-at}

-- ---- horizontal fragments come first

pub level-up : (fs : List Fragment) (middle : ℕ) → AreInOrder fs → middle < length fs → is_vertical (side_of fs middle) ≡ false → (k : ℕ) → k < middle + 1
    → is_vertical (side_of fs k) ≡ false
level-up fs middle order below flat k less = elim (cases_order k middle) [
  | inl same ↦ ap (λ i. is_vertical (side_of fs i)) same ∙ flat
  | inr other ↦ elim other [ inl early ↦ order.level_first k middle early below flat | inr late ↦ absurd (omega (arith, late, less)) ]
]

pub upright-down : (fs : List Fragment) (middle : ℕ) → AreInOrder fs → middle < length fs → is_vertical (side_of fs middle) ≡ true → (k : ℕ) → middle ≤ k → k < length fs
    → is_vertical (side_of fs k) ≡ true
upright-down fs middle order below upright k more inner = by (is_vertical (side_of fs k)) refl
  where
    by : (v : Bool) → is_vertical (side_of fs k) ≡ v → is_vertical (side_of fs k) ≡ true
    by true e = e
    by false e = absurd (elim (cases_order middle k) [
      | inl same ↦ cc (ap (λ i. is_vertical (side_of fs i)) same, upright, e)
      | inr other ↦ elim other [
        | inl early ↦ (let h = order.level_first middle k early inner e in cc (h, upright))
        | inr late ↦ omega (arith, late, more)
      ]
    ])

-- ---- the last fragment that is reached has the place

first-reached : (f g : Fragment) (line place : ℤ) → ComesFirst f g → HasPlace f line place → BeginsBy g line place → ⊥
first-reached f g line place (inl h) has (inl r) = let a = has.0 in omega (arith, ints)
first-reached f g line place (inl h) has (inr r) = let a = has.0 in let b = r.0 in omega (arith, ints)
first-reached f g line place (inr h) has (inl r) = let a = has.0 in let b = h.0 in omega (arith, ints)
first-reached f g line place (inr h) has (inr r) = let a = has.2 in let b = h.1 in let d = r.1 in omega (arith, ints)

first-is-reached : (f g : Fragment) (line place : ℤ) → f.lo <ℤ f.hi → ComesFirst f g → HasPlace g line place → BeginsBy f line place
first-is-reached f g line place some (inl h) has = inl (let a = has.0 in omega (arith, ints))
first-is-reached f g line place some (inr h) has = inr (h.0 ∙ has.0, (let a = h.1 in let b = has.1 in omega (arith, ints)))

pub from-reached : (fs : List Fragment) (first middle : ℕ) (line place : ℤ) → AreInOrder fs → IsSplit fs first → first ≤ middle → middle < length fs
    → BeginsBy (fragment_at fs middle) line place → (k : ℕ) → first ≤ k → k < length fs → HasPlace (fragment_at fs k) line place → middle ≤ k
from-reached fs first middle line place order split from below reached k after inner has = elim (cases_order middle k) [
  | inl same ↦ omega (arith, same)
  | inr other ↦ elim other [
    | inl early ↦ omega (arith, early)
    | inr late ↦ absurd (first-reached (fragment_at fs k) (fragment_at fs middle) line place
        (order.sorted k middle late below (split.upright k after inner ∙ sym (split.upright middle from below))) has reached)
  ]
]

pub below-unreached : (fs : List Fragment) (first middle : ℕ) (line place : ℤ) → AreInOrder fs → IsSplit fs first → first ≤ middle → middle < length fs
    → ¬ BeginsBy (fragment_at fs middle) line place → (k : ℕ) → first ≤ k → k < length fs → HasPlace (fragment_at fs k) line place → k < middle
below-unreached fs first middle line place order split from below unreached k after inner has = elim (cases_order middle k) [
  | inl same ↦ absurd (unreached (subst (λ i. BeginsBy (fragment_at fs i) line place) (sym same) (inr (has.0, has.1))))
  | inr other ↦ elim other [
    | inl early ↦ absurd (unreached (first-is-reached (fragment_at fs middle) (fragment_at fs k) line place (order.some middle below)
        (order.sorted middle k early inner (split.upright middle from below ∙ sym (split.upright k after inner))) has))
    | inr late ↦ late
  ]
]

-- ---- the run of a seam begins a rectangle

pub record BeginsAt (rects : List Rect) (q : Pix) (k : ℕ) : Type 0 where
  pub below : k < length rects
  pub height : (d : Rect) → (get_or rects k d).y0 ≡ q.y
  pub past : (d : Rect) → (get_or rects k d).x1 ≡ q.x
  pub run : (d : Rect) → IsRun (λ s. cover rects s q.y) (get_or rects k d).x0 q.x

true-false : true ≡ false → ⊥
true-false e = cc e

run-ends : (f : ℤ → Bool) (a b x : ℤ) → IsRun f a b → a ≤ℤ (x -ℤ pos 1) → (x -ℤ pos 1) <ℤ b → f x ≡ false → b ≡ x
run-ends f a b x run from to out = by (int_lt x b) refl
  where
    by : (t : Bool) → int_lt x b ≡ t → b ≡ x
    by true e = absurd (true-false (sym (run.all x (omega (arith, ints)) (omega (arith, ints))) ∙ out))
    by false e = omega (arith, ints)

pub begins-at : (rects : List Rect) (q : Pix) → AreCanonical rects → IsHoleCorner (cover rects) q → (k : ℕ) × BeginsAt rects q k
begins-at rects q canonical corner = (
  k,
  record {
    below = at.below;
    height = height;
    past = past;
    run = λ d. subst (λ b. IsRun (λ s. cover rects s q.y) (get_or rects k d).x0 b) (past d) (row d);
  },
)
  where
    found : (k : ℕ) × LiesAt rects (q.x -ℤ pos 1) q.y k
    found = lies-at rects (q.x -ℤ pos 1) q.y corner.left

    k : ℕ
    k = found.0

    at : LiesAt rects (q.x -ℤ pos 1) q.y k
    at = found.1

    row : (d : Rect) → IsRun (λ s. cover rects s q.y) (get_or rects k d).x0 (get_or rects k d).x1
    row d = row_of rects k d q.y canonical at.below (at.is_in d).low (at.is_in d).high

    past : (d : Rect) → (get_or rects k d).x1 ≡ q.x
    past d = run-ends (λ s. cover rects s q.y) (get_or rects k d).x0 (get_or rects k d).x1 q.x (row d) (at.is_in d).left (at.is_in d).right corner.out

    height : (d : Rect) → (get_or rects k d).y0 ≡ q.y
    height d = by (int_lt (get_or rects k d).y0 q.y) refl
      where
        by : (t : Bool) → int_lt (get_or rects k d).y0 q.y ≡ t → (get_or rects k d).y0 ≡ q.y
        by true e =
            let is = at.is_in d in let low = is.low in let high = is.high in
            let lower = row_of rects k d (q.y -ℤ pos 1) canonical at.below (omega (arith, ints)) (omega (arith, ints)) in
            let out : cover rects q.x (q.y -ℤ pos 1) ≡ false = ap (λ x. cover rects x (q.y -ℤ pos 1)) (sym (past d)) ∙ lower.after in
            absurd (true-false (sym corner.below ∙ out))
        by false e = let is = at.is_in d in let low = is.low in omega (arith, ints)

-- the first rectangle that is not ahead is that one
pub first-behind : (rects : List Rect) (q : Pix) (k n : ℕ) → AreCanonical rects → BeginsAt rects q k → n ≤ length rects
    → ((j : ℕ) (d : Rect) → j < n → LiesBefore (get_or rects j d) q.y (q.x -ℤ pos 1))
    → ((j : ℕ) (d : Rect) → n ≤ j → j < length rects → ¬ LiesBefore (get_or rects j d) q.y (q.x -ℤ pos 1)) → n ≡ k
first-behind rects q k n canonical begins within ahead behind = elim (cases_order n k) [
  | inl same ↦ same
  | inr other ↦ elim other [
    | inl early ↦ absurd (behind n none_rect (omega (arith, early)) (omega (arith, early, begins.below)) (before early (canonical.pairs n k none_rect early begins.below)))
    | inr late ↦ absurd (not_ahead (ahead k none_rect late))
  ]
]
  where
    none_rect : Rect
    none_rect = record { x0 = pos 0; y0 = pos 0; x1 = pos 0; y1 = pos 0 }

    not_ahead : ¬ LiesBefore (get_or rects k none_rect) q.y (q.x -ℤ pos 1)
    not_ahead (inl h) = let a = begins.height none_rect in omega (arith, ints)
    not_ahead (inr h) = let a = begins.past none_rect in let b = h.1 in omega (arith, ints)

    n_short : n < k → n < length rects
    n_short less = let c = begins.below in omega (arith, c, less)

    before : n < k → Precedes (get_or rects n none_rect) (get_or rects k none_rect) → LiesBefore (get_or rects n none_rect) q.y (q.x -ℤ pos 1)
    before n_less p = elim p.sorted [
      | inl low ↦ inl (let a = begins.height none_rect in omega (arith, ints))
      | inr level ↦
          (let a = begins.height none_rect in let b = begins.past none_rect in let same = level.0 in let less = level.1 in
          let wide = (canonical.solid k none_rect begins.below).wide in
          let r_wide = (canonical.solid n none_rect (n_short n_less)).wide in
          let r_high = (canonical.solid n none_rect (n_short n_less)).high in
          inr (same ∙ a, elim (p.apart (omega (arith, ints))) [ inl gap ↦ omega (arith, ints) | inr gap ↦ omega (arith, ints) ]))
    ]

-- ---- the edge on which the seam ends

left-if-opens : (side : Side) → is_vertical side ≡ true → opens side ≡ true → side ≡ Left
left-if-opens Left e f = refl
left-if-opens Right e f = absurd (cc f)
left-if-opens Down e f = absurd (cc e)
left-if-opens Up e f = absurd (cc e)

pub ends-on : (rects : List Rect) (fs : List Fragment) (first m k : ℕ) (q : Pix) (d : Rect) → AreCanonical rects → IsBoundary (cover rects) fs → IsSplit fs first → BeginsAt rects q k
    → ((j : ℕ) → first ≤ j → j < length fs → HasPlace (fragment_at fs j) (get_or rects k d).x0 q.y → m ≡ j) → (m < length fs) × EndsOn (cover rects) (fragment_at fs m) q
ends-on rects fs first m k q d canonical boundary split begins only = (
  subst (λ i. i < length fs) (sym same) found.1,
  subst (λ i. EndsOn (cover rects) (fragment_at fs i) q) (sym same) (record {
    left = left-if-opens (fragment_at fs j).side found.2.0
        (sym (boundary.upright j x q.y found.1 found.2).0 ∙ inside);
    run = subst (λ a. IsRun (λ s. cover rects s q.y) a q.x) (sym found.2.1) run;
    from = found.2.2;
    to = found.2.3;
  }),
)
  where
    x : ℤ
    x = (get_or rects k d).x0

    run : IsRun (λ s. cover rects s q.y) (get_or rects k d).x0 q.x
    run = begins.run d

    inside : cover rects x q.y ≡ true
    inside = let some = run.some in run.all x (omega (arith, ints)) some

    found : (j : ℕ) × (j < length fs) × ((is_vertical (fragment_at fs j).side ≡ true) × ((fragment_at fs j).edge ≡ x) × ((fragment_at fs j).lo ≤ℤ q.y) × (q.y <ℤ (fragment_at fs j).hi))
    found = boundary.upright_all x q.y (λ e. true-false (sym inside ∙ e ∙ run.before))

    j : ℕ
    j = found.0

    after : first ≤ j
    after = elim (cases_order first j) [
      | inl e ↦ omega (arith, e)
      | inr other ↦ elim other [ inl less ↦ omega (arith, less) | inr late ↦ absurd (let a = split.level j late in let b = found.2.0 in cc (a, b)) ]
    ]

    same : m ≡ j
    same = only j after found.1 (found.2.1, found.2.2, found.2.3)

-- The least rectangle of a region, and its window.
use Rattle.std.proofs.Common.{◌≡◌, inl, inr, ℕ, ◌<◌, ◌≤◌, ℤ, pos, negsuc, ◌+ℤ◌, ◌-ℤ◌, ◌≤ℤ◌, unsigned_abs, Bool, true, false, if◌then◌else◌, List, [], ◌∷◌, length, get_or, refl, ap, sym, ◌∙◌, subst, arith}
use Rattle.std.specs.Prelude.{All, Ok, Err, nat_lt}
use Rattle.std.specs.Int.{int_max, int_min}
use Rattle.std.proofs.lemmas.Bool.{le-ltb, lt-ltb}
use Rattle.std.proofs.lemmas.Int.{clamps, ints}
use Rattle.std.proofs.lemmas.List.Folds.{Any-from_list_any, list_any_at}
use Rattle.opc_base.specs.Canonical.{IsSolid}
use Rattle.opc_base.specs.Plane.{PixelSet, cover, rect_cover}
use Rattle.opc_base.specs.declared.plane.Rect.{Rect}
use Rattle.print_check.specs.Near.{Encloses}
use Rattle.print_check.proofs.FlagLaws.{inside, inside-cover}
use Rattle.print_check.proofs.NearLaws.{enclosed_pixel}
use Rattle.print_check.proofs.StoredLaws.{stored, stored_add, stored_sub}
use Rattle.print_check.specs.Tiles.{area_of}
use Rattle.opc_engine.specs.declared.fault.EngineFault.TheVariants as fault
use Rattle.opc_engine.specs.declared.limits.TheConstants.{MAX_WINDOW}
use Rattle.opc_engine.specs.Prepare.{Subject}
use Rattle.opc_engine.specs.Windows.{HasAll, IsLeastRect, IsWindow, WindowGives, margin_of, window_or_fault, window_round}

-- ---- sets and rectangles
true_false : true ≡ false → ⊥
true_false same = cc

-- a rectangle with all pixels of another one encloses it
enclosing : (outer r : Rect) → IsSolid r → ((x y : ℤ) → rect_cover r x y ≡ true → rect_cover outer x y ≡ true) → Encloses outer r
enclosing outer r solid has =
    let wide = solid.wide in
    let high = solid.high in
    let first = inside outer r.x0 r.y0 (has r.x0 r.y0 (inside-cover r r.x0 r.y0 (omega (arith, ints)) (omega (arith, ints)) (omega (arith, ints)) (omega (arith, ints)))) in
    let x = r.x1 -ℤ pos 1 in
    let y = r.y1 -ℤ pos 1 in
    let last = inside outer (r.x1 -ℤ pos 1) (r.y1 -ℤ pos 1)
    (has (r.x1 -ℤ pos 1) (r.y1 -ℤ pos 1) (inside-cover r (r.x1 -ℤ pos 1) (r.y1 -ℤ pos 1) (omega (arith, ints)) (omega (arith, ints)) (omega (arith, ints)) (omega (arith, ints)))) in
    let a = first.left in let b = first.low in let c = last.right in let d = last.high in
    record { left = omega (arith, ints); right = omega (arith, ints); bottom = omega (arith, ints); top = omega (arith, ints) }

module _ (rects : List Rect) where
  -- a rectangle that has all pixels of solid rectangles encloses each of them, and the other way round
  all_enclosed : (other : Rect) → All IsSolid rects → HasAll other (cover rects) → All (Encloses other) rects
  all_enclosed other solid has k d below =
      enclosing other (get_or rects k d) (solid k d below) (λ x y is. has x y (list_any_at (λ (r : Rect). rect_cover r x y) rects k d below is))

  all_covered : (box : Rect) → All (Encloses box) rects → HasAll box (cover rects)
  all_covered box each x y is =
      let at = Any-from_list_any (λ (r : Rect). rect_cover r x y) rects is in
      let below = at.2 in
      let over : Encloses box at.1 = subst (λ (r : Rect). Encloses box r) at.3 (each at.0 at.1 below) in
      enclosed_pixel box at.1 x y over at.4

  pub least_of_region : (box : Rect) → All IsSolid rects → All (Encloses box) rects → ((other : Rect) → All (Encloses other) rects → Encloses other box)
      → IsLeastRect (cover rects) box
  least_of_region box solid each least = record { has = all_covered box each; least = λ other has. least other (all_enclosed other solid has) }

pub none_covered : (rects : List Rect) (x y : ℤ) → length rects ≡ 0 → cover rects x y ≡ false
none_covered [] x y none = refl
none_covered (r ∷ rects) x y none = absurd (omega arith)

-- ---- one window
rect_one : (p q : Rect) → Encloses p q → Encloses q p → p ≡ q
rect_one p q a b =
    let c = a.left in let d = a.right in let e = a.bottom in let f = a.top in
    let g = b.left in let h = b.right in let j = b.bottom in let k = b.top in
    let x0 : p.x0 ≡ q.x0 = omega (arith, ints) in
    let y0 : p.y0 ≡ q.y0 = omega (arith, ints) in
    let x1 : p.x1 ≡ q.x1 = omega (arith, ints) in
    let y1 : p.y1 ≡ q.y1 = omega (arith, ints) in
    λ i. record { x0 = x0 i; y0 = y0 i; x1 = x1 i; y1 = y1 i }

not_empty : (target : PixelSet) (box : Rect) → ((x y : ℤ) → target x y ≡ false) → IsLeastRect target box → ⊥
not_empty target box none is =
    let over = is.least (record { x0 = box.x0 +ℤ pos 1; y0 = box.y0; x1 = box.x1; y1 = box.y1 }) (λ x y has. absurd (true_false (sym has ∙ none x y))) in
    let left = over.left in
    omega (arith, ints)

pub window_one : (target : PixelSet) (margin : ℤ) (p q : Rect) → IsWindow target margin p → IsWindow target margin q → p ≡ q
window_one target margin p q (inl a) (inl b) = a.1 ∙ sym b.1
window_one target margin p q (inl a) (inr b) = absurd (not_empty target b.0 a.0 b.1.0)
window_one target margin p q (inr a) (inl b) = absurd (not_empty target a.0 b.0 a.1.0)
window_one target margin p q (inr a) (inr b) =
    a.1.1 ∙ ap (window_round margin) (rect_one a.0 b.0 (b.1.0.least a.0 a.1.0.has) (a.1.0.least b.0 b.1.0.has)) ∙ sym b.1.1

-- ---- the least of two numbers as they are stored
pub record IsLeastOf (a b c : ℤ) : Type 0 where
  pub first : stored c ≤ℤ a
  pub second : stored c ≤ℤ b
  pub greatest : (o : ℤ) → o ≤ℤ a → o ≤ℤ b → o ≤ℤ stored c
  pub within : unsigned_abs (stored c) ≤ 1048000

pub record IsGreatestOf (a b c : ℤ) : Type 0 where
  pub first : a ≤ℤ stored c
  pub second : b ≤ℤ stored c
  pub least : (o : ℤ) → a ≤ℤ o → b ≤ℤ o → stored c ≤ℤ o
  pub within : unsigned_abs (stored c) ≤ 1048000

pub least_of : (a b c : ℤ) → unsigned_abs a ≤ 1048000 → unsigned_abs b ≤ 1048000 → c ≡ int_min (stored a) (stored b) → IsLeastOf a b c
least_of a b c small_a small_b is = record {
  first = omega (arith, ints, clamps);
  second = omega (arith, ints, clamps);
  greatest = λ o below_a below_b. omega (arith, ints, clamps);
  within = omega (arith, ints, clamps);
}

pub greatest_of : (a b c : ℤ) → unsigned_abs a ≤ 1048000 → unsigned_abs b ≤ 1048000 → c ≡ int_max (stored a) (stored b) → IsGreatestOf a b c
greatest_of a b c small_a small_b is = record {
  first = omega (arith, ints, clamps);
  second = omega (arith, ints, clamps);
  least = λ o above_a above_b. omega (arith, ints, clamps);
  within = omega (arith, ints, clamps);
}

-- ---- sides of a window as they are stored
pub low_side : (a m r : ℤ) → unsigned_abs a ≤ 1048000 → pos 0 ≤ℤ m → m ≤ℤ pos 192 → r ≡ int_max (stored (stored a -ℤ stored m)) (stored (negsuc 1048127))
    → (stored r ≡ int_max (negsuc 1048127) (a -ℤ m)) × (unsigned_abs (stored r) ≤ 1048128)
low_side a m r small low high is =
    let fewer : unsigned_abs m ≤ 1060000 = omega (arith, ints) in
    let place = stored_sub a m (omega (arith, small)) fewer in
    let whole : r ≡ int_max (a -ℤ m) (negsuc 1048127) = is ∙ ap (λ (z : ℤ). int_max z (negsuc 1048127)) place in
    (omega (arith, ints, clamps), omega (arith, ints, clamps))

pub high_side : (a m r : ℤ) → unsigned_abs a ≤ 1048000 → pos 0 ≤ℤ m → m ≤ℤ pos 192 → r ≡ int_min (stored (stored a +ℤ stored m)) (stored (pos 1048128))
    → (stored r ≡ int_min (pos 1048128) (a +ℤ m)) × (unsigned_abs (stored r) ≤ 1048128)
high_side a m r small low high is =
    let fewer : unsigned_abs m ≤ 1060000 = omega (arith, ints) in
    let place = stored_add a m (omega (arith, small)) fewer in
    let whole : r ≡ int_min (a +ℤ m) (pos 1048128) = is ∙ ap (λ (z : ℤ). int_min z (pos 1048128)) place in
    (omega (arith, ints, clamps), omega (arith, ints, clamps))

-- ---- the window of a region
pub window_of_region : (region lent : List Rect) (margin : ℤ) (box window : Rect) → lent ≡ region → All IsSolid lent → All (Encloses box) lent
    → ((other : Rect) → All (Encloses other) lent → Encloses other box) → window ≡ window_round margin box → IsWindow (cover region) margin window
window_of_region region lent margin box window same solid each least is =
    let there : IsWindow (cover lent) margin window = inr (box, (least_of_region lent box solid each least, is)) in
    subst (λ (rects : List Rect). IsWindow (cover rects) margin window) same there

-- ---- windows with too many pixels
module _ (s : Subject) (margin : ℤ) (window : Rect) (pixels : ℕ) (is : IsWindow s.target margin window) (so_far : margin ≡ margin_of s) (so_many : pixels ≡ area_of window) where
  whole : IsWindow s.target (margin_of s) window
  whole = subst (λ (m : ℤ). IsWindow s.target m window) so_far is

  by_size : (b : Bool) → nat_lt MAX_WINDOW (area_of window) ≡ b → (if b then Err (fault.TooWide (area_of window)) else Ok window) ≡ window_or_fault window
  by_size b e = ap (λ c. if c then Err (fault.TooWide (area_of window)) else Ok window) (sym e)

  pub too_wide : MAX_WINDOW < pixels → WindowGives s (Err (fault.TooWide pixels))
  too_wide more =
      (window, (whole, ap (λ (n : ℕ). Err (fault.TooWide n)) so_many ∙ by_size true (lt-ltb MAX_WINDOW (area_of window) (omega arith))))

  pub not_too_wide : pixels ≤ MAX_WINDOW → WindowGives s (Ok window)
  not_too_wide few = (window, (whole, by_size false (le-ltb MAX_WINDOW (area_of window) (omega arith))))

-- Rectangles of which a pixel prints, band by band and window by window.
use Rattle.std.proofs.Common.{◌≡◌, ◌↔◌, ℕ, ◌+◌, ◌*◌, ◌<◌, ◌≤◌, ℤ, pos, ◌-ℤ◌, ◌+ℤ◌, ◌≤ℤ◌, ◌<ℤ◌, unsigned_abs, Bool, true, false, IsTrue, nat_lt, ◌&&◌, ◌||◌, List, [], ◌∷◌, ◌++◌, length, get_or, refl, sym, ◌∙◌, ap, subst, arith}
use Rattle.std.proofs.lemmas.Int.{ints, by_lt_z}
use Rattle.std.proofs.Common.{⊎_elim}
use Rattle.std.proofs.lemmas.Bool.{cases_lt}
use Rattle.std.proofs.lemmas.Bool.Decides.{Decides-ltb}
use Rattle.std.proofs.lemmas.List.{get_or_append_left}
use Rattle.std.proofs.Math.Seq.{get_or-append_seam}
use Rattle.std.proofs.Math.Nat.{mul-le-mul}
use Rattle.opc_base.specs.Canonical.{AreCanonical, IsSolid}
use Rattle.opc_base.specs.Plane.{IsRectWithin, cover, rect_cover}
use Rattle.opc_base.specs.declared.plane.Rect.{Rect}
use Rattle.print_check.specs.Printed.{HasFewPixels, printed_in, prints}
use Rattle.opc_engine.specs.declared.bar_print.Light.{Light}
use Rattle.opc_engine.specs.BarImages.{HasPrinted, IsInBand, IsSmallWindow, band_of, window_of}

-- nothing of the rectangle below this row prints, or nothing left of this column
pub record NoneBelow (l : Light) (r : Rect) (y0 : ℤ) : Type 0 where
  pub from : r.y0 ≤ℤ y0
  pub none : (x y : ℤ) → rect_cover r x y ≡ true → y <ℤ y0 → prints l.tables.now (cover l.mask.now) l.rules.now.site.threshold x y ≡ false

pub record NoneLeft (l : Light) (r : Rect) (x0 : ℤ) : Type 0 where
  pub from : r.x0 ≤ℤ x0
  pub none : (x y : ℤ) → rect_cover r x y ≡ true → x <ℤ x0 → prints l.tables.now (cover l.mask.now) l.rules.now.site.threshold x y ≡ false

-- ---- where pixels of a rectangle lie

above : (r : Rect) (x y : ℤ) → rect_cover r x y ≡ true → r.y0 ≤ℤ y
above r x y here = grind (arith, ints)

under : (r : Rect) (x y : ℤ) → rect_cover r x y ≡ true → y <ℤ r.y1
under r x y here = grind (arith, ints)

right_of : (r : Rect) (x y : ℤ) → rect_cover r x y ≡ true → r.x0 ≤ℤ x
right_of r x y here = grind (arith, ints)

left_of : (r : Rect) (x y : ℤ) → rect_cover r x y ≡ true → x <ℤ r.x1
left_of r x y here = grind (arith, ints)

in_band : (r : Rect) (x y y0 y1 : ℤ) → rect_cover r x y ≡ true → y0 ≤ℤ y → y <ℤ y1 → rect_cover (band_of r y0 y1) x y ≡ true
in_band r x y y0 y1 here low high = grind (arith, ints)

of_band : (r : Rect) (x y y0 y1 : ℤ) → rect_cover (band_of r y0 y1) x y ≡ true → r.y0 ≤ℤ y0 → y1 ≤ℤ r.y1 → rect_cover r x y ≡ true
of_band r x y y0 y1 here low high = grind (arith, ints)

in_window : (r : Rect) (x y x0 x1 : ℤ) → rect_cover r x y ≡ true → x0 ≤ℤ x → x <ℤ x1 → rect_cover (window_of r x0 x1) x y ≡ true
in_window r x y x0 x1 here low high = grind (arith, ints)

of_window : (r : Rect) (x y x0 x1 : ℤ) → rect_cover (window_of r x0 x1) x y ≡ true → r.x0 ≤ℤ x0 → x1 ≤ℤ r.x1 → rect_cover r x y ≡ true
of_window r x y x0 x1 here low high = grind (arith, ints)

off_unless : (b : Bool) → (b ≡ true → ⊥) → b ≡ false
off_unless true none = absurd (none refl)
off_unless false none = refl

never : (b : Bool) → b ≡ true → b ≡ false → ⊥
never b p q = cc

-- ---- band by band

pub start_below : (l : Light) (r : Rect) → NoneBelow l r r.y0
start_below l r = record {
  from = omega (arith, ints);
  none = λ x y here less. absurd (let low = above r x y here in omega (arith, ints));
}

-- no pixel of the next rows prints either
pub more_below : (l : Light) (r : Rect) (y0 y1 : ℤ) → NoneBelow l r y0 → y0 ≤ℤ y1 → (HasPrinted l (band_of r y0 y1) → ⊥) → NoneBelow l r y1
more_below l r y0 y1 so_far up nay = let from = so_far.from in record {
  from = omega (arith, ints);
  none = λ x y here less. by_lt_z y y0
      (λ before. so_far.none x y here before)
      (λ most. off_unless _ (λ on. nay (record { x = x; y = y; inside = in_band r x y y0 y1 here most less; bright = on })));
}

pub none_at_all : (l : Light) (r : Rect) (y0 : ℤ) → NoneBelow l r y0 → r.y1 ≤ℤ y0 → HasPrinted l r → ⊥
none_at_all l r y0 so_far all h =
    let top = under r h.x h.y h.inside in
    never _ h.bright (so_far.none h.x h.y h.inside (omega (arith, ints)))

pub of_some_band : (l : Light) (r : Rect) (y0 y1 : ℤ) → NoneBelow l r y0 → y1 ≤ℤ r.y1 → HasPrinted l (band_of r y0 y1) → HasPrinted l r
of_some_band l r y0 y1 so_far up h = record { x = h.x; y = h.y; inside = of_band r h.x h.y y0 y1 h.inside so_far.from up; bright = h.bright }

pub fits_band : (r band : Rect) (y0 y1 : ℤ) → band ≡ band_of r y0 y1 → IsRectWithin 1048000 r → r.y0 ≤ℤ y0 → y0 ≤ℤ y1 → y1 ≤ℤ r.y1 → y1 ≤ℤ (y0 +ℤ pos 2048) → IsInBand band
fits_band r band y0 y1 is near from up to low =
    let b = near.1 in let d = near.3 in
    subst IsInBand (sym is) (record { near = (near.0, omega (arith, ints), near.2, omega (arith, ints)); low = omega (arith, ints) })

pub rows_print : (l : Light) (r band : Rect) (y0 y1 z : ℤ) → band ≡ band_of r y0 y1 → HasPrinted l band → NoneBelow l r z → z ≡ y0 → y1 ≤ℤ r.y1 → HasPrinted l r
rows_print l r band y0 y1 z is h so_far same up = of_some_band l r y0 y1 (subst (NoneBelow l r) same so_far) up (subst (HasPrinted l) is h)

pub rows_do_not : (l : Light) (r band : Rect) (y0 y1 z : ℤ) (prints : Bool) → band ≡ band_of r y0 y1 → (HasPrinted l band → IsTrue prints) → prints ≡ false → NoneBelow l r z → z ≡ y0 → y0 ≤ℤ y1 → NoneBelow l r y1
rows_do_not l r band y0 y1 z prints is tells off so_far same up =
    more_below l r y0 y1 (subst (NoneBelow l r) same so_far) up (λ h. never prints (tells (subst (HasPrinted l) (sym is) h)) off)

-- ---- window by window

pub start_left : (l : Light) (r : Rect) → NoneLeft l r r.x0
start_left l r = record {
  from = omega (arith, ints);
  none = λ x y here less. absurd (let low = right_of r x y here in omega (arith, ints));
}

pub more_left : (l : Light) (r : Rect) (x0 x1 : ℤ) → NoneLeft l r x0 → x0 ≤ℤ x1 → (HasPrinted l (window_of r x0 x1) → ⊥) → NoneLeft l r x1
more_left l r x0 x1 so_far up nay = let from = so_far.from in record {
  from = omega (arith, ints);
  none = λ x y here less. by_lt_z x x0
      (λ before. so_far.none x y here before)
      (λ most. off_unless _ (λ on. nay (record { x = x; y = y; inside = in_window r x y x0 x1 here most less; bright = on })));
}

pub none_in_band : (l : Light) (r : Rect) (x0 : ℤ) → NoneLeft l r x0 → r.x1 ≤ℤ x0 → HasPrinted l r → ⊥
none_in_band l r x0 so_far all h =
    let top = left_of r h.x h.y h.inside in
    never _ h.bright (so_far.none h.x h.y h.inside (omega (arith, ints)))

pub of_some_window : (l : Light) (r : Rect) (x0 x1 : ℤ) → NoneLeft l r x0 → x1 ≤ℤ r.x1 → HasPrinted l (window_of r x0 x1) → HasPrinted l r
of_some_window l r x0 x1 so_far up h = record { x = h.x; y = h.y; inside = of_window r h.x h.y x0 x1 h.inside so_far.from up; bright = h.bright }

pub fits_window : (r window : Rect) (x0 x1 : ℤ) → window ≡ window_of r x0 x1 → IsInBand r → r.x0 ≤ℤ x0 → x0 ≤ℤ x1 → x1 ≤ℤ r.x1 → x1 ≤ℤ (x0 +ℤ pos 2048) → IsSmallWindow window
fits_window r window x0 x1 is band from up to narrow =
    let a = band.near.0 in let b = band.near.2 in
    subst IsSmallWindow (sym is) (record {
      near = (omega (arith, ints), band.near.1, omega (arith, ints), band.near.3);
      low = band.low;
      narrow = omega (arith, ints);
    })

pub columns_print : (l : Light) (r window : Rect) (x0 x1 z : ℤ) → window ≡ window_of r x0 x1 → HasPrinted l window → NoneLeft l r z → z ≡ x0 → x1 ≤ℤ r.x1 → HasPrinted l r
columns_print l r window x0 x1 z is h so_far same up = of_some_window l r x0 x1 (subst (NoneLeft l r) same so_far) up (subst (HasPrinted l) is h)

pub columns_do_not : (l : Light) (r window : Rect) (x0 x1 z : ℤ) (prints : Bool) → window ≡ window_of r x0 x1 → (HasPrinted l window → IsTrue prints) → prints ≡ false → NoneLeft l r z → z ≡ x0 → x0 ≤ℤ x1
    → NoneLeft l r x1
columns_do_not l r window x0 x1 z prints is tells off so_far same up =
    more_left l r x0 x1 (subst (NoneLeft l r) same so_far) up (λ h. never prints (tells (subst (HasPrinted l) (sym is) h)) off)

-- ---- flag by flag

pub flag_more : (P : ℕ → Bool → Type 0) (flags : List Bool) (i : ℕ) (v : Bool) → length flags ≡ i → P i v → ((k : ℕ) → k < i → P k (get_or flags k false))
    → (k : ℕ) → k < i + 1 → P k (get_or (flags ++ v ∷ []) k false)
flag_more P flags i v size here earlier k below =
    ⊎_elim (λ less. subst (P k) (sym (get_or_append_left flags (v ∷ []) false k (omega (arith, less, size)))) (earlier k less))
    (λ most.
    let last : k ≡ length flags = omega (arith, most, size, below) in
    let same : i ≡ k = omega (arith, most, size, below) in
    subst (P k) (sym (ap (λ j. get_or (flags ++ v ∷ []) j false) last ∙ get_or-append_seam flags v [] false)) (subst (λ j. P j v) same here))
    (cases_lt k i)

-- ---- the printed pixels of a window

both_true : (a b : Bool) → (a && b) ≡ true → (a ≡ true) × (b ≡ true)
both_true true b is = (refl, is)
both_true false b is = absurd (never false is refl)

and_true : (a b : Bool) → a ≡ true → b ≡ true → (a && b) ≡ true
and_true a b p q = rw (p, q) refl

solid_pixel : (r : Rect) → IsSolid r → rect_cover r r.x0 r.y0 ≡ true
solid_pixel r solid = let wide = solid.wide in let high = solid.high in grind (arith, ints)

-- a pixel of the window prints just where its printed pixels have a rectangle
pub some_printed : (l : Light) (window : Rect) (printed : List Rect) → AreCanonical printed
    → ((x y : ℤ) → cover printed x y ≡ printed_in l.tables.now (cover l.mask.now) l.rules.now.site.threshold window x y)
    → (0 < length printed → HasPrinted l window) × (HasPrinted l window → 0 < length printed)
some_printed l window [] canonical is = (λ some. absurd (omega arith), λ h. absurd (never _ (is h.x h.y ∙ and_true _ _ h.inside h.bright) refl))
some_printed l window (r ∷ rs) canonical is = (
  λ some.
      let first : rect_cover r r.x0 r.y0 ≡ true = solid_pixel r (canonical.solid 0 r (omega arith)) in
      let here : cover (r ∷ rs) r.x0 r.y0 ≡ true = ap (λ t. t || cover rs r.x0 r.y0) first in
      let both = both_true _ _ (sym (is r.x0 r.y0) ∙ here) in
      record { x = r.x0; y = r.y0; inside = both.0; bright = both.1 },
  λ h. omega arith,
)

-- the test that they are more than none
tells_more : (n : ℕ) → IsTrue (nat_lt 0 n) ↔ (0 < n)
tells_more n = (λ is. (Decides-ltb 0 n).0 is, λ some. (Decides-ltb 0 n).1 some)

pub tells_some : (l : Light) (window : Rect) (printed lent : List Rect) → lent ≡ printed → AreCanonical printed
    → ((x y : ℤ) → cover printed x y ≡ printed_in l.tables.now (cover l.mask.now) l.rules.now.site.threshold window x y)
    → IsTrue (nat_lt 0 (length lent)) ↔ HasPrinted l window
tells_some l window printed lent same canonical is =
    let some = some_printed l window printed canonical is in
    let tells = tells_more (length lent) in
    let lens = ap (λ (r : List Rect). length r) same in
    (λ on. some.0 (subst (λ n. 0 < n) lens (tells.0 on)), λ h. tells.1 (subst (λ n. 0 < n) (sym lens) (some.1 h)))

small_area : (h w : ℕ) → h ≤ 2048 → w ≤ 2048 → h * w ≤ 4194304
small_area h w low narrow = let product : h * w ≤ 2048 * 2048 = mul-le-mul low narrow in omega (arith, product)

size_at_most : (z : ℤ) → pos 0 ≤ℤ z → z ≤ℤ pos 2048 → unsigned_abs z ≤ 2048
size_at_most z low high = omega (arith, ints)

pub few_pixels : (window : Rect) → IsSmallWindow window → HasFewPixels 4194304 window
few_pixels window small wide high =
    let low = small.low in let narrow = small.narrow in
    small_area (unsigned_abs (window.y1 -ℤ window.y0)) (unsigned_abs (window.x1 -ℤ window.x0))
    (size_at_most (window.y1 -ℤ window.y0) (omega (arith, ints)) low) (size_at_most (window.x1 -ℤ window.x0) (omega (arith, ints)) narrow)

pub near_too : (window : Rect) → IsRectWithin 1048000 window → IsRectWithin 1048128 window
near_too window near =
    let a = near.0 in let b = near.1 in let c = near.2 in let d = near.3 in
    (omega arith, omega arith, omega arith, omega arith)

-- Rectangles without a pixel in the window may be left out.
use Rattle.std.proofs.Common.{◌≡◌, ℕ, ◌≤◌, ℤ, pos, ◌+ℤ◌, ◌-ℤ◌, ◌≤ℤ◌, ◌<ℤ◌, unsigned_abs, Bool, true, if◌then◌else◌, List, ap, ◌∙◌, arith}
use Rattle.std.specs.List.{filter}
use Rattle.std.proofs.lemmas.Int.{ints}
use Rattle.std.proofs.lemmas.Map.Views.{any-filter_same}
use Rattle.opc_base.specs.Corners.{quadrant_sum}
use Rattle.opc_base.specs.Lanes.{AddUpNear}
use Rattle.opc_base.specs.Plane.{cover, rect_cover}
use Rattle.opc_base.specs.declared.plane.Corner.{Corner}
use Rattle.opc_base.specs.declared.plane.Rect.{Rect}
use Rattle.corners.specs.Windows.{Shows}

-- a pixel is covered as before where each rectangle that covers it is kept
pub cover-kept : (keep : Rect → Bool) (rects : List Rect) (x y : ℤ) → ((r : Rect) → rect_cover r x y ≡ true → keep r ≡ true) → cover (filter keep rects) x y ≡ cover rects x y
cover-kept keep rects x y kept = any-filter_same (λ r. rect_cover r x y) keep true kept rects

in_line : (low high p u : ℤ) (reach : ℕ) → low ≤ℤ (p -ℤ pos reach) → (p +ℤ pos reach) <ℤ high → unsigned_abs u ≤ reach → (low ≤ℤ (p -ℤ u)) × ((p -ℤ u) <ℤ high)
in_line low high p u reach least most near = (omega (arith, ints), omega (arith, ints))

in_rect : (r : Rect) (x y : ℤ) → r.x0 ≤ℤ x → x <ℤ r.x1 → r.y0 ≤ℤ y → y <ℤ r.y1 → rect_cover r x y ≡ true
in_rect r x y left right low high = grind (arith, ints)

-- so the corners of those that are kept add up to all of them within each reach that the window shows whole
pub add_up-kept : (window : Rect) (keep : Rect → Bool) (rects : List Rect) →
    ((r : Rect) (x y : ℤ) → rect_cover window x y ≡ true → rect_cover r x y ≡ true → keep r ≡ true) →
    (reach : ℕ) (x y : ℤ) (corners : List Corner) → Shows window reach x y →
    AddUpNear reach corners (cover (filter keep rects)) x y → AddUpNear reach corners (cover rects) x y
add_up-kept window keep rects kept reach x y corners shows near = record {
  each = λ u v across along.
      let in_x = in_line window.x0 window.x1 x u reach shows.left shows.right across in
      let in_y = in_line window.y0 window.y1 y v reach shows.bottom shows.top along in
      let inside = in_rect window (x -ℤ u) (y -ℤ v) in_x.0 in_x.1 in_y.0 in_y.1 in
      near.each u v across along
      ∙ ap (λ (b : Bool). if b then pos 1 else pos 0) (cover-kept keep rects (x -ℤ u) (y -ℤ v) (λ r. kept r (x -ℤ u) (y -ℤ v) inside));
}

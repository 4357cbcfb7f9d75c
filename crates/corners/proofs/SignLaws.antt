-- The signs of points that add up to what a window shows.
use Rattle.std.proofs.Common.{◌≡◌, ◌≢◌, ◌⊎◌, inl, inr, ℕ, zero, suc, ◌<◌, ◌≤◌, ℤ, pos, neg_ℤ, ◌+ℤ◌, ◌-ℤ◌, ◌≤ℤ◌, ◌<ℤ◌, int_le, int_lt, int_eq, unsigned_abs, Bool, true, false, not, ◌&&◌, if◌then◌else◌, List, [], ◌∷◌, All, length, get_or, map, refl, ap, ◌∙◌, sym, subst, arith}
use Rattle.std.proofs.lemmas.Int.{ints, by_lt_z}
use Rattle.std.proofs.lemmas.List.{length-map, get_or-map}
use Rattle.opc_base.specs.Corners.{point_sum, quadrant_sum, sign_at}
use Rattle.opc_base.specs.Plane.{PixelSet, indicator, rect_cover}
use Rattle.opc_base.specs.Sums.{sum_each}
use Rattle.opc_base.specs.declared.plane.Corner.{Corner}
use Rattle.opc_base.specs.declared.plane.Rect.{Rect}
use Rattle.corners.specs.Points.{corner_from, quadrants}
use Rattle.signed_points.specs.Points.{IsAscending, IsSigned, PointPrecedes, SignsWithin}
use Rattle.corners.specs.Windows.{AreInRows, IsCornerIn, Shows, in_window}
use Rattle.opc_base.specs.Lanes.{AddUpNear}
use Rattle.signed_points.specs.declared.points.Point.{Point}
use Rattle.corners.proofs.MergeLaws.{quadrants-cons, quadrants-nil}

-- ---- points as corners
swapped : (a b : Bool) (e : ℤ) → (if a && b then e else pos 0) ≡ (if b && a then e else pos 0)
swapped a b e = grind arith

pub quadrant_sum-points : (ps : List Point) (x y : ℤ) → quadrant_sum (map corner_from ps) x y ≡ quadrants ps y x
unfolding sum_each
quadrant_sum-points [] x y = sym (quadrants-nil y x)
quadrant_sum-points (p ∷ ps) x y =
    let first = swapped (int_le p.place x) (int_le p.line y) p.sign in
    let rest = quadrant_sum-points ps x y in
    let all = quadrants-cons p ps y x in
    omega (arith, ints)

-- ---- the difference of a function over the four pixels round a lattice point
abbrev mixed : (ℤ → ℤ → ℤ) → ℤ → ℤ → ℤ
mixed f x y = f x y -ℤ f (x -ℤ pos 1) y -ℤ f x (y -ℤ pos 1) +ℤ f (x -ℤ pos 1) (y -ℤ pos 1)

at_place : (a x : ℤ) → int_eq a x ≡ (int_le a x && not (int_le a (x -ℤ pos 1)))
at_place a x = grind (arith, ints)

before_place : (a x : ℤ) → int_le a (x -ℤ pos 1) ≡ true → int_le a x ≡ true
before_place a x before = grind (arith, ints)

four_quadrants : (a b c d : Bool) (e : ℤ) → (b ≡ true → a ≡ true) → (d ≡ true → c ≡ true) →
    (if a && c then e else pos 0) -ℤ (if b && c then e else pos 0) -ℤ (if a && d then e else pos 0) +ℤ (if b && d then e else pos 0)
    ≡ (if (a && not b) && (c && not d) then e else pos 0)
four_quadrants a b c d e f g = grind (arith, ints)

corner-mixed : (cx cy e x y : ℤ) →
    mixed (λ x y. if int_le cx x && int_le cy y then e else pos 0) x y ≡ (if int_eq cx x && int_eq cy y then e else pos 0)
corner-mixed cx cy e x y =
    rw (at_place cx x, at_place cy y)
    (four_quadrants (int_le cx x) (int_le cx (x -ℤ pos 1)) (int_le cy y) (int_le cy (y -ℤ pos 1)) e (before_place cx x) (before_place cy y))

quadrant_sum-mixed : (corners : List Corner) (x y : ℤ) → mixed (quadrant_sum corners) x y ≡ point_sum corners x y
unfolding sum_each
quadrant_sum-mixed [] x y = refl
quadrant_sum-mixed (c ∷ corners) x y = omega (arith, ints, corner-mixed c.x c.y c.sign x y, quadrant_sum-mixed corners x y)

-- where the quadrants add up to a set, the points have its signs
pub point_sum-sign_at : (pixels : PixelSet) (corners : List Corner) (x y : ℤ) → ((x y : ℤ) → quadrant_sum corners x y ≡ indicator pixels x y) →
    point_sum corners x y ≡ sign_at pixels x y
point_sum-sign_at pixels corners x y sums =
    sym (quadrant_sum-mixed corners x y) ∙ same _ _ _ _ _ _ _ _ (sums x y) (sums (x -ℤ pos 1) y) (sums x (y -ℤ pos 1)) (sums (x -ℤ pos 1) (y -ℤ pos 1))
  where
    same : (a b c d e f g h : ℤ) → a ≡ e → b ≡ f → c ≡ g → d ≡ h → a -ℤ b -ℤ c +ℤ d ≡ e -ℤ f -ℤ g +ℤ h
    same a b c d e f g h p q r s = omega (arith, ints)

-- ---- each point's own sign
elsewhere : (qx qy px py e : ℤ) → (py <ℤ qy) ⊎ ((py ≡ qy) × (px <ℤ qx)) → (if int_eq qx px && int_eq qy py then e else pos 0) ≡ pos 0
elsewhere qx qy px py e (inl below) = grind (arith, ints)
elsewhere qx qy px py e (inr left) = let apart = left.1 in grind (arith, ints)

elsewhere_before : (qx qy px py e : ℤ) → (qy <ℤ py) ⊎ ((qy ≡ py) × (qx <ℤ px)) → (if int_eq qx px && int_eq qy py then e else pos 0) ≡ pos 0
elsewhere_before qx qy px py e (inl below) = grind (arith, ints)
elsewhere_before qx qy px py e (inr left) = let apart = left.1 in grind (arith, ints)

here : (x y e : ℤ) → (if int_eq x x && int_eq y y then e else pos 0) ≡ e
here x y e = grind (arith, ints)

others_add_nothing : (p : Point) (ps : List Point) → All (PointPrecedes p) ps → point_sum (map corner_from ps) p.place p.line ≡ pos 0
unfolding sum_each
others_add_nothing p [] after = refl
others_add_nothing p (q ∷ ps) after =
    let first = elsewhere q.place q.line p.place p.line q.sign (after 0 q (omega arith)) in
    let rest = others_add_nothing p ps (λ k d below. after (suc k) d (omega arith)) in
    omega (arith, ints)

own_sign : (ps : List Point) (k : ℕ) (d : Point) → IsAscending ps → k < length ps →
    point_sum (map corner_from ps) (get_or ps k d).place (get_or ps k d).line ≡ (get_or ps k d).sign
unfolding sum_each
own_sign [] k d ascending below = absurd (omega arith)
own_sign (p ∷ ps) zero d ascending below =
    let first = here p.place p.line p.sign in
    let rest = others_add_nothing p ps (λ k e within. ascending 0 (suc k) e (omega arith) (omega arith)) in
    omega (arith, ints)
own_sign (p ∷ ps) (suc k) d ascending below =
    let q : Point = get_or ps k d in
    let first = elsewhere_before p.place p.line q.place q.line p.sign (ascending 0 (suc k) d (omega arith) below) in
    let rest = own_sign ps k d (λ i j e before within. ascending (suc i) (suc j) e (omega arith) (omega arith)) (omega arith) in
    omega (arith, ints)

-- ---- signs of what a window shows
four_signs : (a b c d : Bool) →
    unsigned_abs ((if a then pos 1 else pos 0) -ℤ (if b then pos 1 else pos 0) -ℤ (if c then pos 1 else pos 0) +ℤ (if d then pos 1 else pos 0)) ≤ 2
four_signs a b c d = grind (arith, ints)

sign_small : (pixels : PixelSet) (x y : ℤ) → unsigned_abs (sign_at pixels x y) ≤ 2
sign_small pixels x y = four_signs (pixels x y) (pixels (x -ℤ pos 1) y) (pixels x (y -ℤ pos 1)) (pixels (x -ℤ pos 1) (y -ℤ pos 1))

hidden : (window : Rect) (pixels : PixelSet) (x y : ℤ) → ((x <ℤ window.x0) ⊎ (window.x1 ≤ℤ x)) ⊎ ((y <ℤ window.y0) ⊎ (window.y1 ≤ℤ y)) →
    indicator (in_window window pixels) x y ≡ pos 0
hidden window pixels x y out = ap (λ b. if b && pixels x y then pos 1 else pos 0) (none out)
  where
    left_of : (a x : ℤ) → x <ℤ a → int_le a x ≡ false
    left_of a x below = grind (arith, ints)

    right_of : (b x : ℤ) → b ≤ℤ x → int_lt x b ≡ false
    right_of b x above = grind (arith, ints)

    first_false : (b c d : Bool) → (false && b && c && d) ≡ false
    first_false b c d = grind arith

    second_false : (a c d : Bool) → (a && false && c && d) ≡ false
    second_false a c d = grind arith

    third_false : (a b d : Bool) → (a && b && false && d) ≡ false
    third_false a b d = grind arith

    fourth_false : (a b c : Bool) → (a && b && c && false) ≡ false
    fourth_false a b c = grind arith

    none : ((x <ℤ window.x0) ⊎ (window.x1 ≤ℤ x)) ⊎ ((y <ℤ window.y0) ⊎ (window.y1 ≤ℤ y)) → rect_cover window x y ≡ false
    none (inl (inl below)) = rw (left_of window.x0 x below) (first_false (int_lt x window.x1) (int_le window.y0 y) (int_lt y window.y1))
    none (inl (inr above)) = rw (right_of window.x1 x above) (second_false (int_le window.x0 x) (int_le window.y0 y) (int_lt y window.y1))
    none (inr (inl below)) = rw (left_of window.y0 y below) (third_false (int_le window.x0 x) (int_lt x window.x1) (int_lt y window.y1))
    none (inr (inr above)) = rw (right_of window.y1 y above) (fourth_false (int_le window.x0 x) (int_lt x window.x1) (int_le window.y0 y))

sum_of_none : (a b c d : ℤ) → a ≡ pos 0 → b ≡ pos 0 → c ≡ pos 0 → d ≡ pos 0 → a -ℤ b -ℤ c +ℤ d ≡ pos 0
sum_of_none a b c d p q r s = omega (arith, ints)

-- outside the window there is no corner
sign_outside : (window : Rect) (pixels : PixelSet) (x y : ℤ) → ((x <ℤ window.x0) ⊎ (window.x1 <ℤ x)) ⊎ ((y <ℤ window.y0) ⊎ (window.y1 <ℤ y)) →
    sign_at (in_window window pixels) x y ≡ pos 0
sign_outside window pixels x y (inl (inl out)) = sum_of_none _ _ _ _
    (hidden window pixels x y (inl (inl out))) (hidden window pixels (x -ℤ pos 1) y (inl (inl (omega (arith, ints)))))
    (hidden window pixels x (y -ℤ pos 1) (inl (inl out))) (hidden window pixels (x -ℤ pos 1) (y -ℤ pos 1) (inl (inl (omega (arith, ints)))))
sign_outside window pixels x y (inl (inr out)) = sum_of_none _ _ _ _
    (hidden window pixels x y (inl (inr (omega (arith, ints))))) (hidden window pixels (x -ℤ pos 1) y (inl (inr (omega (arith, ints)))))
    (hidden window pixels x (y -ℤ pos 1) (inl (inr (omega (arith, ints))))) (hidden window pixels (x -ℤ pos 1) (y -ℤ pos 1) (inl (inr (omega (arith, ints)))))
sign_outside window pixels x y (inr (inl out)) = sum_of_none _ _ _ _
    (hidden window pixels x y (inr (inl out))) (hidden window pixels (x -ℤ pos 1) y (inr (inl out)))
    (hidden window pixels x (y -ℤ pos 1) (inr (inl (omega (arith, ints))))) (hidden window pixels (x -ℤ pos 1) (y -ℤ pos 1) (inr (inl (omega (arith, ints)))))
sign_outside window pixels x y (inr (inr out)) = sum_of_none _ _ _ _
    (hidden window pixels x y (inr (inr (omega (arith, ints))))) (hidden window pixels (x -ℤ pos 1) y (inr (inr (omega (arith, ints)))))
    (hidden window pixels x (y -ℤ pos 1) (inr (inr (omega (arith, ints))))) (hidden window pixels (x -ℤ pos 1) (y -ℤ pos 1) (inr (inr (omega (arith, ints)))))

-- what the window shows whole is as it was
shown : (window : Rect) (reach : ℕ) (x y u v : ℤ) → Shows window reach x y → unsigned_abs u ≤ reach → unsigned_abs v ≤ reach →
    rect_cover window (x -ℤ u) (y -ℤ v) ≡ true
shown window reach x y u v shows near_u near_v =
    let left = shows.left in
    let right = shows.right in
    let bottom = shows.bottom in
    let top = shows.top in
    four_true (int_le window.x0 (x -ℤ u)) (int_lt (x -ℤ u) window.x1) (int_le window.y0 (y -ℤ v)) (int_lt (y -ℤ v) window.y1)
    (at_least window.x0 (x -ℤ u) (omega (arith, ints))) (below (x -ℤ u) window.x1 (omega (arith, ints)))
    (at_least window.y0 (y -ℤ v) (omega (arith, ints))) (below (y -ℤ v) window.y1 (omega (arith, ints)))
  where
    at_least : (a b : ℤ) → a ≤ℤ b → int_le a b ≡ true
    at_least a b order = grind (arith, ints)

    below : (a b : ℤ) → a <ℤ b → int_lt a b ≡ true
    below a b order = grind (arith, ints)

    four_true : (a b c d : Bool) → a ≡ true → b ≡ true → c ≡ true → d ≡ true → (a && b && c && d) ≡ true
    four_true a b c d p q r s = rw (p, q, r, s)

pub add_up_near : (window : Rect) (pixels : PixelSet) (corners : List Corner) (reach : ℕ) (x y : ℤ) →
    ((x y : ℤ) → quadrant_sum corners x y ≡ indicator (in_window window pixels) x y) → Shows window reach x y → AddUpNear reach corners pixels x y
add_up_near window pixels corners reach x y sums shows = record {
  each = λ u v near_u near_v. sums (x -ℤ u) (y -ℤ v)
      ∙ ap (λ b. if b && pixels (x -ℤ u) (y -ℤ v) then pos 1 else pos 0) (shown window reach x y u v shows near_u near_v);
}

-- ---- the points of a set in a window
module _ (window : Rect) (pixels : PixelSet) (ps : List Point) (ascending : IsAscending ps) (signed : IsSigned ps)
    (sums : (y x : ℤ) → quadrants ps y x ≡ indicator (in_window window pixels) x y) where
  pub quadrants_are : (x y : ℤ) → quadrant_sum (map corner_from ps) x y ≡ indicator (in_window window pixels) x y
  quadrants_are x y = quadrant_sum-points ps x y ∙ sums y x

  pub signs_are : (x y : ℤ) → point_sum (map corner_from ps) x y ≡ sign_at (in_window window pixels) x y
  signs_are x y = point_sum-sign_at (in_window window pixels) (map corner_from ps) x y quadrants_are

  sign_is : (k : ℕ) (d : Point) → k < length ps → (get_or ps k d).sign ≡ sign_at (in_window window pixels) (get_or ps k d).place (get_or ps k d).line
  sign_is k d below = sym (own_sign ps k d ascending below) ∙ signs_are (get_or ps k d).place (get_or ps k d).line

  point_in : (k : ℕ) (d : Point) → k < length ps → IsCornerIn window (corner_from (get_or ps k d))
  point_in k d below = record {
    signed = some;
    small = rw is (sign_small (in_window window pixels) p.place p.line);
    left = by_lt_z p.place window.x0 (λ out. absurd (some (is ∙ sign_outside window pixels p.place p.line (inl (inl out))))) (λ within. within);
    right = by_lt_z window.x1 p.place (λ out. absurd (some (is ∙ sign_outside window pixels p.place p.line (inl (inr out))))) (λ within. within);
    bottom = by_lt_z p.line window.y0 (λ out. absurd (some (is ∙ sign_outside window pixels p.place p.line (inr (inl out))))) (λ within. within);
    top = by_lt_z window.y1 p.line (λ out. absurd (some (is ∙ sign_outside window pixels p.place p.line (inr (inr out))))) (λ within. within);
  }
    where
      p : Point
      p = get_or ps k d

      some : (get_or ps k d).sign ≢ pos 0
      some = signed k d below

      is : (get_or ps k d).sign ≡ sign_at (in_window window pixels) (get_or ps k d).place (get_or ps k d).line
      is = sign_is k d below

  nothing_at : Point
  nothing_at = record { line = pos 0; place = pos 0; sign = pos 0 }

  read : (k : ℕ) (d : Corner) → k < length ps → get_or (map corner_from ps) k d ≡ corner_from (get_or ps k nothing_at)
  read k d below = get_or-map corner_from ps k nothing_at d below

  pub each_in : All (IsCornerIn window) (map corner_from ps)
  each_in k d below =
      let within : k < length ps = omega (arith, length-map ps corner_from) in
      subst (IsCornerIn window) (sym (read k d within)) (point_in k nothing_at within)

  pub in_rows : AreInRows (map corner_from ps)
  in_rows i j d before below =
      let within : j < length ps = omega (arith, length-map ps corner_from) in
      rw (read i d (omega arith), read j d within) (ascending i j nothing_at before within)

  pub signs_within : SignsWithin 2 ps
  signs_within k d below = of_small (get_or ps k d).sign (point_in k d below).small
    where
      of_small : (z : ℤ) → unsigned_abs z ≤ 2 → (neg_ℤ (pos 2) ≤ℤ z) × (z ≤ℤ pos 2)
      of_small z small = (omega (arith, ints), omega (arith, ints))

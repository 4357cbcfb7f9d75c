-- What a window shows of disjoint rectangles, and the four points of a rectangle.
use Rattle.std.proofs.Common.{◌≡◌, ◌⊎◌, inl, inr, ℕ, suc, ◌+◌, ◌<◌, ◌≤◌, ℤ, pos, negsuc, ◌+ℤ◌, ◌≤ℤ◌, ◌<ℤ◌, int_le, int_lt, unsigned_abs, Bool, true, false, not, ◌&&◌, ◌||◌, if◌then◌else◌, IsTrue, IsFalse, List, [], ◌∷◌, ◌++◌, All, AllPairs, length, get_or, take, map, refl, ap, ap₂, ◌∙◌, sym, subst, arith, neg_ℤ, IsPermutation, w32, to_z, of_z}
use Rattle.std.proofs.lemmas.Int.{ints, clamps}
use Rattle.std.specs.Int.{int_max, int_min}
use Rattle.opc_base.specs.Plane.{AreDisjoint, HaveNoOverlap, PixelSet, cover, indicator, rect_cover}
use Rattle.opc_base.specs.Sums.{sum_each}
use Rattle.opc_base.specs.declared.plane.Rect.{Rect}
use Rattle.opc_base.specs.declared.plane.Corner.{Corner}
use Rattle.corners.specs.Points.{HasArea, corner_from, quadrants, share}
use Rattle.signed_points.specs.Points.{SameSums, SignsWithin}
use Rattle.corners.specs.Windows.{clip, in_window}
use Rattle.signed_points.specs.declared.points.Point.{Point}
use Rattle.corners.proofs.MergeLaws.{quadrants-merged, quadrants-permutation, quadrants-push}
use Rattle.std.proofs.lemmas.List.Elements.{All-push}
use Rattle.std.proofs.lemmas.List.{map-append, take_more}

-- ---- a rectangle in the window
clipped_line : (a b c d x : ℤ) → (int_le (int_max a c) x && int_lt x (int_min b d)) ≡ ((int_le c x && int_lt x d) && (int_le a x && int_lt x b))
clipped_line a b c d x = grind (arith, ints, clamps)

and_four : (a b c d e f g h p q r s : Bool) → (p && q) ≡ ((e && f) && (a && b)) → (r && s) ≡ ((g && h) && (c && d)) →
    (p && q && r && s) ≡ ((e && f && g && h) && (a && b && c && d))
and_four a b c d e f g h p q r s first second = grind arith

pub clip-cover : (window r : Rect) (x y : ℤ) → rect_cover (clip window r) x y ≡ (rect_cover window x y && rect_cover r x y)
clip-cover window r x y =
    and_four (int_le r.x0 x) (int_lt x r.x1) (int_le r.y0 y) (int_lt y r.y1) (int_le window.x0 x) (int_lt x window.x1) (int_le window.y0 y) (int_lt y window.y1)
    (int_le (int_max r.x0 window.x0) x) (int_lt x (int_min r.x1 window.x1)) (int_le (int_max r.y0 window.y0) y) (int_lt y (int_min r.y1 window.y1))
    (clipped_line r.x0 r.x1 window.x0 window.x1 x) (clipped_line r.y0 r.y1 window.y0 window.y1 y)

-- a rectangle without area covers nothing
empty_line : (a b x : ℤ) → b ≤ℤ a → (int_le a x && int_lt x b) ≡ false
empty_line a b x none = grind (arith, ints)

and_false : (p q r s : Bool) → ((p && q) ≡ false) ⊎ ((r && s) ≡ false) → (p && q && r && s) ≡ false
and_false p q r s (inl none) = grind arith
and_false p q r s (inr none) = grind arith

not_below : (a b : ℤ) → int_lt a b ≡ false → b ≤ℤ a
not_below a b test = grind (arith, ints)

is_below : (a b : ℤ) → int_lt a b ≡ true → a <ℤ b
is_below a b test = grind (arith, ints)

both : (s t : Bool) → (s && t) ≡ true → (s ≡ true) × (t ≡ true)
both true true test = (refl, refl)
both true false test = absurd (cc test)
both false t test = absurd (cc test)

pub area_of : (r : Rect) (b : Bool) → b ≡ (int_lt r.x0 r.x1 && int_lt r.y0 r.y1) → b ≡ true → HasArea r
area_of r b is test =
    let two = both (int_lt r.x0 r.x1) (int_lt r.y0 r.y1) (sym is ∙ test) in
    record { wide = is_below r.x0 r.x1 two.0; high = is_below r.y0 r.y1 two.1 }

pub flat-cover : (r : Rect) (b : Bool) (x y : ℤ) → b ≡ (int_lt r.x0 r.x1 && int_lt r.y0 r.y1) → b ≡ false → indicator (rect_cover r) x y ≡ pos 0
flat-cover r b x y is test = ap (λ b. if b then pos 1 else pos 0)
    (and_false (int_le r.x0 x) (int_lt x r.x1) (int_le r.y0 y) (int_lt y r.y1) (by (int_lt r.x0 r.x1) (int_lt r.y0 r.y1) refl refl (sym is ∙ test)))
  where
    by : (s t : Bool) → int_lt r.x0 r.x1 ≡ s → int_lt r.y0 r.y1 ≡ t → (s && t) ≡ false →
        ((int_le r.x0 x && int_lt x r.x1) ≡ false) ⊎ ((int_le r.y0 y && int_lt y r.y1) ≡ false)
    by false t first second none = inl (empty_line r.x0 r.x1 x (not_below r.x0 r.x1 first))
    by true false first second none = inr (empty_line r.y0 r.y1 y (not_below r.y0 r.y1 second))
    by true true first second none = absurd (cc none)

-- ---- clipping, in the numbers that are stored
max_small : (a b : ℤ) → unsigned_abs a ≤ 1060000 → unsigned_abs b ≤ 1060000 → unsigned_abs (int_max a b) ≤ 1060000
max_small a b small_a small_b = grind (arith, ints, clamps)

min_small : (a b : ℤ) → unsigned_abs a ≤ 1060000 → unsigned_abs b ≤ 1060000 → unsigned_abs (int_min a b) ≤ 1060000
min_small a b small_a small_b = grind (arith, ints, clamps)

-- a coordinate as it is stored
abbrev pub stored : ℤ → ℤ
stored z = to_z w32 (of_z w32 z)

stored_is : (z : ℤ) → unsigned_abs z ≤ 1060000 → stored z ≡ z
stored_is z small = omega (arith, ints)

pub stored_max : (a b m : ℤ) → unsigned_abs a ≤ 1060000 → unsigned_abs b ≤ 1060000 → m ≡ int_max (stored a) (stored b) →
    (stored m ≡ int_max a b) × (unsigned_abs (stored m) ≤ 1060000)
stored_max a b m small_a small_b is =
    let plain : m ≡ int_max a b = is ∙ ap₂ int_max (stored_is a small_a) (stored_is b small_b) in
    let small : unsigned_abs m ≤ 1060000 = rw plain (max_small a b small_a small_b) in
    (stored_is m small ∙ plain, rw (stored_is m small) small)

pub stored_min : (a b m : ℤ) → unsigned_abs a ≤ 1060000 → unsigned_abs b ≤ 1060000 → m ≡ int_min (stored a) (stored b) →
    (stored m ≡ int_min a b) × (unsigned_abs (stored m) ≤ 1060000)
stored_min a b m small_a small_b is =
    let plain : m ≡ int_min a b = is ∙ ap₂ int_min (stored_is a small_a) (stored_is b small_b) in
    let small : unsigned_abs m ≤ 1060000 = rw plain (min_small a b small_a small_b) in
    (stored_is m small ∙ plain, rw (stored_is m small) small)

-- ---- the four points of a rectangle
past : (a b x : ℤ) → a <ℤ b → int_le b x ≡ true → int_le a x ≡ true
past a b x wide beyond = grind (arith, ints)

lt_not : (b x : ℤ) → int_lt x b ≡ not (int_le b x)
lt_not b x = grind (arith, ints)

four_shares : (a b c d : Bool) → (b ≡ true → a ≡ true) → (d ≡ true → c ≡ true) →
    (if c && a then pos 1 else pos 0) +ℤ (if c && b then negsuc 0 else pos 0) +ℤ (if d && a then negsuc 0 else pos 0) +ℤ (if d && b then pos 1 else pos 0)
    ≡ (if a && not b && c && not d then pos 1 else pos 0)
four_shares a b c d f g = grind (arith, ints)

abbrev pub point : ℤ → ℤ → ℤ → Point
point y x sign = record { line = y; place = x; sign = sign }

four_points : (r : Rect) (y x : ℤ) → HasArea r →
    share (point r.y0 r.x0 (pos 1)) y x +ℤ share (point r.y0 r.x1 (negsuc 0)) y x +ℤ share (point r.y1 r.x0 (negsuc 0)) y x +ℤ share (point r.y1 r.x1 (pos 1)) y x
    ≡ indicator (rect_cover r) x y
four_points r y x area =
    rw (lt_not r.x1 x, lt_not r.y1 y)
    (four_shares (int_le r.x0 x) (int_le r.x1 x) (int_le r.y0 y) (int_le r.y1 y) (past r.x0 r.x1 x area.wide) (past r.y0 r.y1 y area.high))

pushed : (v w : List Point) (y x sign y' x' : ℤ) (at_y at_x : ℤ) → w ≡ v ++ point y x sign ∷ [] → y ≡ y' → x ≡ x' →
    quadrants w at_y at_x ≡ quadrants v at_y at_x +ℤ share (point y' x' sign) at_y at_x
pushed v w y x sign y' x' at_y at_x is same_y same_x =
    ap (λ ps. quadrants ps at_y at_x) is ∙ quadrants-push v (point y x sign) at_y at_x
    ∙ ap₂ (λ p q. quadrants v at_y at_x +ℤ share (point p q sign) at_y at_x) same_y same_x

pub points_signs : (r : Rect) (v0 v1 v2 v3 v4 : List Point) → SignsWithin 1 v0 →
    v1 ≡ v0 ++ point (stored r.y0) (stored r.x0) (pos 1) ∷ [] → v2 ≡ v1 ++ point (stored r.y0) (stored r.x1) (negsuc 0) ∷ [] →
    v3 ≡ v2 ++ point (stored r.y1) (stored r.x0) (negsuc 0) ∷ [] → v4 ≡ v3 ++ point (stored r.y1) (stored r.x1) (pos 1) ∷ [] → SignsWithin 1 v4
points_signs r v0 v1 v2 v3 v4 within is_1 is_2 is_3 is_4 =
    let one = more v0 v1 (point (stored r.y0) (stored r.x0) (pos 1)) within is_1 (omega (arith, ints), omega (arith, ints)) in
    let two = more v1 v2 (point (stored r.y0) (stored r.x1) (negsuc 0)) one is_2 (omega (arith, ints), omega (arith, ints)) in
    let three = more v2 v3 (point (stored r.y1) (stored r.x0) (negsuc 0)) two is_3 (omega (arith, ints), omega (arith, ints)) in
    more v3 v4 (point (stored r.y1) (stored r.x1) (pos 1)) three is_4 (omega (arith, ints), omega (arith, ints))
  where
    more : (v w : List Point) (p : Point) → SignsWithin 1 v → w ≡ v ++ p ∷ [] → (neg_ℤ (pos 1) ≤ℤ p.sign) × (p.sign ≤ℤ pos 1) → SignsWithin 1 w
    more v w p all is unit = subst (SignsWithin 1) (sym is) (All-push (λ q. (neg_ℤ (pos 1) ≤ℤ q.sign) × (q.sign ≤ℤ pos 1)) v p all unit)

pub points_sums : (r : Rect) (v0 v1 v2 v3 v4 : List Point) (y x : ℤ) → HasArea r →
    (unsigned_abs r.x0 ≤ 1060000) × (unsigned_abs r.y0 ≤ 1060000) × (unsigned_abs r.x1 ≤ 1060000) × (unsigned_abs r.y1 ≤ 1060000) →
    v1 ≡ v0 ++ point (stored r.y0) (stored r.x0) (pos 1) ∷ [] → v2 ≡ v1 ++ point (stored r.y0) (stored r.x1) (negsuc 0) ∷ [] →
    v3 ≡ v2 ++ point (stored r.y1) (stored r.x0) (negsuc 0) ∷ [] → v4 ≡ v3 ++ point (stored r.y1) (stored r.x1) (pos 1) ∷ [] →
    quadrants v4 y x ≡ quadrants v0 y x +ℤ indicator (rect_cover r) x y
points_sums r v0 v1 v2 v3 v4 y x area small is_1 is_2 is_3 is_4 =
    let x0 : stored r.x0 ≡ r.x0 = stored_is r.x0 small.0 in
    let y0 : stored r.y0 ≡ r.y0 = stored_is r.y0 small.1 in
    let x1 : stored r.x1 ≡ r.x1 = stored_is r.x1 small.2 in
    let y1 : stored r.y1 ≡ r.y1 = stored_is r.y1 small.3 in
    let first = pushed v0 v1 (stored r.y0) (stored r.x0) (pos 1) r.y0 r.x0 y x is_1 y0 x0 in
    let second = pushed v1 v2 (stored r.y0) (stored r.x1) (negsuc 0) r.y0 r.x1 y x is_2 y0 x1 in
    let third = pushed v2 v3 (stored r.y1) (stored r.x0) (negsuc 0) r.y1 r.x0 y x is_3 y1 x0 in
    let fourth = pushed v3 v4 (stored r.y1) (stored r.x1) (pos 1) r.y1 r.x1 y x is_4 y1 x1 in
    sums _ _ _ _ _ _ _ _ _ _ first second third fourth (four_points r y x area)
  where
    sums : (q0 q1 q2 q3 q4 a b c d e : ℤ) → q1 ≡ q0 +ℤ a → q2 ≡ q1 +ℤ b → q3 ≡ q2 +ℤ c → q4 ≡ q3 +ℤ d → a +ℤ b +ℤ c +ℤ d ≡ e → q4 ≡ q0 +ℤ e
    sums q0 q1 q2 q3 q4 a b c d e f g h i j = omega (arith, ints)

-- ---- disjoint rectangles in the window
pairs_head : {X : Type 0} (R : X → X → Type 0) (x : X) (xs : List X) → AllPairs R (x ∷ xs) → All (R x) xs
pairs_head R x xs pairs k d below = pairs 0 (suc k) d (omega arith) (omega arith)

pairs_tail : {X : Type 0} (R : X → X → Type 0) (x : X) (xs : List X) → AllPairs R (x ∷ xs) → AllPairs R xs
pairs_tail R x xs pairs i j d before below = pairs (suc i) (suc j) d (omega arith) (omega arith)

all_tail : {X : Type 0} (P : X → Type 0) (x : X) (xs : List X) → All P (x ∷ xs) → All P xs
all_tail P x xs all k d below = all (suc k) d (omega arith)

neither : (a b : Bool) → IsFalse a → IsFalse b → IsFalse (a || b)
neither a b not_a not_b = grind arith

apart_from_all : (pixels : PixelSet) (rects : List Rect) → All (λ r. AreDisjoint pixels (rect_cover r)) rects → AreDisjoint pixels (cover rects)
apart_from_all pixels [] apart x y here = refl
apart_from_all pixels (rect ∷ rects) apart x y here =
    neither (rect_cover rect x y) (cover rects x y) (apart 0 rect (omega arith) x y here)
    (apart_from_all pixels rects (all_tail (λ r. AreDisjoint pixels (rect_cover r)) rect rects apart) x y here)

either : (w a b : Bool) → (IsTrue a → IsFalse b) →
    (if w && (a || b) then pos 1 else pos 0) ≡ (if w && a then pos 1 else pos 0) +ℤ (if w && b then pos 1 else pos 0)
either w a b apart = grind (arith, ints)

nothing_covered : (w : Bool) → (if w && false then pos 1 else pos 0) ≡ pos 0
nothing_covered w = grind arith

-- the pixels in the window are those of the rectangles one by one
pub cover_in_window : (window : Rect) (rects : List Rect) (x y : ℤ) → HaveNoOverlap rects →
    indicator (in_window window (cover rects)) x y ≡ sum_each (λ r. indicator (rect_cover (clip window r)) x y) rects
unfolding sum_each
cover_in_window window [] x y apart = nothing_covered (rect_cover window x y)
cover_in_window window (rect ∷ rects) x y apart =
    let R : Rect → Rect → Type 0 = λ a b. AreDisjoint (rect_cover a) (rect_cover b) in
    either (rect_cover window x y) (rect_cover rect x y) (cover rects x y) (apart_from_all (rect_cover rect) rects (pairs_head R rect rects apart) x y)
    ∙ ap₂ (λ s t. s +ℤ t) (ap (λ b. if b then pos 1 else pos 0) (sym (clip-cover window rect x y)))
    (cover_in_window window rects x y (pairs_tail R rect rects apart))

-- the merged points of the rectangles add up to them
pub merged_sums : (window : Rect) (rects taken : List Rect) (points sorted read merged : List Point) → HaveNoOverlap rects → taken ≡ rects →
    ((y x : ℤ) → quadrants points y x ≡ sum_each (λ (r : Rect). indicator (rect_cover (clip window r)) x y) taken) →
    IsPermutation points sorted → read ≡ sorted → SameSums merged read →
    (y x : ℤ) → quadrants merged y x ≡ indicator (in_window window (cover rects)) x y
merged_sums window rects taken points sorted read merged apart whole sums moved is same y x =
    quadrants-merged merged read y x same ∙ ap (λ ps. quadrants ps y x) is ∙ quadrants-permutation points sorted y x moved ∙ sums y x
    ∙ ap (sum_each (λ (r : Rect). indicator (rect_cover (clip window r)) x y)) whole
    ∙ sym (cover_in_window window rects x y apart)

-- ---- points as corners, one by one
pub corner_is : (x y sign x' y' sign' : ℤ) → x ≡ x' → y ≡ y' → sign ≡ sign' →
    (let c : Corner = record { x = x; y = y; sign = sign } in c) ≡ record { x = x'; y = y'; sign = sign' }
corner_is x y sign x' y' sign' e f g =
    ap (λ z. let c : Corner = record { x = z; y = y; sign = sign } in c) e
    ∙ ap (λ z. let c : Corner = record { x = x'; y = z; sign = sign } in c) f
    ∙ ap (λ z. let c : Corner = record { x = x'; y = y'; sign = z } in c) g

pub pushed_corner : (points : List Point) (i : ℕ) (d : Point) (old new : List Corner) (c : Corner) → i < length points →
    old ≡ map corner_from (take i points) → new ≡ old ++ c ∷ [] → c ≡ corner_from (get_or points i d) → new ≡ map corner_from (take (i + 1) points)
pushed_corner points i d old new c below so_far is same =
    is ∙ ap₂ (λ cs c. cs ++ c ∷ []) so_far same
    ∙ sym (ap (map corner_from) (take_more points i d below) ∙ map-append corner_from (take i points) (get_or points i d ∷ []))

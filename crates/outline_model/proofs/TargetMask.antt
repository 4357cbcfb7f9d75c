-- Where no fragment has moved, the mask is the target.
use Rattle.std.proofs.Common.{◌≡◌, ◌≢◌, ◌⊎◌, inl, inr, ℕ, zero, suc, ◌<◌, ◌≤◌, ℤ, pos, negsuc, ◌+ℤ◌, ◌-ℤ◌, ◌≤ℤ◌, ◌<ℤ◌, Bool, true, false, not, ◌&&◌, ◌||◌, if◌then◌else◌, List, [], ◌∷◌, length, get_or, replicate, All, int_le, int_lt, unsigned_abs, refl, sym, ◌∙◌, ap, subst, arith}
use Rattle.std.specs.Ordering.{int_eq}
use Rattle.std.proofs.lemmas.Int.{ints}
use Rattle.std.proofs.lemmas.Bool.Decides.{Decides-int_eq}
use Rattle.opc_base.specs.declared.plane.Rect.{Rect}
use Rattle.opc_base.specs.declared.plane.Side.{Side}
use Rattle.opc_base.specs.declared.plane.Side.TheVariants.{Left, Right, Down, Up}
use Rattle.opc_base.specs.Canonical.{AreCanonical}
use Rattle.opc_base.specs.Plane.{IsRectWithin, cover, rect_cover}
use Rattle.outline_model.specs.declared.fragment.Join.{Join}
use Rattle.outline_model.specs.declared.fragment.Join.TheVariants.{Cut, Corner}
use Rattle.outline_model.specs.declared.fragment.Fragment.{Fragment}
use Rattle.outline_model.specs.Limits.{IsFragmentList}
use Rattle.outline_model.specs.Outline.{Point, Piece, IsOutline, fragment_at, side_of, outward, lines, low_end, high_end, is_vertical, is_rising, end_at, start_join, start_place, finish_join, finish_place, joined, start, finish, own_piece, jog, vertical_piece, step, crossing, count, mask, total}
use Rattle.outline_model.specs.Target.{IsBoundary, LiesLeftOf, opens}
use Rattle.outline_model.proofs.Totals.{total-equal, total-zero, total-one}
use Rattle.outline_model.proofs.Walk.{placed, stands, start_corner_back, start_is, finish_is, jog_at_cut, jog_at_corner}
use Rattle.outline_model.proofs.Steps.{side_count, count-step, int_eq-false}

-- each line is at its edge
abbrev pub AtRest : List Fragment → (ℕ → ℤ) → Type 0
AtRest fs line = (k : ℕ) → line k ≡ (fragment_at fs k).edge

pub at_rest_without_offsets : (fs : List Fragment) (offsets : List ℤ) → ((k : ℕ) → get_or offsets k (pos 0) ≡ pos 0) → AtRest fs (lines fs offsets)
at_rest_without_offsets fs offsets none k =
    ap (λ t. (fragment_at fs k).edge +ℤ outward (side_of fs k) t) (none k) ∙ by (side_of fs k) (fragment_at fs k).edge
  where
    by : (s : Side) (edge : ℤ) → edge +ℤ outward s (pos 0) ≡ edge
    by Left edge = omega (arith, ints)
    by Right edge = omega (arith, ints)
    by Down edge = omega (arith, ints)
    by Up edge = omega (arith, ints)

-- ---- the pieces at rest

no_length_counts : (piece : Piece) (x y : ℤ) → piece.from ≡ piece.to → side_count piece x y ≡ pos 0
no_length_counts piece x y none =
    ap (λ (p : Point). if int_eq piece.from.x x then step p.y y -ℤ step piece.from.y y else pos 0) (sym none)
    ∙ by (int_eq piece.from.x x) (step piece.from.y y)
  where
    by : (t : Bool) (z : ℤ) → (if t then z -ℤ z else pos 0) ≡ pos 0
    by true z = omega (arith, ints)
    by false z = refl

jog_at_rest : (fs : List Fragment) (line : ℕ → ℤ) (k : ℕ) → IsOutline fs → AtRest fs line → k < length fs
    → (jog fs line k).from ≡ (jog fs line k).to
jog_at_rest fs line k outline rest below = by (finish_join (fragment_at fs k)) refl
  where
    by : (t : Join) → finish_join (fragment_at fs k) ≡ t → (jog fs line k).from ≡ (jog fs line k).to
    by (Cut j) e =
        let met = outline.cut k j below e in
        let lines_same : line k ≡ line j = rest k ∙ sym met.3 ∙ sym (rest j) in
        ap (λ (p : Piece). p.from) (jog_at_cut fs line k j outline below e)
        ∙ ap (λ l. placed (stands fs k) l (finish_place (fragment_at fs k))) lines_same
        ∙ sym (ap (λ (p : Piece). p.to) (jog_at_cut fs line k j outline below e))
    by (Corner j) e = jog_at_corner fs line k j outline below e

pub finish_at_rest : (fs : List Fragment) (line : ℕ → ℤ) (k : ℕ) → IsOutline fs → AtRest fs line → k < length fs
    → end_at line (finish_join (fragment_at fs k)) (finish_place (fragment_at fs k)) ≡ finish_place (fragment_at fs k)
finish_at_rest fs line k outline rest below = by (finish_join (fragment_at fs k)) refl
  where
    by : (t : Join) → finish_join (fragment_at fs k) ≡ t → end_at line t (finish_place (fragment_at fs k)) ≡ finish_place (fragment_at fs k)
    by (Cut j) e = refl
    by (Corner j) e = rest j ∙ sym (outline.corner k j below e).2

pub start_at_rest : (fs : List Fragment) (line : ℕ → ℤ) (k : ℕ) → IsOutline fs → AtRest fs line → k < length fs
    → end_at line (start_join (fragment_at fs k)) (start_place (fragment_at fs k)) ≡ start_place (fragment_at fs k)
start_at_rest fs line k outline rest below = by (start_join (fragment_at fs k)) refl
  where
    by : (t : Join) → start_join (fragment_at fs k) ≡ t → end_at line t (start_place (fragment_at fs k)) ≡ start_place (fragment_at fs k)
    by (Cut j) e = refl
    by (Corner j) e =
        let back : finish_join (fragment_at fs j) ≡ Corner k = start_corner_back fs k j outline below e in
        let inside : j < length fs = subst (λ m. m < length fs) (ap joined e) (outline.previous_in k below) in
        rest j ∙ sym (outline.corner j k inside back).3

-- what a fragment at rest counts on the left side of a pixel
rest_count : Fragment → ℤ → ℤ → ℤ
rest_count f x y =
    if is_vertical f.side then (if int_eq f.edge x then step (finish_place f) y -ℤ step (start_place f) y else pos 0) else pos 0

side_count-at_rest : (fs : List Fragment) (line : ℕ → ℤ) (k : ℕ) (x y : ℤ) → IsOutline fs → AtRest fs line → k < length fs
    → side_count (vertical_piece fs line k) x y ≡ rest_count (fragment_at fs k) x y
unfolding start finish rest_count
side_count-at_rest fs line k x y outline rest below = by (stands fs k) refl
  where
    by : (s : Bool) → stands fs k ≡ s → side_count (if s then own_piece fs line k else jog fs line k) x y
        ≡ (if s then (if int_eq (fragment_at fs k).edge x then step (finish_place (fragment_at fs k)) y -ℤ step (start_place (fragment_at fs k)) y else pos 0) else pos 0)
    by true e =
        ap (λ p. side_count (record { from = p; to = finish fs line k }) x y) (start_is fs line k true _ _ e refl refl)
        ∙ ap (λ p. side_count (record { from = record { x = line k; y = end_at line (start_join (fragment_at fs k)) (start_place (fragment_at fs k)) }; to = p }) x y)
        (finish_is fs line k true _ _ e refl refl)
        ∙ ap (λ l. if int_eq l x then step (end_at line (finish_join (fragment_at fs k)) (finish_place (fragment_at fs k))) y
        -ℤ step (end_at line (start_join (fragment_at fs k)) (start_place (fragment_at fs k))) y else pos 0) (rest k)
        ∙ ap (λ l. if int_eq (fragment_at fs k).edge x then step l y
        -ℤ step (end_at line (start_join (fragment_at fs k)) (start_place (fragment_at fs k))) y else pos 0) (finish_at_rest fs line k outline rest below)
        ∙ ap (λ l. if int_eq (fragment_at fs k).edge x then step (finish_place (fragment_at fs k)) y -ℤ step l y else pos 0) (start_at_rest fs line k outline rest below)
    by false e = no_length_counts (jog fs line k) x y (jog_at_rest fs line k outline rest below)

-- ---- one side of a pixel

abbrev value : Bool → ℤ
value b = if b then pos 1 else pos 0

abbrev rest_of : Side → ℤ → ℤ → ℤ → ℤ → ℤ → ℤ
rest_of side edge lo hi x y =
    if is_vertical side
    then (if int_eq edge x then step (if is_rising side then hi else lo) y -ℤ step (if is_rising side then lo else hi) y else pos 0)
    else pos 0

band_count : (edge lo hi x y : ℤ) (p q r : Bool) → int_eq edge x ≡ p → int_le lo y ≡ q → int_le hi y ≡ r → edge ≡ x → lo ≤ℤ y → y <ℤ hi
    → ((if p then value q -ℤ value r else pos 0) ≡ pos 1) × ((if p then value r -ℤ value q else pos 0) ≡ negsuc 0)
band_count edge lo hi x y false q r e f g at low high = absurd (int_eq-false edge x e at)
band_count edge lo hi x y true true true e f g at low high = absurd (omega (arith, ints))
band_count edge lo hi x y true true false e f g at low high = (refl, refl)
band_count edge lo hi x y true false r e f g at low high = absurd (omega (arith, ints))

rest_of_lies : (side : Side) (edge lo hi x y : ℤ) → is_vertical side ≡ true → edge ≡ x → lo ≤ℤ y → y <ℤ hi
    → rest_of side edge lo hi x y ≡ (if opens side then pos 1 else negsuc 0)
rest_of_lies Left edge lo hi x y up at low high = (band_count edge lo hi x y (int_eq edge x) (int_le lo y) (int_le hi y) refl refl refl at low high).0
rest_of_lies Right edge lo hi x y up at low high = (band_count edge lo hi x y (int_eq edge x) (int_le lo y) (int_le hi y) refl refl refl at low high).1
rest_of_lies Down edge lo hi x y up at low high = absurd (cc up)
rest_of_lies Up edge lo hi x y up at low high = absurd (cc up)

band_empty : (edge lo hi x y : ℤ) (p q r : Bool) → int_eq edge x ≡ p → int_le lo y ≡ q → int_le hi y ≡ r → lo <ℤ hi
    → ¬ ((edge ≡ x) × (lo ≤ℤ y) × (y <ℤ hi))
    → ((if p then value q -ℤ value r else pos 0) ≡ pos 0) × ((if p then value r -ℤ value q else pos 0) ≡ pos 0)
band_empty edge lo hi x y false q r e f g some apart = (refl, refl)
band_empty edge lo hi x y true true true e f g some apart = (refl, refl)
band_empty edge lo hi x y true true false e f g some apart = absurd (apart ((Decides-int_eq edge x).0 e, omega (arith, ints), omega (arith, ints)))
band_empty edge lo hi x y true false true e f g some apart = absurd (omega (arith, ints))
band_empty edge lo hi x y true false false e f g some apart = (refl, refl)

rest_of_apart : (side : Side) (edge lo hi x y : ℤ) → lo <ℤ hi → ¬ ((is_vertical side ≡ true) × (edge ≡ x) × (lo ≤ℤ y) × (y <ℤ hi))
    → rest_of side edge lo hi x y ≡ pos 0
rest_of_apart Left edge lo hi x y some apart =
    (band_empty edge lo hi x y (int_eq edge x) (int_le lo y) (int_le hi y) refl refl refl some (λ h. apart (refl, h.0, h.1, h.2))).0
rest_of_apart Right edge lo hi x y some apart =
    (band_empty edge lo hi x y (int_eq edge x) (int_le lo y) (int_le hi y) refl refl refl some (λ h. apart (refl, h.0, h.1, h.2))).1
rest_of_apart Down edge lo hi x y some apart = refl
rest_of_apart Up edge lo hi x y some apart = refl

-- the fragments on a side make up the change of the target there
side_total : (inside : ℤ → ℤ → Bool) (fs : List Fragment) (x y : ℤ) → IsBoundary inside fs
    → total (length fs) (λ k. rest_count (fragment_at fs k) x y) ≡ value (inside x y) -ℤ value (inside (x -ℤ pos 1) y)
unfolding rest_count
side_total inside fs x y boundary = by (inside x y) (inside (x -ℤ pos 1) y) refl refl
  where
    apart : (k : ℕ) → k < length fs → ¬ LiesLeftOf (fragment_at fs k) x y
        → rest_of (fragment_at fs k).side (fragment_at fs k).edge (fragment_at fs k).lo (fragment_at fs k).hi x y ≡ pos 0
    apart k below none =
        rest_of_apart (fragment_at fs k).side (fragment_at fs k).edge (fragment_at fs k).lo (fragment_at fs k).hi x y (boundary.some k below) none

    none_here : inside x y ≡ inside (x -ℤ pos 1) y
        → total (length fs) (λ k. rest_of (fragment_at fs k).side (fragment_at fs k).edge (fragment_at fs k).lo (fragment_at fs k).hi x y) ≡ pos 0
    none_here same = total-zero (length fs) _ (λ k below. apart k below (λ lies.
        let faces = boundary.upright k x y below lies in
        not_its_own (opens (fragment_at fs k).side) (sym faces.0 ∙ same ∙ faces.1)))
      where
        not_its_own : (b : Bool) → b ≢ not b
        not_its_own true e = cc
        not_its_own false e = cc

    one_here : inside x y ≢ inside (x -ℤ pos 1) y
        → total (length fs) (λ k. rest_of (fragment_at fs k).side (fragment_at fs k).edge (fragment_at fs k).lo (fragment_at fs k).hi x y)
        ≡ value (inside x y) -ℤ value (inside (x -ℤ pos 1) y)
    one_here changes =
        let found = boundary.upright_all x y changes in
        let k = found.0 in
        let lies : LiesLeftOf (fragment_at fs k) x y = found.2 in
        let faces = boundary.upright k x y found.1 lies in
        let f : ℕ → ℤ = λ j. rest_of (fragment_at fs j).side (fragment_at fs j).edge (fragment_at fs j).lo (fragment_at fs j).hi x y in
        let alone : total (length fs) f ≡ total (length fs) (λ j. pos 0) +ℤ (f k -ℤ pos 0) =
        total-one (length fs) f (λ j. pos 0) k found.1 (λ j below other. apart j below (λ too. other (boundary.upright_once j k x y below found.1 too lies))) in
        let none : total (length fs) (λ j. pos 0) ≡ pos 0 = total-zero (length fs) (λ j. pos 0) (λ j h. refl) in
        let here : f k ≡ (if opens (fragment_at fs k).side then pos 1 else negsuc 0) =
        rest_of_lies (fragment_at fs k).side (fragment_at fs k).edge (fragment_at fs k).lo (fragment_at fs k).hi x y lies.0 lies.1 lies.2 lies.3 in
        let all : total (length fs) f ≡ f k = omega (arith, ints) in
        all ∙ here ∙ difference (opens (fragment_at fs k).side) ∙ ap (λ b. value b -ℤ value (not (opens (fragment_at fs k).side))) (sym faces.0)
        ∙ ap (λ b. value (inside x y) -ℤ value b) (sym faces.1)
      where
        difference : (b : Bool) → (if b then pos 1 else negsuc 0) ≡ value b -ℤ value (not b)
        difference true = refl
        difference false = refl

    by : (a b : Bool) → inside x y ≡ a → inside (x -ℤ pos 1) y ≡ b
        → total (length fs) (λ k. rest_of (fragment_at fs k).side (fragment_at fs k).edge (fragment_at fs k).lo (fragment_at fs k).hi x y)
        ≡ value (inside x y) -ℤ value (inside (x -ℤ pos 1) y)
    by true true e f = none_here (e ∙ sym f) ∙ ap (λ b. value b -ℤ pos 1) (sym e) ∙ ap (λ b. value (inside x y) -ℤ value b) (sym f)
    by true false e f = one_here (λ same. true_apart (sym e ∙ same ∙ f))
      where
        true_apart : true ≢ false
        true_apart h = cc
    by false true e f = one_here (λ same. false_apart (sym e ∙ same ∙ f))
      where
        false_apart : false ≢ true
        false_apart h = cc
    by false false e f = none_here (e ∙ sym f) ∙ ap (λ b. value b -ℤ pos 0) (sym e) ∙ ap (λ b. value (inside x y) -ℤ value b) (sym f)

-- the count changes from pixel to pixel as the target does
rest-step : (inside : ℤ → ℤ → Bool) (fs : List Fragment) (line : ℕ → ℤ) (x y : ℤ) → IsOutline fs → AtRest fs line → IsBoundary inside fs
    → count fs line x y ≡ count fs line (x -ℤ pos 1) y +ℤ (value (inside x y) -ℤ value (inside (x -ℤ pos 1) y))
rest-step inside fs line x y outline rest boundary =
    count-step fs line x y
    ∙ ap (λ t. count fs line (x -ℤ pos 1) y +ℤ t)
    (total-equal (length fs) (λ k. side_count (vertical_piece fs line k) x y) (λ k. rest_count (fragment_at fs k) x y)
    (λ k below. side_count-at_rest fs line k x y outline rest below)
    ∙ side_total inside fs x y boundary)

-- ---- from the left of all fragments on

own_crosses_none : (fs : List Fragment) (line : ℕ → ℤ) (low x y : ℤ) (k : ℕ) → AtRest fs line → x ≤ℤ low → low <ℤ (fragment_at fs k).edge
    → stands fs k ≡ true → crossing (own_piece fs line k) x y ≡ pos 0
unfolding crossing
own_crosses_none fs line low x y k rest left right up =
    by (int_le (start fs line k).x x) refl
  where
    at : (start fs line k).x ≡ (fragment_at fs k).edge
    at = ap (λ (p : Point). p.x) (start_is fs line k true _ _ up refl refl) ∙ rest k

    by : (t : Bool) → int_le (start fs line k).x x ≡ t → (if t then step (finish fs line k).y y -ℤ step (start fs line k).y y else pos 0) ≡ pos 0
    by true e = absurd (let here = at in omega (arith, ints))
    by false e = refl

no_length_crosses_none : (piece : Piece) (x y : ℤ) → piece.from ≡ piece.to → crossing piece x y ≡ pos 0
unfolding crossing
no_length_crosses_none piece x y none =
    ap (λ (p : Point). if int_le piece.from.x x then step p.y y -ℤ step piece.from.y y else pos 0) (sym none)
    ∙ by (int_le piece.from.x x) (step piece.from.y y)
  where
    by : (t : Bool) (z : ℤ) → (if t then z -ℤ z else pos 0) ≡ pos 0
    by true z = omega (arith, ints)
    by false z = refl

count-left_of_all : (fs : List Fragment) (line : ℕ → ℤ) (low x y : ℤ) → IsOutline fs → AtRest fs line
    → ((k : ℕ) → k < length fs → low <ℤ (fragment_at fs k).edge ⊎ (stands fs k ≡ false)) → x ≤ℤ low → count fs line x y ≡ pos 0
unfolding count
count-left_of_all fs line low x y outline rest right_of left =
    total-zero (length fs) (λ k. crossing (vertical_piece fs line k) x y) (λ k below. by k below (stands fs k) refl)
  where
    by : (k : ℕ) → k < length fs → (s : Bool) → stands fs k ≡ s → crossing (if s then own_piece fs line k else jog fs line k) x y ≡ pos 0
    by k below true e = elim (right_of k below) [
      | inl right ↦ own_crosses_none fs line low x y k rest left right e
      | inr flat ↦ absurd (false_true (sym flat ∙ e))
    ]
      where
        false_true : false ≢ true
        false_true h = cc
    by k below false e = no_length_crosses_none (jog fs line k) x y (jog_at_rest fs line k outline rest below)

-- Where no fragment has moved, the count of a pixel is 1 inside the target and 0 outside.
pub count-at_rest : (inside : ℤ → ℤ → Bool) (fs : List Fragment) (line : ℕ → ℤ) (low x y : ℤ)
    → IsOutline fs → AtRest fs line → IsBoundary inside fs
    → ((k : ℕ) → k < length fs → low <ℤ (fragment_at fs k).edge ⊎ (stands fs k ≡ false))
    → ((x y : ℤ) → x ≤ℤ low → inside x y ≡ false)
    → count fs line x y ≡ (if inside x y then pos 1 else pos 0)
count-at_rest inside fs line low x y outline rest boundary right_of outside_left = by (int_le x low) refl
  where
    left_of : (x : ℤ) → x ≤ℤ low → count fs line x y ≡ value (inside x y)
    left_of x h =
        count-left_of_all fs line low x y outline rest right_of h ∙ ap value (sym (outside_left x y h))

    onward : (n : ℕ) (x : ℤ) → x ≡ low +ℤ pos n → count fs line x y ≡ value (inside x y)
    onward zero x e = left_of x (omega (arith, ints))
    onward (suc n) x e =
        let before : count fs line (x -ℤ pos 1) y ≡ value (inside (x -ℤ pos 1) y) = onward n (x -ℤ pos 1) (omega (arith, ints)) in
        let next_is = rest-step inside fs line x y outline rest boundary in
        omega (arith, ints)

    right : (z : ℤ) → x -ℤ low ≡ z → low ≤ℤ x → count fs line x y ≡ value (inside x y)
    right (pos n) e h = onward n x (omega (arith, ints))
    right (negsuc n) e h = absurd (omega (arith, ints))

    by : (t : Bool) → int_le x low ≡ t → count fs line x y ≡ value (inside x y)
    by true e = left_of x (omega (arith, ints))
    by false e = right (x -ℤ low) refl (omega (arith, ints))

pub mask-at_rest : (inside : ℤ → ℤ → Bool) (fs : List Fragment) (line : ℕ → ℤ) (low x y : ℤ)
    → IsOutline fs → AtRest fs line → IsBoundary inside fs
    → ((k : ℕ) → k < length fs → low <ℤ (fragment_at fs k).edge ⊎ (stands fs k ≡ false))
    → ((x y : ℤ) → x ≤ℤ low → inside x y ≡ false)
    → mask fs line x y ≡ inside x y
mask-at_rest inside fs line low x y outline rest boundary right_of outside_left =
    ap (λ c. int_eq c (pos 1)) (count-at_rest inside fs line low x y outline rest boundary right_of outside_left) ∙ by (inside x y)
  where
    by : (b : Bool) → int_eq (if b then pos 1 else pos 0) (pos 1) ≡ b
    by true = refl
    by false = refl

-- ---- a region

within_limit : (z : ℤ) → unsigned_abs z ≤ 1048000 → negsuc 1047999 ≤ℤ z
within_limit (pos n) h = omega (arith, ints)
within_limit (negsuc n) h = omega (arith, ints)

left_of_rect : (r : Rect) (x y : ℤ) → IsRectWithin 1048000 r → x <ℤ negsuc 1047999 → rect_cover r x y ≡ false
left_of_rect r x y within far = by (int_le r.x0 x) refl
  where
    by : (t : Bool) → int_le r.x0 x ≡ t → ((t && int_lt x r.x1) && int_le r.y0 y) && int_lt y r.y1 ≡ false
    by true e = absurd (let a = within_limit r.x0 within.0 in omega (arith, ints))
    by false e = refl

left_of_region : (rs : List Rect) (x y : ℤ) → All (IsRectWithin 1048000) rs → x <ℤ negsuc 1047999 → cover rs x y ≡ false
left_of_region [] x y within far = refl
left_of_region (r ∷ rs) x y within far =
    ap (λ t. t || cover rs x y) (left_of_rect r x y (within 0 r (omega arith)) far)
    ∙ left_of_region rs x y (λ k d below. within (suc k) d (omega arith)) far

-- a region, its fragments, and lines that have not moved
pub record IsUnmoved (rects : List Rect) (fs : List Fragment) (offsets : List ℤ) : Type 0 where
  pub canonical : AreCanonical rects
  pub within : All (IsRectWithin 1048000) rects
  pub list : IsFragmentList fs
  pub boundary : IsBoundary (cover rects) fs
  pub zero : (k : ℕ) → get_or offsets k (pos 0) ≡ pos 0

pub unmoved_count : (rects : List Rect) (fs : List Fragment) (offsets : List ℤ) (x y : ℤ) → IsUnmoved rects fs offsets
    → count fs (lines fs offsets) x y ≡ (if cover rects x y then pos 1 else pos 0)
unmoved_count rects fs offsets x y unmoved =
    count-at_rest (cover rects) fs (lines fs offsets) (negsuc 1048000) x y unmoved.list.outline (at_rest_without_offsets fs offsets unmoved.zero) unmoved.boundary
    (λ k below. inl (let e = unmoved.list.edge_within k below in let l = e.0 in omega (arith, ints)))
    (λ a b left. left_of_region rects a b unmoved.within (omega (arith, ints)))

-- Where no fragment has moved, the mask is the region.
pub unmoved_mask : (rects : List Rect) (fs : List Fragment) (offsets : List ℤ) (x y : ℤ) → IsUnmoved rects fs offsets
    → mask fs (lines fs offsets) x y ≡ cover rects x y
unmoved_mask rects fs offsets x y unmoved =
    mask-at_rest (cover rects) fs (lines fs offsets) (negsuc 1048000) x y unmoved.list.outline (at_rest_without_offsets fs offsets unmoved.zero) unmoved.boundary
    (λ k below. inl (let e = unmoved.list.edge_within k below in let l = e.0 in omega (arith, ints)))
    (λ a b left. left_of_region rects a b unmoved.within (omega (arith, ints)))

pub get_or-zeros : (n k : ℕ) → get_or (replicate n (pos 0)) k (pos 0) ≡ pos 0
get_or-zeros zero k = refl
get_or-zeros (suc n) zero = refl
get_or-zeros (suc n) (suc k) = get_or-zeros n k

-- the ends of a fragment that has not moved are its places on the target
pub unmoved_ends : (fs : List Fragment) (line : ℕ → ℤ) (k : ℕ) → IsFragmentList fs → AtRest fs line → k < length fs
    → (low_end fs line k ≡ (fragment_at fs k).lo) × (high_end fs line k ≡ (fragment_at fs k).hi)
unmoved_ends fs line k list rest below = by (is_rising (side_of fs k)) refl
  where
    by : (r : Bool) → is_rising (side_of fs k) ≡ r → (low_end fs line k ≡ (fragment_at fs k).lo) × (high_end fs line k ≡ (fragment_at fs k).hi)
    by true e = (
      subst (λ (r : Bool). end_at line (if r then (fragment_at fs k).low else (fragment_at fs k).high) (if r then (fragment_at fs k).lo else (fragment_at fs k).hi) ≡ (if r then (fragment_at fs k).lo else (fragment_at fs k).hi)) e (start_at_rest fs line k list.outline rest below),
      subst (λ (r : Bool). end_at line (if r then (fragment_at fs k).high else (fragment_at fs k).low) (if r then (fragment_at fs k).hi else (fragment_at fs k).lo) ≡ (if r then (fragment_at fs k).hi else (fragment_at fs k).lo)) e (finish_at_rest fs line k list.outline rest below),
    )
    by false e = (
      subst (λ (r : Bool). end_at line (if r then (fragment_at fs k).high else (fragment_at fs k).low) (if r then (fragment_at fs k).hi else (fragment_at fs k).lo) ≡ (if r then (fragment_at fs k).hi else (fragment_at fs k).lo)) e (finish_at_rest fs line k list.outline rest below),
      subst (λ (r : Bool). end_at line (if r then (fragment_at fs k).low else (fragment_at fs k).high) (if r then (fragment_at fs k).lo else (fragment_at fs k).hi) ≡ (if r then (fragment_at fs k).lo else (fragment_at fs k).hi)) e (start_at_rest fs line k list.outline rest below),
    )

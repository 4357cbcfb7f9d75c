-- The signed corners of the vertical pieces count what the outline does.
use Rattle.std.proofs.Common.{◌≡◌, ℕ, zero, suc, ◌<◌, ℤ, pos, negsuc, ◌+ℤ◌, ◌-ℤ◌, ◌≤ℤ◌, int_le, Bool, true, false, ◌&&◌, if◌then◌else◌, List, [], ◌∷◌, ◌++◌, length, refl, sym, ap, ap₂, ◌∙◌, arith}
use Rattle.std.proofs.lemmas.Int.{ints}
use Rattle.opc_base.specs.Corners.{quadrant_sum}
use Rattle.opc_base.specs.Sums.{sum_each}
use Rattle.opc_base.specs.declared.plane.Corner.{Corner}
use Rattle.outline_model.specs.declared.fragment.Fragment.{Fragment}
use Rattle.outline_model.specs.declared.fragment.Join.{Join}
use Rattle.outline_model.specs.declared.fragment.Join.TheVariants.{Corner as Turn, Cut}
use Rattle.outline_model.specs.Outline.{IsOutline, Piece, Point, count, crossing, finish, finish_join, finish_place, fragment_at, horizontal_piece, jog, next, own_piece, start, step, total, vertical_piece}
use Rattle.outline_model.proofs.Moves.{count-vertical, flux-closed, flux_across}
use Rattle.outline_model.proofs.Totals.{total-zero}
use Rattle.outline_model.proofs.Walk.{finish_is, flux, jog_at_corner, jog_at_cut, placed, stands, start_is, weight}
use Rattle.outline_model.specs.PieceCorners.{outline_corners, piece_corners}

sum_each-append : {A : Type 0} (f : A → ℤ) (xs ys : List A) → sum_each f (xs ++ ys) ≡ sum_each f xs +ℤ sum_each f ys
unfolding sum_each
sum_each-append f [] ys = omega (arith, ints)
sum_each-append f (x ∷ xs) ys = omega (arith, ints, sum_each-append f xs ys)

share : (p q r : Bool) → (if p && q then pos 1 else pos 0) +ℤ ((if p && r then negsuc 0 else pos 0) +ℤ pos 0)
    ≡ (if p then (if q then pos 1 else pos 0) -ℤ (if r then pos 1 else pos 0) else pos 0)
share true true true = refl
share true true false = refl
share true false true = refl
share true false false = refl
share false q r = refl

piece_share : (piece : Piece) (x y : ℤ) → quadrant_sum (piece_corners piece) x y ≡ crossing piece x y
unfolding sum_each crossing
piece_share piece x y = share (int_le piece.from.x x) (int_le piece.to.y y) (int_le piece.from.y y)

pub first_corners : (fs : List Fragment) (line : ℕ → ℤ) (n : ℕ) (x y : ℤ) → quadrant_sum (outline_corners fs line n) x y ≡ total n (λ k. crossing (vertical_piece fs line k) x y)
unfolding sum_each
first_corners fs line zero x y = refl
first_corners fs line (suc n) x y =
    sum_each-append _ (outline_corners fs line n) (piece_corners (vertical_piece fs line n))
    ∙ ap₂ (λ a b. a +ℤ b) (first_corners fs line n x y) (piece_share (vertical_piece fs line n) x y)

-- the corners of all fragments add up to the count
pub corners_count : (fs : List Fragment) (line : ℕ → ℤ) (x y : ℤ) → quadrant_sum (outline_corners fs line (length fs)) x y ≡ count fs line x y
unfolding count
corners_count fs line x y = first_corners fs line (length fs) x y

-- ---- far from the outline
placed-y : (a b c : ℤ) (v : Bool) → v ≡ true → (placed v a c).y ≡ (placed v b c).y
placed-y a b c v e = rw e refl

-- a jog after a vertical fragment is horizontal, and so is a horizontal fragment
jog_is_level : (fs : List Fragment) (line : ℕ → ℤ) (k : ℕ) → IsOutline fs → k < length fs → stands fs k ≡ true → (jog fs line k).from.y ≡ (jog fs line k).to.y
jog_is_level fs line k outline below upright = by (finish_join (fragment_at fs k)) refl
  where
    by : (t : Join) → finish_join (fragment_at fs k) ≡ t → (jog fs line k).from.y ≡ (jog fs line k).to.y
    by (Cut j) e =
        let at_cut = jog_at_cut fs line k j outline below e in
        ap (λ (p : Piece). p.from.y) at_cut ∙ placed-y (line k) (line j) (finish_place (fragment_at fs k)) (stands fs k) upright ∙ sym (ap (λ (p : Piece). p.to.y) at_cut)
    by (Turn j) e = ap (λ (p : Point). p.y) (jog_at_corner fs line k j outline below e)

own_is_level : (fs : List Fragment) (line : ℕ → ℤ) (k : ℕ) → stands fs k ≡ false → (own_piece fs line k).from.y ≡ (own_piece fs line k).to.y
own_is_level fs line k lies =
    ap (λ (p : Point). p.y) (start_is fs line k _ _ _ lies refl refl) ∙ sym (ap (λ (p : Point). p.y) (finish_is fs line k _ _ _ lies refl refl))

horizontal_is_level : (fs : List Fragment) (line : ℕ → ℤ) (k : ℕ) → IsOutline fs → k < length fs → (horizontal_piece fs line k).from.y ≡ (horizontal_piece fs line k).to.y
horizontal_is_level fs line k outline below = by (stands fs k) refl
  where
    by : (t : Bool) → stands fs k ≡ t → (if t then jog fs line k else own_piece fs line k).from.y ≡ (if t then jog fs line k else own_piece fs line k).to.y
    by true e = jog_is_level fs line k outline below e
    by false e = own_is_level fs line k e

-- no point of the outline is as far as this
pub record AreBefore (fs : List Fragment) (line : ℕ → ℤ) (most : ℤ) : Type 0 where
  pub start_x : (k : ℕ) → k < length fs → (start fs line k).x ≤ℤ most
  pub start_y : (k : ℕ) → k < length fs → (start fs line k).y ≤ℤ most
  pub finish_x : (k : ℕ) → k < length fs → (finish fs line k).x ≤ℤ most
  pub finish_y : (k : ℕ) → k < length fs → (finish fs line k).y ≤ℤ most

weight_right : (p : Point) (x y : ℤ) → p.x ≤ℤ x → weight p x y ≡ step p.y y
weight_right p x y right = by (int_le p.x x) refl
  where
    by : (b : Bool) → int_le p.x x ≡ b → (if b then step p.y y else pos 0) ≡ step p.y y
    by true e = refl
    by false e = absurd (omega (arith, ints))

same_less : (z : ℤ) → z -ℤ z ≡ pos 0
same_less z = omega (arith, ints)

level_far : (piece : Piece) (x y : ℤ) → piece.from.y ≡ piece.to.y → piece.from.x ≤ℤ x → piece.to.x ≤ℤ x → flux piece x y ≡ pos 0
level_far piece x y level from to =
    rw (weight_right piece.to x y to, weight_right piece.from x y from, level) (same_less (step piece.to.y y))

horizontal_before : (fs : List Fragment) (line : ℕ → ℤ) (most : ℤ) (k : ℕ) → IsOutline fs → k < length fs → AreBefore fs line most →
    ((horizontal_piece fs line k).from.x ≤ℤ most) × ((horizontal_piece fs line k).to.x ≤ℤ most)
horizontal_before fs line most k outline below before = by (stands fs k)
  where
    by : (t : Bool) → ((if t then jog fs line k else own_piece fs line k).from.x ≤ℤ most) × ((if t then jog fs line k else own_piece fs line k).to.x ≤ℤ most)
    by true = (before.finish_x k below, before.start_x (next fs k) (outline.next_in k below))
    by false = (before.start_x k below, before.finish_x k below)

-- to the right of all points nothing is counted
pub count-right : (fs : List Fragment) (line : ℕ → ℤ) (most x y : ℤ) → IsOutline fs → AreBefore fs line most → most ≤ℤ x → count fs line x y ≡ pos 0
unfolding flux_across
count-right fs line most x y outline before far =
    let none : flux_across fs line x y ≡ pos 0 = total-zero (length fs) _ (λ k below.
    let within = horizontal_before fs line most k outline below before in
    level_far (horizontal_piece fs line k) x y (horizontal_is_level fs line k outline below) (omega (arith, ints, within.0)) (omega (arith, ints, within.1))) in
    omega (arith, ints, count-vertical fs line x y outline, flux-closed fs line x y outline, none)

vertical_before : (fs : List Fragment) (line : ℕ → ℤ) (most : ℤ) (k : ℕ) → IsOutline fs → k < length fs → AreBefore fs line most →
    ((vertical_piece fs line k).from.y ≤ℤ most) × ((vertical_piece fs line k).to.y ≤ℤ most)
vertical_before fs line most k outline below before = by (stands fs k)
  where
    by : (t : Bool) → ((if t then own_piece fs line k else jog fs line k).from.y ≤ℤ most) × ((if t then own_piece fs line k else jog fs line k).to.y ≤ℤ most)
    by true = (before.start_y k below, before.finish_y k below)
    by false = (before.finish_y k below, before.start_y (next fs k) (outline.next_in k below))

step_far : (a y : ℤ) → a ≤ℤ y → step a y ≡ pos 1
step_far a y above = by (int_le a y) refl
  where
    by : (b : Bool) → int_le a y ≡ b → (if b then pos 1 else pos 0) ≡ pos 1
    by true e = refl
    by false e = absurd (omega (arith, ints))

crossing_above : (piece : Piece) (x y : ℤ) → piece.from.y ≤ℤ y → piece.to.y ≤ℤ y → crossing piece x y ≡ pos 0
unfolding crossing
crossing_above piece x y from to = rw (step_far piece.to.y y to, step_far piece.from.y y from) (by (int_le piece.from.x x))
  where
    by : (b : Bool) → (if b then pos 1 -ℤ pos 1 else pos 0) ≡ pos 0
    by true = refl
    by false = refl

-- and so above all points
pub count-above : (fs : List Fragment) (line : ℕ → ℤ) (most x y : ℤ) → IsOutline fs → AreBefore fs line most → most ≤ℤ y → count fs line x y ≡ pos 0
unfolding count
count-above fs line most x y outline before far = total-zero (length fs) _ (λ k below.
    let within = vertical_before fs line most k outline below before in
    crossing_above (vertical_piece fs line k) x y (omega (arith, ints, within.0)) (omega (arith, ints, within.1)))

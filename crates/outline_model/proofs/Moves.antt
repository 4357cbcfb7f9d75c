-- The move of one fragment: what it does to the count of a pixel.
use Rattle.std.proofs.Common.{◌≡◌, ◌≢◌, ℕ, ◌<◌, ℤ, pos, ◌+ℤ◌, ◌-ℤ◌, Bool, true, false, not, if◌then◌else◌, List, length, refl, sym, ◌∙◌, ap, arith}
use Rattle.std.proofs.lemmas.Int.{ints}
use Rattle.outline_model.specs.declared.fragment.Join.{Join}
use Rattle.outline_model.specs.declared.fragment.Join.TheVariants.{Cut, Corner}
use Rattle.outline_model.specs.declared.fragment.Fragment.{Fragment}
use Rattle.outline_model.specs.Outline.{Point, Piece, IsOutline, fragment_at, is_vertical, end_at, start_join, start_place, finish_join, finish_place, joined, next, previous, start, finish, own_piece, jog, vertical_piece, horizontal_piece, crossing, total, count, DiffersOnlyAt}
use Rattle.outline_model.proofs.Walk.{placed, stands, weight, flux, crossing-vertical, start_corner, previous_of_next, start_is, finish_is, jog_at_cut, jog_at_corner}
use Rattle.outline_model.proofs.Totals.{total-equal, total-add, total-sub, total-one, total-permuted}

-- ---- the count by either kind of piece

pub sub-same : (a : ℤ) → a -ℤ a ≡ pos 0
sub-same a = omega (arith, ints)

placed-x : (a b c : ℤ) (v : Bool) → v ≡ false → (placed v a c).x ≡ (placed v b c).x
placed-x a b c v e = rw e refl

-- a jog after a horizontal fragment is vertical
jog_is_vertical : (fs : List Fragment) (line : ℕ → ℤ) (k : ℕ) → IsOutline fs → k < length fs → stands fs k ≡ false
    → (jog fs line k).from.x ≡ (jog fs line k).to.x
jog_is_vertical fs line k outline below lies = by (finish_join (fragment_at fs k)) refl
  where
    by : (t : Join) → finish_join (fragment_at fs k) ≡ t → (jog fs line k).from.x ≡ (jog fs line k).to.x
    by (Cut j) e =
        let at_cut = jog_at_cut fs line k j outline below e in
        ap (λ (p : Piece). p.from.x) at_cut
        ∙ placed-x (line k) (line j) (finish_place (fragment_at fs k)) (stands fs k) lies
        ∙ sym (ap (λ (p : Piece). p.to.x) at_cut)
    by (Corner j) e = ap (λ (p : Point). p.x) (jog_at_corner fs line k j outline below e)

-- a vertical fragment is vertical
own_is_vertical : (fs : List Fragment) (line : ℕ → ℤ) (k : ℕ) → stands fs k ≡ true
    → (own_piece fs line k).from.x ≡ (own_piece fs line k).to.x
own_is_vertical fs line k stands_up =
    ap (λ (p : Point). p.x) (start_is fs line k _ _ _ stands_up refl refl)
    ∙ sym (ap (λ (p : Point). p.x) (finish_is fs line k _ _ _ stands_up refl refl))

vertical_crossing : (fs : List Fragment) (line : ℕ → ℤ) (x y : ℤ) (k : ℕ) → IsOutline fs → k < length fs
    → crossing (vertical_piece fs line k) x y ≡ flux (vertical_piece fs line k) x y
vertical_crossing fs line x y k outline below = by (stands fs k) refl
  where
    by : (t : Bool) → stands fs k ≡ t
        → crossing (if t then own_piece fs line k else jog fs line k) x y ≡ flux (if t then own_piece fs line k else jog fs line k) x y
    by true e = crossing-vertical (own_piece fs line k) x y (own_is_vertical fs line k e)
    by false e = crossing-vertical (jog fs line k) x y (jog_is_vertical fs line k outline below e)

-- a fragment and the jog after it lead from its start to the start of the next one
both_pieces : (fs : List Fragment) (line : ℕ → ℤ) (x y : ℤ) (k : ℕ)
    → flux (vertical_piece fs line k) x y +ℤ flux (horizontal_piece fs line k) x y
    ≡ weight (start fs line (next fs k)) x y -ℤ weight (start fs line k) x y
both_pieces fs line x y k = by (stands fs k)
  where
    by : (t : Bool) → flux (if t then own_piece fs line k else jog fs line k) x y +ℤ flux (if t then jog fs line k else own_piece fs line k) x y
        ≡ weight (start fs line (next fs k)) x y -ℤ weight (start fs line k) x y
    by true = telescope (weight (start fs line k) x y) (weight (finish fs line k) x y) (weight (start fs line (next fs k)) x y)
      where
        telescope : (a b c : ℤ) → (b -ℤ a) +ℤ (c -ℤ b) ≡ c -ℤ a
        telescope a b c = omega (arith, ints)
    by false = telescope (weight (start fs line k) x y) (weight (finish fs line k) x y) (weight (start fs line (next fs k)) x y)
      where
        telescope : (a b c : ℤ) → (c -ℤ b) +ℤ (b -ℤ a) ≡ c -ℤ a
        telescope a b c = omega (arith, ints)

unfoldable pub flux_down : List Fragment → (ℕ → ℤ) → ℤ → ℤ → ℤ
flux_down fs line x y = total (length fs) (λ k. flux (vertical_piece fs line k) x y)

unfoldable pub flux_across : List Fragment → (ℕ → ℤ) → ℤ → ℤ → ℤ
flux_across fs line x y = total (length fs) (λ k. flux (horizontal_piece fs line k) x y)

pub count-vertical : (fs : List Fragment) (line : ℕ → ℤ) (x y : ℤ) → IsOutline fs → count fs line x y ≡ flux_down fs line x y
unfolding count flux_down
count-vertical fs line x y outline =
    total-equal (length fs) _ _ (λ k below. vertical_crossing fs line x y k outline below)

-- the walk closes, so the vertical and the horizontal pieces make up for one another
pub flux-closed : (fs : List Fragment) (line : ℕ → ℤ) (x y : ℤ) → IsOutline fs
    → flux_down fs line x y +ℤ flux_across fs line x y ≡ pos 0
unfolding flux_down flux_across
flux-closed fs line x y outline =
    let n = length fs in
    let here : ℕ → ℤ = λ k. weight (start fs line k) x y in
    sym (total-add n (λ k. flux (vertical_piece fs line k) x y) (λ k. flux (horizontal_piece fs line k) x y))
    ∙ total-equal n _ (λ k. here (next fs k) -ℤ here k) (λ k below. both_pieces fs line x y k)
    ∙ total-sub n (λ k. here (next fs k)) here
    ∙ ap (λ t. t -ℤ total n here)
    (total-permuted n here (next fs) (previous fs) outline.next_in (previous_of_next fs outline) outline.next_of_previous outline.previous_in)
    ∙ sub-same (total n here)

-- ---- two placements that differ at one fragment

-- an end of a fragment that is parallel to the moved one stays
end_at-same : (line line' : ℕ → ℤ) (i : ℕ) (join : Join) (place : ℤ) → DiffersOnlyAt i line line'
    → joined join ≢ i → end_at line' join place ≡ end_at line join place
end_at-same line line' i (Cut j) place others apart = refl
end_at-same line line' i (Corner j) place others apart = others j apart

turned_apart : (fs : List Fragment) (i j k : ℕ) → stands fs k ≡ stands fs i → stands fs j ≡ not (stands fs k) → j ≢ i
turned_apart fs i j k same turned e = not_itself (stands fs k) (sym turned ∙ ap (stands fs) e ∙ sym same)
  where
    not_itself : (b : Bool) → not b ≢ b
    not_itself true e = cc
    not_itself false e = cc

pub start_stays : (fs : List Fragment) (line line' : ℕ → ℤ) (i k : ℕ) → IsOutline fs → k < length fs → DiffersOnlyAt i line line'
    → stands fs k ≡ stands fs i
    → end_at line' (start_join (fragment_at fs k)) (start_place (fragment_at fs k))
    ≡ end_at line (start_join (fragment_at fs k)) (start_place (fragment_at fs k))
start_stays fs line line' i k outline below others same = by (start_join (fragment_at fs k)) refl
  where
    by : (t : Join) → start_join (fragment_at fs k) ≡ t
        → end_at line' t (start_place (fragment_at fs k)) ≡ end_at line t (start_place (fragment_at fs k))
    by (Cut j) e = refl
    by (Corner j) e = others j (turned_apart fs i j k same (start_corner fs k j outline below e))

pub finish_stays : (fs : List Fragment) (line line' : ℕ → ℤ) (i k : ℕ) → IsOutline fs → k < length fs → DiffersOnlyAt i line line'
    → stands fs k ≡ stands fs i
    → end_at line' (finish_join (fragment_at fs k)) (finish_place (fragment_at fs k))
    ≡ end_at line (finish_join (fragment_at fs k)) (finish_place (fragment_at fs k))
finish_stays fs line line' i k outline below others same = by (finish_join (fragment_at fs k)) refl
  where
    by : (t : Join) → finish_join (fragment_at fs k) ≡ t
        → end_at line' t (finish_place (fragment_at fs k)) ≡ end_at line t (finish_place (fragment_at fs k))
    by (Cut j) e = refl
    by (Corner j) e = others j (turned_apart fs i j k same (outline.corner k j below e).1)

-- a fragment that is parallel to the moved one stays
pub own_stays : (fs : List Fragment) (line line' : ℕ → ℤ) (i k : ℕ) → IsOutline fs → k < length fs → DiffersOnlyAt i line line'
    → stands fs k ≡ stands fs i → k ≢ i → own_piece fs line' k ≡ own_piece fs line k
unfolding start finish
own_stays fs line line' i k outline below others same apart =
    let lines_same = others k apart in
    let starts_same = start_stays fs line line' i k outline below others same in
    let finishes_same = finish_stays fs line line' i k outline below others same in
    ap (λ t. record {
      from = placed (stands fs k) t (end_at line' (start_join (fragment_at fs k)) (start_place (fragment_at fs k)));
      to = placed (stands fs k) t (end_at line' (finish_join (fragment_at fs k)) (finish_place (fragment_at fs k)));
    }) lines_same
    ∙ ap (λ t. record {
      from = placed (stands fs k) (line k) t;
      to = placed (stands fs k) (line k) (end_at line' (finish_join (fragment_at fs k)) (finish_place (fragment_at fs k)));
    }) starts_same
    ∙ ap (λ t. record {
      from = placed (stands fs k) (line k) (end_at line (start_join (fragment_at fs k)) (start_place (fragment_at fs k)));
      to = placed (stands fs k) (line k) t;
    }) finishes_same

-- a jog that is parallel to the moved fragment stays, or has no length before and after
jog_stays : (fs : List Fragment) (line line' : ℕ → ℤ) (i k : ℕ) (x y : ℤ) → IsOutline fs → k < length fs → DiffersOnlyAt i line line'
    → stands fs k ≡ not (stands fs i) → flux (jog fs line' k) x y ≡ flux (jog fs line k) x y
jog_stays fs line line' i k x y outline below others turned = by (finish_join (fragment_at fs k)) refl
  where
    itself : (b : Bool) → b ≢ not b
    itself true e = cc
    itself false e = cc

    not_moved : (m : ℕ) → stands fs m ≡ stands fs k → m ≢ i
    not_moved m same e = itself (stands fs i) (ap (stands fs) (sym e) ∙ same ∙ turned)

    by : (t : Join) → finish_join (fragment_at fs k) ≡ t → flux (jog fs line' k) x y ≡ flux (jog fs line k) x y
    by (Cut j) e =
        let met = outline.cut k j below e in
        let first : line' k ≡ line k = others k (not_moved k refl) in
        let second : line' j ≡ line j = others j (not_moved j (ap is_vertical met.1)) in
        ap (λ p. flux p x y) (jog_at_cut fs line' k j outline below e)
        ∙ ap (λ t. flux (record { from = placed (stands fs k) t (finish_place (fragment_at fs k)); to = placed (stands fs k) (line' j) (finish_place (fragment_at fs k)) }) x y) first
        ∙ ap (λ t. flux (record { from = placed (stands fs k) (line k) (finish_place (fragment_at fs k)); to = placed (stands fs k) t (finish_place (fragment_at fs k)) }) x y) second
        ∙ sym (ap (λ p. flux p x y) (jog_at_cut fs line k j outline below e))
    by (Corner j) e =
        let new : flux (jog fs line' k) x y ≡ pos 0 =
        ap (λ t. weight (start fs line' (next fs k)) x y -ℤ weight t x y) (jog_at_corner fs line' k j outline below e)
        ∙ sub-same (weight (start fs line' (next fs k)) x y) in
        let old : flux (jog fs line k) x y ≡ pos 0 =
        ap (λ t. weight (start fs line (next fs k)) x y -ℤ weight t x y) (jog_at_corner fs line k j outline below e)
        ∙ sub-same (weight (start fs line (next fs k)) x y) in
        new ∙ sym old

-- ---- the move

unfoldable pub own_change : List Fragment → (ℕ → ℤ) → (ℕ → ℤ) → ℕ → ℤ → ℤ → ℤ
own_change fs line line' i x y = flux (own_piece fs line' i) x y -ℤ flux (own_piece fs line i) x y

-- the pieces that are parallel to the moved fragment
flux_down-move : (fs : List Fragment) (line line' : ℕ → ℤ) (i : ℕ) (x y : ℤ) → IsOutline fs → i < length fs → DiffersOnlyAt i line line'
    → stands fs i ≡ true → flux_down fs line' x y ≡ flux_down fs line x y +ℤ own_change fs line line' i x y
unfolding flux_down own_change
flux_down-move fs line line' i x y outline below others up =
    total-one (length fs) (λ k. flux (vertical_piece fs line' k) x y) (λ k. flux (vertical_piece fs line k) x y) i below
    (λ k inside apart. by k inside apart (stands fs k) refl)
    ∙ ap (λ t. flux_down fs line x y +ℤ t) (here line' line (stands fs i) up)
  where
    by : (k : ℕ) → k < length fs → k ≢ i → (t : Bool) → stands fs k ≡ t
        → flux (if t then own_piece fs line' k else jog fs line' k) x y ≡ flux (if t then own_piece fs line k else jog fs line k) x y
    by k inside apart true e = ap (λ p. flux p x y) (own_stays fs line line' i k outline inside others (e ∙ sym up) apart)
    by k inside apart false e = jog_stays fs line line' i k x y outline inside others (e ∙ sym (ap not up))

    here : (a b : ℕ → ℤ) (t : Bool) → t ≡ true
        → flux (if t then own_piece fs a i else jog fs a i) x y -ℤ flux (if t then own_piece fs b i else jog fs b i) x y
        ≡ flux (own_piece fs a i) x y -ℤ flux (own_piece fs b i) x y
    here a b t e = rw e refl

flux_across-move : (fs : List Fragment) (line line' : ℕ → ℤ) (i : ℕ) (x y : ℤ) → IsOutline fs → i < length fs → DiffersOnlyAt i line line'
    → stands fs i ≡ false → flux_across fs line' x y ≡ flux_across fs line x y +ℤ own_change fs line line' i x y
unfolding flux_across own_change
flux_across-move fs line line' i x y outline below others flat =
    total-one (length fs) (λ k. flux (horizontal_piece fs line' k) x y) (λ k. flux (horizontal_piece fs line k) x y) i below
    (λ k inside apart. by k inside apart (stands fs k) refl)
    ∙ ap (λ t. flux_across fs line x y +ℤ t) (here line' line (stands fs i) flat)
  where
    by : (k : ℕ) → k < length fs → k ≢ i → (t : Bool) → stands fs k ≡ t
        → flux (if t then jog fs line' k else own_piece fs line' k) x y ≡ flux (if t then jog fs line k else own_piece fs line k) x y
    by k inside apart true e = jog_stays fs line line' i k x y outline inside others (e ∙ sym (ap not flat))
    by k inside apart false e = ap (λ p. flux p x y) (own_stays fs line line' i k outline inside others (e ∙ sym flat) apart)

    here : (a b : ℕ → ℤ) (t : Bool) → t ≡ false
        → flux (if t then jog fs a i else own_piece fs a i) x y -ℤ flux (if t then jog fs b i else own_piece fs b i) x y
        ≡ flux (own_piece fs a i) x y -ℤ flux (own_piece fs b i) x y
    here a b t e = rw e refl

-- A vertical fragment's move shows in its own piece; a horizontal one's shows, by the closed walk, in the rest.
pub count-move_vertical : (fs : List Fragment) (line line' : ℕ → ℤ) (i : ℕ) (x y : ℤ) → IsOutline fs → i < length fs → DiffersOnlyAt i line line'
    → stands fs i ≡ true → count fs line' x y ≡ count fs line x y +ℤ own_change fs line line' i x y
count-move_vertical fs line line' i x y outline below others up =
    count-vertical fs line' x y outline
    ∙ flux_down-move fs line line' i x y outline below others up
    ∙ ap (λ t. t +ℤ own_change fs line line' i x y) (sym (count-vertical fs line x y outline))

pub count-move_horizontal : (fs : List Fragment) (line line' : ℕ → ℤ) (i : ℕ) (x y : ℤ) → IsOutline fs → i < length fs → DiffersOnlyAt i line line'
    → stands fs i ≡ false → count fs line' x y ≡ count fs line x y -ℤ own_change fs line line' i x y
count-move_horizontal fs line line' i x y outline below others flat =
    let new = count-vertical fs line' x y outline in
    let old = count-vertical fs line x y outline in
    let new_closed = flux-closed fs line' x y outline in
    let old_closed = flux-closed fs line x y outline in
    let across = flux_across-move fs line line' i x y outline below others flat in
    omega (arith, ints)

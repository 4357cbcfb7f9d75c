-- The law of a move: the count of a pixel changes by the swept rectangle, and by nothing else.
use Rattle.std.proofs.Common.{◌≡◌, ℕ, ◌<◌, ℤ, pos, negsuc, neg_ℤ, ◌+ℤ◌, ◌-ℤ◌, ◌≤ℤ◌, Bool, true, false, ◌&&◌, if◌then◌else◌, List, length, get_or, set, get_or-set_other, get_or-set_same, int_le, int_lt, refl, sym, ◌∙◌, ap, subst, arith}
use Rattle.std.proofs.lemmas.Int.{ints}
use Rattle.std.specs.Int.{int_min, int_max}
use Rattle.opc_base.specs.declared.plane.Side.{Side}
use Rattle.opc_base.specs.declared.plane.Side.TheVariants.{Left, Right, Down, Up}
use Rattle.outline_model.specs.declared.fragment.Fragment.{Fragment}
use Rattle.opc_base.specs.declared.plane.Rect.{Rect}
use Rattle.outline_model.specs.Outline.{IsOutline, fragment_at, side_of, is_vertical, is_rising, end_at, start_join, start_place, finish_join, finish_place, start, finish, own_piece, low_end, high_end, step, count, rect_between, swept, outward, lines, is_outward, swept_count, DiffersOnlyAt}
use Rattle.opc_base.specs.Plane.{rect_cover}
use Rattle.outline_model.proofs.Pixels.{rect_cover-pairs}
use Rattle.outline_model.proofs.Walk.{placed, stands, flux}
use Rattle.outline_model.proofs.Moves.{sub-same, own_change, count-move_vertical, count-move_horizontal, start_stays, finish_stays}

-- ---- steps

band_cases : (a b t : ℤ) (p q r : Bool) → int_le a t ≡ p → int_le b t ≡ q → int_lt t b ≡ r → a ≤ℤ b
    → (if p then pos 1 else pos 0) -ℤ (if q then pos 1 else pos 0) ≡ (if p && r then pos 1 else pos 0)
band_cases a b t true true true e f g h = absurd (omega (arith, ints))
band_cases a b t true true false e f g h = refl
band_cases a b t true false true e f g h = refl
band_cases a b t true false false e f g h = absurd (omega (arith, ints))
band_cases a b t false true r e f g h = absurd (omega (arith, ints))
band_cases a b t false false r e f g h = refl

-- the numbers from a to below b
band : (a b t : ℤ) → a ≤ℤ b → step a t -ℤ step b t ≡ (if int_le a t && int_lt t b then pos 1 else pos 0)
band a b t h = band_cases a b t (int_le a t) (int_le b t) (int_lt t b) refl refl refl h

opposite : (c : Bool) (a b : ℤ) → a -ℤ b ≡ (if c then pos 1 else pos 0) → b -ℤ a ≡ (if c then negsuc 0 else pos 0)
opposite true a b e = omega (arith, ints)
opposite false a b e = omega (arith, ints)

none_between : (a b t : ℤ) → a ≡ b → int_le a t && int_lt t b ≡ false
none_between a b t e = by (int_le a t) (int_lt t b) refl refl
  where
    by : (p q : Bool) → int_le a t ≡ p → int_lt t b ≡ q → p && q ≡ false
    by true true f g = absurd (omega (arith, ints))
    by true false f g = refl
    by false q f g = refl

-- a step moved down or up
step-down : (a b t : ℤ) → step b t -ℤ step a t
    ≡ (if int_le (int_min a b) t && int_lt t (int_max a b) then (if int_lt b a then pos 1 else negsuc 0) else pos 0)
step-down a b t = by (int_lt b a) refl
  where
    by : (c : Bool) → int_lt b a ≡ c → step b t -ℤ step a t
        ≡ (if int_le (if c then b else a) t && int_lt t (if c then a else b) then (if c then pos 1 else negsuc 0) else pos 0)
    by true e = band b a t (omega (arith, ints))
    by false e = opposite (int_le a t && int_lt t b) (step a t) (step b t) (band a b t (omega (arith, ints)))

step-up : (a b t : ℤ) → step a t -ℤ step b t
    ≡ (if int_le (int_min a b) t && int_lt t (int_max a b) then (if int_lt a b then pos 1 else negsuc 0) else pos 0)
step-up a b t = by (int_lt b a) (int_lt a b) refl refl
  where
    by : (c d : Bool) → int_lt b a ≡ c → int_lt a b ≡ d → step a t -ℤ step b t
        ≡ (if int_le (if c then b else a) t && int_lt t (if c then a else b) then (if d then pos 1 else negsuc 0) else pos 0)
    by true true e f = absurd (omega (arith, ints))
    by true false e f = opposite (int_le b t && int_lt t a) (step b t) (step a t) (band b a t (omega (arith, ints)))
    by false true e f = band a b t (omega (arith, ints))
    by false false e f =
        let same : a ≡ b = omega (arith, ints) in
        ap (λ c. step a t -ℤ step c t) (sym same) ∙ sub-same (step a t)
        ∙ ap (λ c. if c then negsuc 0 else pos 0) (sym (none_between a b t same))

-- ---- a product of two steps

-- p and q are tests of x, u and w steps of y
upright : (p q c d : Bool) (u w sign : ℤ) → (if p then pos 1 else pos 0) -ℤ (if q then pos 1 else pos 0) ≡ (if c then sign else pos 0)
    → u -ℤ w ≡ (if d then pos 1 else pos 0)
    → ((if p then u else pos 0) -ℤ (if p then w else pos 0)) -ℤ ((if q then u else pos 0) -ℤ (if q then w else pos 0))
    ≡ (if c && d then sign else pos 0)
upright true true true true u w sign e f = omega (arith, ints)
upright true true true false u w sign e f = omega (arith, ints)
upright true true false d u w sign e f = omega (arith, ints)
upright true false true true u w sign e f = omega (arith, ints)
upright true false true false u w sign e f = omega (arith, ints)
upright true false false d u w sign e f = absurd (omega (arith, ints))
upright false true true true u w sign e f = omega (arith, ints)
upright false true true false u w sign e f = omega (arith, ints)
upright false true false d u w sign e f = absurd (omega (arith, ints))
upright false false true true u w sign e f = omega (arith, ints)
upright false false true false u w sign e f = omega (arith, ints)
upright false false false d u w sign e f = refl

level : (p q d c : Bool) (u w sign : ℤ) → (if p then pos 1 else pos 0) -ℤ (if q then pos 1 else pos 0) ≡ (if d then pos 1 else pos 0)
    → u -ℤ w ≡ (if c then sign else pos 0)
    → ((if p then u else pos 0) -ℤ (if q then u else pos 0)) -ℤ ((if p then w else pos 0) -ℤ (if q then w else pos 0))
    ≡ (if d && c then sign else pos 0)
level true true true c u w sign e f = absurd (omega (arith, ints))
level true true false c u w sign e f = omega (arith, ints)
level true false true true u w sign e f = omega (arith, ints)
level true false true false u w sign e f = omega (arith, ints)
level true false false c u w sign e f = absurd (omega (arith, ints))
level false true true c u w sign e f = absurd (omega (arith, ints))
level false true false c u w sign e f = absurd (omega (arith, ints))
level false false true c u w sign e f = absurd (omega (arith, ints))
level false false false c u w sign e f = refl

-- ---- the swept rectangle

-- what a move from line a to line b over these ends adds to the count, as the flux of the fragment's own piece
abbrev pub moved : Side → ℤ → ℤ → ℤ → ℤ → ℤ → ℤ → ℤ
moved side a b low high x y =
    let at : ℤ → ℤ = λ line. flux (record {
      from = placed (is_vertical side) line (if is_rising side then low else high);
      to = placed (is_vertical side) line (if is_rising side then high else low);
    }) x y in
    if is_vertical side then at b -ℤ at a else at a -ℤ at b

turn : (p q u w r : ℤ) → (p -ℤ q) -ℤ (u -ℤ w) ≡ r → (w -ℤ u) -ℤ (q -ℤ p) ≡ r
turn p q u w r e = omega (arith, ints)

-- the columns and the rows of the swept rectangle
abbrev swept_pairs : Side → ℤ → ℤ → ℤ → ℤ → ℤ → ℤ → Bool
swept_pairs side a b low high x y =
    let r : Rect = rect_between side a b low high in (int_le r.x0 x && int_lt x r.x1) && (int_le r.y0 y && int_lt y r.y1)

moved-pairs : (side : Side) (a b low high x y : ℤ) → low ≤ℤ high
    → moved side a b low high x y
    ≡ (if swept_pairs side a b low high x y then (if is_outward side a b then pos 1 else negsuc 0) else pos 0)
moved-pairs Left a b low high x y ordered =
    upright (int_le b x) (int_le a x) _ _ (step low y) (step high y) _ (step-down a b x) (band low high y ordered)
moved-pairs Right a b low high x y ordered =
    turn (if int_le a x then step low y else pos 0) (if int_le a x then step high y else pos 0)
    (if int_le b x then step low y else pos 0) (if int_le b x then step high y else pos 0) _
    (upright (int_le a x) (int_le b x) _ _ (step low y) (step high y) _ (step-up a b x) (band low high y ordered))
moved-pairs Down a b low high x y ordered =
    turn (if int_le low x then step b y else pos 0) (if int_le high x then step b y else pos 0)
    (if int_le low x then step a y else pos 0) (if int_le high x then step a y else pos 0) _
    (level (int_le low x) (int_le high x) _ _ (step b y) (step a y) _ (band low high x ordered) (step-down a b y))
moved-pairs Up a b low high x y ordered =
    level (int_le low x) (int_le high x) _ _ (step a y) (step b y) _ (band low high x ordered) (step-up a b y)

pub moved-swept : (side : Side) (a b low high x y : ℤ) → low ≤ℤ high
    → moved side a b low high x y
    ≡ (if rect_cover (rect_between side a b low high) x y then (if is_outward side a b then pos 1 else negsuc 0) else pos 0)
moved-swept side a b low high x y ordered =
    moved-pairs side a b low high x y ordered
    ∙ ap (λ t. if t then (if is_outward side a b then pos 1 else negsuc 0) else pos 0) (sym (rect_cover-pairs (rect_between side a b low high) x y))

pub start_end : (line : ℕ → ℤ) (f : Fragment) → end_at line (start_join f) (start_place f)
    ≡ (if is_rising f.side then end_at line f.low f.lo else end_at line f.high f.hi)
start_end line f = by (is_rising f.side)
  where
    by : (t : Bool) → end_at line (if t then f.low else f.high) (if t then f.lo else f.hi)
        ≡ (if t then end_at line f.low f.lo else end_at line f.high f.hi)
    by true = refl
    by false = refl

pub finish_end : (line : ℕ → ℤ) (f : Fragment) → end_at line (finish_join f) (finish_place f)
    ≡ (if is_rising f.side then end_at line f.high f.hi else end_at line f.low f.lo)
finish_end line f = by (is_rising f.side)
  where
    by : (t : Bool) → end_at line (if t then f.high else f.low) (if t then f.hi else f.lo)
        ≡ (if t then end_at line f.high f.hi else end_at line f.low f.lo)
    by true = refl
    by false = refl

-- a fragment's own piece, over the ends that it has where another line is given for it alone
pub own_piece_is : (fs : List Fragment) (line line' : ℕ → ℤ) (i : ℕ)
    → end_at line' (start_join (fragment_at fs i)) (start_place (fragment_at fs i))
    ≡ end_at line (start_join (fragment_at fs i)) (start_place (fragment_at fs i))
    → end_at line' (finish_join (fragment_at fs i)) (finish_place (fragment_at fs i))
    ≡ end_at line (finish_join (fragment_at fs i)) (finish_place (fragment_at fs i))
    → own_piece fs line' i ≡ record {
      from = placed (stands fs i) (line' i) (if is_rising (side_of fs i) then low_end fs line i else high_end fs line i);
      to = placed (stands fs i) (line' i) (if is_rising (side_of fs i) then high_end fs line i else low_end fs line i);
    }
unfolding start finish
own_piece_is fs line line' i starts finishes =
    ap (λ t. record {
      from = placed (stands fs i) (line' i) t;
      to = placed (stands fs i) (line' i) (end_at line' (finish_join (fragment_at fs i)) (finish_place (fragment_at fs i)));
    })
    (starts ∙ start_end line (fragment_at fs i))
    ∙ ap (λ t. record {
      from = placed (stands fs i) (line' i) (if is_rising (side_of fs i) then low_end fs line i else high_end fs line i);
      to = placed (stands fs i) (line' i) t;
    })
    (finishes ∙ finish_end line (fragment_at fs i))

-- Where one fragment's line moves, over ends in order, the count of each pixel changes by the swept rectangle:
-- it grows by 1 there if the move is outward, and falls by 1 if it is inward.
pub count-move : (fs : List Fragment) (line line' : ℕ → ℤ) (i : ℕ) (x y : ℤ)
    → IsOutline fs → i < length fs → DiffersOnlyAt i line line' → low_end fs line i ≤ℤ high_end fs line i
    → count fs line' x y ≡ count fs line x y +ℤ swept_count fs line i (line' i) x y
unfolding own_change
count-move fs line line' i x y outline below others ordered = by (stands fs i) refl
  where
    new : own_piece fs line' i ≡ record {
      from = placed (stands fs i) (line' i) (if is_rising (side_of fs i) then low_end fs line i else high_end fs line i);
      to = placed (stands fs i) (line' i) (if is_rising (side_of fs i) then high_end fs line i else low_end fs line i);
    }
    new = own_piece_is fs line line' i (start_stays fs line line' i i outline below others refl) (finish_stays fs line line' i i outline below others refl)

    old : own_piece fs line i ≡ record {
      from = placed (stands fs i) (line i) (if is_rising (side_of fs i) then low_end fs line i else high_end fs line i);
      to = placed (stands fs i) (line i) (if is_rising (side_of fs i) then high_end fs line i else low_end fs line i);
    }
    old = own_piece_is fs line line i refl refl

    at : ℤ → ℤ
    at l = flux (record {
      from = placed (stands fs i) l (if is_rising (side_of fs i) then low_end fs line i else high_end fs line i);
      to = placed (stands fs i) l (if is_rising (side_of fs i) then high_end fs line i else low_end fs line i);
    }) x y

    swept_is : moved (side_of fs i) (line i) (line' i) (low_end fs line i) (high_end fs line i) x y ≡ swept_count fs line i (line' i) x y
    swept_is = moved-swept (side_of fs i) (line i) (line' i) (low_end fs line i) (high_end fs line i) x y ordered

    if_true : (t : Bool) (a b : ℤ) → t ≡ true → (if t then a else b) ≡ a
    if_true t a b e = rw e refl

    if_false : (t : Bool) (a b : ℤ) → t ≡ false → (if t then a else b) ≡ b
    if_false t a b e = rw e refl

    turned : (c a b : ℤ) → c -ℤ (a -ℤ b) ≡ c +ℤ (b -ℤ a)
    turned c a b = omega (arith, ints)

    by : (t : Bool) → stands fs i ≡ t → count fs line' x y ≡ count fs line x y +ℤ swept_count fs line i (line' i) x y
    by true e =
        let own : flux (own_piece fs line' i) x y -ℤ flux (own_piece fs line i) x y ≡ at (line' i) -ℤ at (line i) =
        ap (λ p. flux p x y -ℤ flux (own_piece fs line i) x y) new ∙ ap (λ p. at (line' i) -ℤ flux p x y) old in
        count-move_vertical fs line line' i x y outline below others e
        ∙ ap (λ t. count fs line x y +ℤ t) (own ∙ sym (if_true (stands fs i) _ _ e) ∙ swept_is)
    by false e =
        let own : flux (own_piece fs line' i) x y -ℤ flux (own_piece fs line i) x y ≡ at (line' i) -ℤ at (line i) =
        ap (λ p. flux p x y -ℤ flux (own_piece fs line i) x y) new ∙ ap (λ p. at (line' i) -ℤ flux p x y) old in
        count-move_horizontal fs line line' i x y outline below others e
        ∙ ap (λ t. count fs line x y -ℤ t) own
        ∙ turned (count fs line x y) (at (line' i)) (at (line i))
        ∙ ap (λ t. count fs line x y +ℤ t) (sym (if_false (stands fs i) _ _ e) ∙ swept_is)

-- ---- at offsets

pub differs_at-set : (fs : List Fragment) (offsets : List ℤ) (i : ℕ) (to : ℤ)
    → DiffersOnlyAt i (lines fs offsets) (lines fs (set offsets i to))
differs_at-set fs offsets i to k apart =
    ap (λ t. (fragment_at fs k).edge +ℤ outward (side_of fs k) t) (get_or-set_other {A = ℤ} offsets i k to (pos 0) apart)

same_test : (a b c d : ℤ) → b -ℤ a ≡ d -ℤ c → int_lt a b ≡ int_lt c d
same_test a b c d e = by (int_lt a b) (int_lt c d) refl refl
  where
    by : (p q : Bool) → int_lt a b ≡ p → int_lt c d ≡ q → p ≡ q
    by true true f g = refl
    by true false f g = absurd (omega (arith, ints))
    by false true f g = absurd (omega (arith, ints))
    by false false f g = refl

pub is_outward-moved : (side : Side) (edge from to : ℤ)
    → is_outward side (edge +ℤ outward side from) (edge +ℤ outward side to) ≡ int_lt from to
is_outward-moved Left edge from to = same_test (edge +ℤ neg_ℤ to) (edge +ℤ neg_ℤ from) from to (omega (arith, ints))
is_outward-moved Right edge from to = same_test (edge +ℤ from) (edge +ℤ to) from to (omega (arith, ints))
is_outward-moved Down edge from to = same_test (edge +ℤ neg_ℤ to) (edge +ℤ neg_ℤ from) from to (omega (arith, ints))
is_outward-moved Up edge from to = same_test (edge +ℤ from) (edge +ℤ to) from to (omega (arith, ints))

-- the law, where fragment i takes another offset
pub count-offset : (fs : List Fragment) (offsets : List ℤ) (i : ℕ) (to new sign x y : ℤ)
    → IsOutline fs → i < length fs → length offsets ≡ length fs
    → low_end fs (lines fs offsets) i ≤ℤ high_end fs (lines fs offsets) i
    → new ≡ (fragment_at fs i).edge +ℤ outward (side_of fs i) to
    → sign ≡ (if int_lt (get_or offsets i (pos 0)) to then pos 1 else negsuc 0)
    → count fs (lines fs (set offsets i to)) x y
    ≡ count fs (lines fs offsets) x y +ℤ (if rect_cover (swept fs (lines fs offsets) i new) x y then sign else pos 0)
count-offset fs offsets i to new sign x y outline below one_each ordered new_is sign_is =
    count-move fs (lines fs offsets) (lines fs (set offsets i to)) i x y outline below (differs_at-set fs offsets i to) ordered
    ∙ ap (λ l. count fs (lines fs offsets) x y +ℤ swept_count fs (lines fs offsets) i l x y) moved_to
    ∙ ap (λ t. count fs (lines fs offsets) x y +ℤ (if rect_cover (swept fs (lines fs offsets) i new) x y then t else pos 0)) sign_same
  where
    inside : i < length offsets
    inside = subst (λ n. i < n) (sym one_each) below

    moved_to : lines fs (set offsets i to) i ≡ new
    moved_to = ap (λ t. (fragment_at fs i).edge +ℤ outward (side_of fs i) t) (get_or-set_same {A = ℤ} offsets i to (pos 0) inside) ∙ sym new_is

    sign_same : (if is_outward (side_of fs i) (lines fs offsets i) new then pos 1 else negsuc 0) ≡ sign
    sign_same =
        ap (λ l. if is_outward (side_of fs i) (lines fs offsets i) l then pos 1 else negsuc 0) new_is
        ∙ ap (λ (t : Bool). if t then pos 1 else negsuc 0)
        (is_outward-moved (side_of fs i) (fragment_at fs i).edge (get_or offsets i (pos 0)) to)
        ∙ sym sign_is

-- the law, for the rectangle as the code finds it
pub count-rect : (fs : List Fragment) (offsets : List ℤ) (i : ℕ) (to new sign old low high : ℤ) (side : Side) (rect : Rect) (x y : ℤ)
    → IsOutline fs → i < length fs → length offsets ≡ length fs
    → low_end fs (lines fs offsets) i ≤ℤ high_end fs (lines fs offsets) i
    → new ≡ (fragment_at fs i).edge +ℤ outward (side_of fs i) to
    → sign ≡ (if int_lt (get_or offsets i (pos 0)) to then pos 1 else negsuc 0)
    → old ≡ lines fs offsets i → low ≡ low_end fs (lines fs offsets) i → high ≡ high_end fs (lines fs offsets) i
    → side ≡ side_of fs i → rect ≡ rect_between side old new low high
    → count fs (lines fs (set offsets i to)) x y
    ≡ count fs (lines fs offsets) x y +ℤ (if rect_cover rect x y then sign else pos 0)
count-rect fs offsets i to new sign old low high side rect x y outline below one_each ordered new_is sign_is old_is low_is high_is side_is rect_is =
    count-offset fs offsets i to new sign x y outline below one_each ordered new_is sign_is
    ∙ ap (λ r. count fs (lines fs offsets) x y +ℤ (if rect_cover r x y then sign else pos 0)) (sym same)
  where
    same : rect ≡ swept fs (lines fs offsets) i new
    same =
        rect_is
        ∙ ap (λ s. rect_between s old new low high) side_is
        ∙ ap (λ l. rect_between (side_of fs i) l new low high) old_is
        ∙ ap (λ l. rect_between (side_of fs i) (lines fs offsets i) new l high) low_is
        ∙ ap (λ l. rect_between (side_of fs i) (lines fs offsets i) new (low_end fs (lines fs offsets) i) l) high_is

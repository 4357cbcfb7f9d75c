-- The corners of rectangles of which no two overlap are those of the pixels that they cover.
use Rattle.std.proofs.Common.{◌≡◌, ◌⊎◌, inl, inr, ℕ, zero, suc, ◌+◌, ◌<◌, ◌≤◌, ℤ, pos, negsuc, neg_ℤ, ◌+ℤ◌, ◌-ℤ◌, ◌≤ℤ◌, ◌<ℤ◌, int_le, int_lt, Bool, true, false, ◌&&◌, ◌||◌, if◌then◌else◌, List, [], ◌∷◌, ◌++◌, length, get_or, take, All, AllPairs, w32, to_z, of_z, Vec, Global, Result, Ok, Err, IfOk, IsPermutation, refl, sym, ◌∙◌, ap, subst, arith, add-one}
use Rattle.std.specs.Ordering.{int_eq}
use Rattle.std.proofs.lemmas.Int.{ints}
use Rattle.std.proofs.lemmas.Bool.Decides.{Decides-int_eq}
use Rattle.std.specs.declared.alloc.AllocError.{AllocError}
use Rattle.std.proofs.lemmas.List.{take_all}
use Rattle.opc_base.specs.declared.plane.Rect.{Rect}
use Rattle.outline_model.proofs.Pixels.{rect_cover-pairs}
use Rattle.signed_points.specs.declared.points.Point.{Point}
use Rattle.opc_base.specs.Plane.{rect_cover, cover}
use Rattle.outline_model.specs.Edges.{seen}
use Rattle.outline_model.specs.MaskRange.{IsInMask}
use Rattle.edges.specs.Disjoint.{IsSolidInLimit, AreApart, AreSolidAndApart}
use Rattle.edges.specs.Corners.{level, bit, edge_change, edge_changes, sign_reached, AreCorners}
use Rattle.signed_points.specs.Points.{SameSums, SignsWithin, IsAscending, IsSigned}
use Rattle.edges.proofs.MergeLaws.{level-merged, level-push, level-permutation}
use Rattle.std.proofs.lemmas.List.Elements.{All-push}

int_eq_absurd : (a b : ℤ) → int_eq a b ≡ true → a ≡ b
int_eq_absurd a b e = (Decides-int_eq a b).0 e

int_eq_apart : (a b : ℤ) → int_eq a b ≡ false → a ≡ b → ⊥
int_eq_apart a b e f = by (int_eq a b) refl e
  where
    by : (t : Bool) → int_eq a b ≡ t → t ≡ false → ⊥
    by true g h = cc h
    by false g h = let k = (Decides-int_eq a b).1 f in let m = g in cc (k, m)

-- the two corners of a rectangle on one line
column : (from low high line place : ℤ) → low <ℤ high
    → (if int_lt from line || (int_eq from line && int_le low place) then pos 1 else pos 0)
    +ℤ (if int_lt from line || (int_eq from line && int_le high place) then negsuc 0 else pos 0)
    ≡ bit (int_eq from line && (int_le low place && int_lt place high))
column from low high line place some =
    by (int_lt from line) (int_eq from line) (int_le low place) (int_le high place) (int_lt place high) refl refl refl refl refl
  where
    by : (p q a b c : Bool) → int_lt from line ≡ p → int_eq from line ≡ q → int_le low place ≡ a → int_le high place ≡ b → int_lt place high ≡ c
        → (if p || (q && a) then pos 1 else pos 0) +ℤ (if p || (q && b) then negsuc 0 else pos 0) ≡ bit (q && (a && c))
    by true true a b c e f g h k = absurd (let same = int_eq_absurd from line f in omega (arith, ints))
    by true false a b c e f g h k = refl
    by false false a b c e f g h k = refl
    by false true false true c e f g h k = absurd (omega (arith, ints))
    by false true false false c e f g h k = refl
    by false true true true true e f g h k = absurd (omega (arith, ints))
    by false true true true false e f g h k = refl
    by false true true false true e f g h k = refl
    by false true true false false e f g h k = absurd (omega (arith, ints))

-- the change across a line is at the first and at the last line
across : (first last line : ℤ) (q : Bool) → first <ℤ last
    → bit (int_eq first line && q) -ℤ bit (int_eq last line && q)
    ≡ bit ((int_le first line && int_lt line last) && q) -ℤ bit ((int_le first (line -ℤ pos 1) && int_lt (line -ℤ pos 1) last) && q)
across first last line q some =
    by (int_le first line) (int_lt line last) (int_le first (line -ℤ pos 1)) (int_lt (line -ℤ pos 1) last) (int_eq first line) (int_eq last line)
    refl refl refl refl refl refl
  where
    same : (z : ℤ) → pos 0 -ℤ pos 0 ≡ z -ℤ z
    same z = omega (arith, ints)

    by : (a b c d e f : Bool) → int_le first line ≡ a → int_lt line last ≡ b → int_le first (line -ℤ pos 1) ≡ c
        → int_lt (line -ℤ pos 1) last ≡ d → int_eq first line ≡ e → int_eq last line ≡ f
        → bit (e && q) -ℤ bit (f && q) ≡ bit ((a && b) && q) -ℤ bit ((c && d) && q)
    by false b true d e f g h i j k l = absurd (omega (arith, ints))
    by false b false d true f g h i j k l = absurd (let at = int_eq_absurd first line k in omega (arith, ints))
    by false b false d false true g h i j k l = absurd (let at = int_eq_absurd last line l in omega (arith, ints))
    by false b false d false false g h i j k l = refl
    by true b false d false f g h i j k l = absurd (int_eq_apart first line k (omega (arith, ints)))
    by true b false d true true g h i j k l = absurd (let at = int_eq_absurd last line l in omega (arith, ints))
    by true false false d true false g h i j k l = absurd (omega (arith, ints))
    by true true false d true false g h i j k l = refl
    by true b true d true f g h i j k l = absurd (let at = int_eq_absurd first line k in omega (arith, ints))
    by true true true false false f g h i j k l = absurd (omega (arith, ints))
    by true true true true false true g h i j k l = absurd (let at = int_eq_absurd last line l in omega (arith, ints))
    by true true true true false false g h i j k l = same (bit q)
    by true false true true false true g h i j k l = refl
    by true false true true false false g h i j k l = absurd (int_eq_apart last line l (omega (arith, ints)))
    by true false true false false true g h i j k l = absurd (let at = int_eq_absurd last line l in omega (arith, ints))
    by true false true false false false g h i j k l = refl

abbrev point : ℤ → ℤ → ℤ → Point
point line place sign = record { line = line; place = place; sign = sign }

four : (first last low high line place : ℤ) → first <ℤ last → low <ℤ high
    → (sign_reached (point first low (pos 1)) line place +ℤ sign_reached (point first high (negsuc 0)) line place)
    +ℤ (sign_reached (point last low (negsuc 0)) line place +ℤ sign_reached (point last high (pos 1)) line place)
    ≡ bit ((int_le first line && int_lt line last) && (int_le low place && int_lt place high))
    -ℤ bit ((int_le first (line -ℤ pos 1) && int_lt (line -ℤ pos 1) last) && (int_le low place && int_lt place high))
four first last low high line place wide high_enough =
    let a = column first low high line place high_enough in
    let b = column last low high line place high_enough in
    let c = across first last line (int_le low place && int_lt place high) wide in
    let d = opposite (int_lt last line || (int_eq last line && int_le low place)) (int_lt last line || (int_eq last line && int_le high place)) in
    omega (arith, ints)
  where
    opposite : (s t : Bool) → (if s then negsuc 0 else pos 0) +ℤ (if t then pos 1 else pos 0)
        ≡ pos 0 -ℤ ((if s then pos 1 else pos 0) +ℤ (if t then negsuc 0 else pos 0))
    opposite true true = refl
    opposite true false = refl
    opposite false true = refl
    opposite false false = refl

and-swap : (a b : Bool) → (a && b) ≡ (b && a)
and-swap true true = refl
and-swap true false = refl
and-swap false true = refl
and-swap false false = refl

pub four_points : (upright : Bool) (r : Rect) (line place : ℤ) → IsSolidInLimit r
    → (first last low high : ℤ)
    → first ≡ (if upright then r.x0 else r.y0) → last ≡ (if upright then r.x1 else r.y1)
    → low ≡ (if upright then r.y0 else r.x0) → high ≡ (if upright then r.y1 else r.x1)
    → (sign_reached (point first low (pos 1)) line place +ℤ sign_reached (point first high (negsuc 0)) line place)
    +ℤ (sign_reached (point last low (negsuc 0)) line place +ℤ sign_reached (point last high (pos 1)) line place)
    ≡ edge_change upright r line place
four_points true r line place solid first last low high a b c d =
    rw (a, b, c, d) (four r.x0 r.x1 r.y0 r.y1 line place solid.wide solid.high
    ∙ ap (λ t. bit t -ℤ bit ((int_le r.x0 (line -ℤ pos 1) && int_lt (line -ℤ pos 1) r.x1) && (int_le r.y0 place && int_lt place r.y1)))
    (sym (rect_cover-pairs r line place))
    ∙ ap (λ t. bit (rect_cover r line place) -ℤ bit t) (sym (rect_cover-pairs r (line -ℤ pos 1) place)))
four_points false r line place solid first last low high a b c d =
    rw (a, b, c, d) (four r.y0 r.y1 r.x0 r.x1 line place solid.high solid.wide
    ∙ ap (λ t. bit t -ℤ bit ((int_le r.y0 (line -ℤ pos 1) && int_lt (line -ℤ pos 1) r.y1) && (int_le r.x0 place && int_lt place r.x1)))
    (and-swap (int_le r.y0 line && int_lt line r.y1) (int_le r.x0 place && int_lt place r.x1) ∙ sym (rect_cover-pairs r place line))
    ∙ ap (λ t. bit (rect_cover r place line) -ℤ bit t)
    (and-swap (int_le r.y0 (line -ℤ pos 1) && int_lt (line -ℤ pos 1) r.y1) (int_le r.x0 place && int_lt place r.x1)
    ∙ sym (rect_cover-pairs r place (line -ℤ pos 1))))

-- ---- all rectangles

rect_changes-take_suc : (upright : Bool) (rs : List Rect) (i : ℕ) (d : Rect) (line place : ℤ) → i < length rs
    → edge_changes upright (take (suc i) rs) line place ≡ edge_changes upright (take i rs) line place +ℤ edge_change upright (get_or rs i d) line place
unfolding edge_changes
rect_changes-take_suc upright [] i d line place h = absurd (omega arith)
rect_changes-take_suc upright (r ∷ rs) zero d line place h = omega (arith, ints)
rect_changes-take_suc upright (r ∷ rs) (suc i) d line place h =
    let rest = rect_changes-take_suc upright rs i d line place (omega arith) in omega (arith, ints)

pub rect_changes-take_more : (upright : Bool) (rs : List Rect) (i : ℕ) (d : Rect) (line place : ℤ) → i < length rs
    → edge_changes upright (take (i + 1) rs) line place ≡ edge_changes upright (take i rs) line place +ℤ edge_change upright (get_or rs i d) line place
rect_changes-take_more upright rs i d line place h = rw add-one (rect_changes-take_suc upright rs i d line place h)

pub rect_changes-nil : (upright : Bool) (line place : ℤ) → edge_changes upright [] line place ≡ pos 0
unfolding edge_changes
rect_changes-nil upright line place = refl

pub rect_changes-all : (upright : Bool) (rs : List Rect) (i : ℕ) (line place : ℤ) → length rs ≤ i → edge_changes upright (take i rs) line place ≡ edge_changes upright rs line place
rect_changes-all upright rs i line place h = ap (λ t. edge_changes upright t line place) (take_all i rs h)

-- a pixel of one rectangle is in no other
apart_covers : (r s : Rect) (x y : ℤ) → AreApart r s → rect_cover r x y ≡ true → rect_cover s x y ≡ false
apart_covers r s x y apart = by (int_le r.x0 x) (int_lt x r.x1) (int_le r.y0 y) (int_lt y r.y1) (int_le s.x0 x) (int_lt x s.x1) (int_le s.y0 y) (int_lt y s.y1)
    refl refl refl refl refl refl refl refl apart
  where
    by : (a b c d e f g h : Bool) → int_le r.x0 x ≡ a → int_lt x r.x1 ≡ b → int_le r.y0 y ≡ c → int_lt y r.y1 ≡ d
        → int_le s.x0 x ≡ e → int_lt x s.x1 ≡ f → int_le s.y0 y ≡ g → int_lt y s.y1 ≡ h → AreApart r s
        → (((a && b) && c) && d) ≡ true → (((e && f) && g) && h) ≡ false
    by a b c d false f g h p q r s t u v w apart here = refl
    by a b c d true false g h p q r s t u v w apart here = refl
    by a b c d true true false h p q r s t u v w apart here = refl
    by a b c d true true true false p q r s t u v w apart here = refl
    by false b c d true true true true p q r s t u v w apart here = absurd (cc here)
    by true false c d true true true true p q r s t u v w apart here = absurd (cc here)
    by true true false d true true true true p q r s t u v w apart here = absurd (cc here)
    by true true true false true true true true p q r s t u v w apart here = absurd (cc here)
    by true true true true true true true true p q r s t u v w (inl (inl k)) here = absurd (omega (arith, ints))
    by true true true true true true true true p q r s t u v w (inl (inr k)) here = absurd (omega (arith, ints))
    by true true true true true true true true p q r s t u v w (inr (inl k)) here = absurd (omega (arith, ints))
    by true true true true true true true true p q r s t u v w (inr (inr k)) here = absurd (omega (arith, ints))

none_covers : (r : Rect) (rs : List Rect) (x y : ℤ) → All (AreApart r) rs → rect_cover r x y ≡ true → cover rs x y ≡ false
none_covers r [] x y apart here = refl
none_covers r (s ∷ rs) x y apart here =
    ap (λ t. t || cover rs x y) (apart_covers r s x y (apart 0 s (omega arith)) here)
    ∙ none_covers r rs x y (λ k d below. apart (suc k) d (omega arith)) here

covered_sum : List Rect → ℤ → ℤ → ℤ
covered_sum [] x y = pos 0
covered_sum (r ∷ rs) x y = bit (rect_cover r x y) +ℤ covered_sum rs x y

covered_sum-cover : (rs : List Rect) (x y : ℤ) → AllPairs AreApart rs → covered_sum rs x y ≡ bit (cover rs x y)
unfolding covered_sum
covered_sum-cover [] x y apart = refl
covered_sum-cover (r ∷ rs) x y apart =
    let rest = covered_sum-cover rs x y (λ i j d less below. apart (suc i) (suc j) d (omega arith) (omega arith)) in
    ap (λ z. bit (rect_cover r x y) +ℤ z) rest ∙ by (rect_cover r x y) (cover rs x y) refl refl
  where
    by : (a b : Bool) → rect_cover r x y ≡ a → cover rs x y ≡ b → bit a +ℤ bit b ≡ bit (a || b)
    by true false e f = refl
    by false true e f = refl
    by false false e f = refl
    by true true e f =
        let none = none_covers r rs x y (λ k d below. apart 0 (suc k) d (omega arith) (omega arith)) e in absurd (cc (none, f))

rect_changes-upright : (rs : List Rect) (x y : ℤ) → edge_changes true rs x y ≡ covered_sum rs x y -ℤ covered_sum rs (x -ℤ pos 1) y
unfolding edge_changes covered_sum
rect_changes-upright [] x y = refl
rect_changes-upright (r ∷ rs) x y = let rest = rect_changes-upright rs x y in omega (arith, ints)

rect_changes-level : (rs : List Rect) (x y : ℤ) → edge_changes false rs y x ≡ covered_sum rs x y -ℤ covered_sum rs x (y -ℤ pos 1)
unfolding edge_changes covered_sum
rect_changes-level [] x y = refl
rect_changes-level (r ∷ rs) x y = let rest = rect_changes-level rs x y in omega (arith, ints)

pub rect_changes-cover : (upright : Bool) (rs : List Rect) (line place : ℤ) → AreSolidAndApart rs
    → edge_changes upright rs line place ≡ bit (seen upright (cover rs) line place) -ℤ bit (seen upright (cover rs) (line -ℤ pos 1) place)
rect_changes-cover true rs line place disjoint =
    let a = rect_changes-upright rs line place in
    let b = covered_sum-cover rs line place disjoint.apart in
    let c = covered_sum-cover rs (line -ℤ pos 1) place disjoint.apart in
    a ∙ ap (λ z. z -ℤ covered_sum rs (line -ℤ pos 1) place) b ∙ ap (λ z. bit (cover rs line place) -ℤ z) c
rect_changes-cover false rs line place disjoint =
    let a = rect_changes-level rs place line in
    let b = covered_sum-cover rs place line disjoint.apart in
    let c = covered_sum-cover rs place (line -ℤ pos 1) disjoint.apart in
    a ∙ ap (λ z. z -ℤ covered_sum rs place (line -ℤ pos 1)) b ∙ ap (λ z. bit (cover rs place line) -ℤ z) c

-- ---- the points of a rectangle

-- what is stored of a coordinate
abbrev pub stored : ℤ → ℤ
stored z = to_z w32 (of_z w32 z)

abbrev pub stored_point : ℤ → ℤ → ℤ → Point
stored_point line place sign = record { line = stored line; place = stored place; sign = sign }

stored_is : (z : ℤ) → IsInMask z → stored z ≡ z
stored_is z within = let a = within.0 in let b = within.1 in omega (arith, ints)

-- the first and last line and place of a rectangle, as met along vertical or horizontal lines
abbrev pub AreEnds : Bool → Rect → ℤ × ℤ × ℤ × ℤ → Type 0
AreEnds upright r ends =
    ((upright ≡ true) × (ends ≡ (to_z w32 (of_z w32 r.x0), to_z w32 (of_z w32 r.x1), to_z w32 (of_z w32 r.y0), to_z w32 (of_z w32 r.y1))))
    ⊎ ((upright ≡ false) × (ends ≡ (to_z w32 (of_z w32 r.y0), to_z w32 (of_z w32 r.y1), to_z w32 (of_z w32 r.x0), to_z w32 (of_z w32 r.x1))))

pub points_signs : (ends : ℤ × ℤ × ℤ × ℤ) (v0 v1 v2 v3 v4 : List Point) → SignsWithin 1 v0
    → v1 ≡ v0 ++ stored_point ends.0 ends.2 (pos 1) ∷ [] → v2 ≡ v1 ++ stored_point ends.0 ends.3 (negsuc 0) ∷ []
    → v3 ≡ v2 ++ stored_point ends.1 ends.2 (negsuc 0) ∷ [] → v4 ≡ v3 ++ stored_point ends.1 ends.3 (pos 1) ∷ [] → SignsWithin 1 v4
points_signs ends v0 v1 v2 v3 v4 within e f g h =
    let one = pushed v0 v1 (stored_point ends.0 ends.2 (pos 1)) within e (omega (arith, ints), omega (arith, ints)) in
    let two = pushed v1 v2 (stored_point ends.0 ends.3 (negsuc 0)) one f (omega (arith, ints), omega (arith, ints)) in
    let three = pushed v2 v3 (stored_point ends.1 ends.2 (negsuc 0)) two g (omega (arith, ints), omega (arith, ints)) in
    pushed v3 v4 (stored_point ends.1 ends.3 (pos 1)) three h (omega (arith, ints), omega (arith, ints))
  where
    pushed : (v w : List Point) (c : Point) → SignsWithin 1 v → w ≡ v ++ c ∷ [] → (neg_ℤ (pos 1) ≤ℤ c.sign) × (c.sign ≤ℤ pos 1) → SignsWithin 1 w
    pushed v w c all is unit =
        subst (SignsWithin 1) (sym is) (All-push (λ d. (neg_ℤ (pos 1) ≤ℤ d.sign) × (d.sign ≤ℤ pos 1)) v c all unit)

pub points_levels : (upright : Bool) (r : Rect) (ends : ℤ × ℤ × ℤ × ℤ) (v0 v1 v2 v3 v4 : List Point) (line place : ℤ) → IsSolidInLimit r → AreEnds upright r ends
    → v1 ≡ v0 ++ stored_point ends.0 ends.2 (pos 1) ∷ [] → v2 ≡ v1 ++ stored_point ends.0 ends.3 (negsuc 0) ∷ []
    → v3 ≡ v2 ++ stored_point ends.1 ends.2 (negsuc 0) ∷ [] → v4 ≡ v3 ++ stored_point ends.1 ends.3 (pos 1) ∷ []
    → level v4 line place ≡ level v0 line place +ℤ edge_change upright r line place
points_levels upright r ends v0 v1 v2 v3 v4 line place solid are e f g h = by are
  where
    pushed : (v w : List Point) (c d : Point) → w ≡ v ++ c ∷ [] → c ≡ d → level w line place ≡ level v line place +ℤ sign_reached d line place
    pushed v w c d is same = ap (λ t. level t line place) (is ∙ ap (λ t. v ++ t ∷ []) same) ∙ level-push v d line place

    summed : (a b c d : ℤ) → stored ends.0 ≡ a → stored ends.1 ≡ b → stored ends.2 ≡ c → stored ends.3 ≡ d
        → level v4 line place ≡ level v0 line place
        +ℤ ((sign_reached (point a c (pos 1)) line place +ℤ sign_reached (point a d (negsuc 0)) line place)
        +ℤ (sign_reached (point b c (negsuc 0)) line place +ℤ sign_reached (point b d (pos 1)) line place))
    summed a b c d p q s t =
        let one = pushed v0 v1 (stored_point ends.0 ends.2 (pos 1)) (point a c (pos 1)) e (ap (λ z. point z (stored ends.2) (pos 1)) p ∙ ap (λ z. point a z (pos 1)) s) in
        let two = pushed v1 v2 (stored_point ends.0 ends.3 (negsuc 0)) (point a d (negsuc 0)) f (ap (λ z. point z (stored ends.3) (negsuc 0)) p ∙ ap (λ z. point a z (negsuc 0)) t) in
        let three = pushed v2 v3 (stored_point ends.1 ends.2 (negsuc 0)) (point b c (negsuc 0)) g (ap (λ z. point z (stored ends.2) (negsuc 0)) q ∙ ap (λ z. point b z (negsuc 0)) s) in
        let last = pushed v3 v4 (stored_point ends.1 ends.3 (pos 1)) (point b d (pos 1)) h (ap (λ z. point z (stored ends.3) (pos 1)) q ∙ ap (λ z. point b z (pos 1)) t) in
        omega (arith, ints)

    twice : (z s : ℤ) → z ≡ to_z w32 (of_z w32 s) → IsInMask s → stored z ≡ s
    twice z s is within = ap stored (is ∙ stored_is s within) ∙ stored_is s within

    by : AreEnds upright r ends → level v4 line place ≡ level v0 line place +ℤ edge_change upright r line place
    by (inl k) =
        summed r.x0 r.x1 r.y0 r.y1 (twice ends.0 r.x0 (ap (λ (t : ℤ × ℤ × ℤ × ℤ). t.0) k.1) solid.left) (twice ends.1 r.x1 (ap (λ (t : ℤ × ℤ × ℤ × ℤ). t.1) k.1) solid.right)
        (twice ends.2 r.y0 (ap (λ (t : ℤ × ℤ × ℤ × ℤ). t.2) k.1) solid.bottom) (twice ends.3 r.y1 (ap (λ (t : ℤ × ℤ × ℤ × ℤ). t.3) k.1) solid.top)
        ∙ ap (λ z. level v0 line place +ℤ z) (four_points true r line place solid r.x0 r.x1 r.y0 r.y1 refl refl refl refl)
        ∙ ap (λ b. level v0 line place +ℤ edge_change b r line place) (sym k.0)
    by (inr k) =
        summed r.y0 r.y1 r.x0 r.x1 (twice ends.0 r.y0 (ap (λ (t : ℤ × ℤ × ℤ × ℤ). t.0) k.1) solid.bottom) (twice ends.1 r.y1 (ap (λ (t : ℤ × ℤ × ℤ × ℤ). t.1) k.1) solid.top)
        (twice ends.2 r.x0 (ap (λ (t : ℤ × ℤ × ℤ × ℤ). t.2) k.1) solid.left) (twice ends.3 r.x1 (ap (λ (t : ℤ × ℤ × ℤ × ℤ). t.3) k.1) solid.right)
        ∙ ap (λ z. level v0 line place +ℤ z) (four_points false r line place solid r.y0 r.y1 r.x0 r.x1 refl refl refl refl)
        ∙ ap (λ b. level v0 line place +ℤ edge_change b r line place) (sym k.0)

-- ---- the merged corners

pub corners_of_merged : (upright : Bool) (rects : List Rect) (i : ℕ) (points sorted read : List Point) (result : Result (Vec Point Global) AllocError)
    → AreSolidAndApart rects → length rects ≤ i
    → ((line place : ℤ) → level points line place ≡ edge_changes upright (take i rects) line place) → IsPermutation points sorted → read ≡ sorted
    → IfOk result (λ cs. IsAscending cs.items) → IfOk result (λ cs. IsSigned cs.items) → IfOk result (λ cs. SameSums cs.items read)
    → IfOk result (λ cs. AreCorners (seen upright (cover rects)) cs.items)
corners_of_merged upright rects i points sorted read (Ok cs) disjoint all levels moved same ascending signed merged = record {
  ascending = ascending;
  signed = signed;
  change = λ line place.
      level-merged cs.items read line place merged ∙ ap (λ t. level t line place) same ∙ level-permutation points sorted line place moved
      ∙ levels line place ∙ rect_changes-all upright rects i line place all ∙ rect_changes-cover upright rects line place disjoint;
}
corners_of_merged upright rects i points sorted read (Err e) disjoint all levels moved same ascending signed merged = tt

-- The edges between paired corners are the edges of the set.
use Rattle.std.proofs.Common.{◌≡◌, ◌≢◌, ◌⊎◌, inl, inr, ℕ, suc, ◌+◌, ◌/◌, ◌%◌, ◌<◌, ◌==◌, nat_lt, ℤ, pos, ◌-ℤ◌, ◌≤ℤ◌, ◌<ℤ◌, int_le, int_lt, Bool, true, false, not, ◌&&◌, ◌||◌, if◌then◌else◌, List, [], ◌∷◌, All, length, refl, sym, ◌∙◌, ap, subst, arith}
use Rattle.std.proofs.lemmas.Int.{ints}
use Rattle.std.proofs.lemmas.Bool.Decides.{Decides-eqb, Decides-ltb, not_from_Decides}
use Rattle.outline_model.specs.MaskRange.{mask_limit}
use Rattle.outline_model.specs.Outline.{is_vertical}
use Rattle.outline_model.specs.Target.{opens}
use Rattle.signed_points.specs.declared.points.Point.{Point}
use Rattle.outline_model.specs.declared.edge.Edge.{Edge}
use Rattle.opc_base.specs.declared.plane.Rect.{Rect}
use Rattle.opc_base.specs.Plane.{PixelSet, rect_cover, cover}
use Rattle.outline_model.specs.Edges.{seen, is_convex}
use Rattle.edges.specs.Disjoint.{IsSolidInLimit}
use Rattle.edges.specs.Corners.{level, bit, AreCorners}
use Rattle.signed_points.specs.Points.{point_at, PointPrecedes}
use Rattle.outline_model.specs.Edges.{edge_at, IsEdge, EdgePrecedes, HasEdges}
use Rattle.edges.specs.Pairs.{IsAt, HasPoint, side_at, IsBetween, ArePaired}
use Rattle.edges.proofs.PairLaws.{IsReached, signs, signs-suc, signs-even, signs-odd, sign_is_unit, ReachesFirst, reaches_first, reaches_between, level-first, level_at, level_below, next_on_line, NoTouch, EndsBelow, IsUnit}

-- ---- bits

bits_apart : (a b : Bool) (s : ℤ) → IsUnit s → bit a -ℤ bit b ≡ s → (a ≡ int_lt (pos 0) s) × (b ≡ not (int_lt (pos 0) s))
bits_apart true false s (inl e) h = (ap (int_lt (pos 0)) (sym e), ap (λ t. not (int_lt (pos 0) t)) (sym e))
bits_apart false true s (inr e) h = (ap (int_lt (pos 0)) (sym e), ap (λ t. not (int_lt (pos 0) t)) (sym e))
bits_apart true true s (inl e) h = absurd (omega (arith, ints))
bits_apart true true s (inr e) h = absurd (omega (arith, ints))
bits_apart false false s (inl e) h = absurd (omega (arith, ints))
bits_apart false false s (inr e) h = absurd (omega (arith, ints))
bits_apart true false s (inr e) h = absurd (omega (arith, ints))
bits_apart false true s (inl e) h = absurd (omega (arith, ints))

bits_same : (a b : Bool) → bit a -ℤ bit b ≡ pos 0 → a ≡ b
bits_same true true h = refl
bits_same false false h = refl
bits_same true false h = absurd (omega (arith, ints))
bits_same false true h = absurd (omega (arith, ints))

bits_equal : (a b : Bool) → a ≡ b → bit a -ℤ bit b ≡ pos 0
bits_equal a b e = ap (λ t. bit a -ℤ bit t) (sym e) ∙ itself a
  where
    itself : (a : Bool) → bit a -ℤ bit a ≡ pos 0
    itself true = refl
    itself false = refl

not_its_own : (b : Bool) → b ≢ not b
not_its_own true e = cc e
not_its_own false e = cc e

other_is : (a b : Bool) → a ≢ b → b ≡ not a
other_is true true h = absurd (h refl)
other_is false false h = absurd (h refl)
other_is true false h = refl
other_is false true h = refl

opens-side_at : (upright opening : Bool) → opens (side_at upright opening) ≡ opening
opens-side_at true true = refl
opens-side_at true false = refl
opens-side_at false true = refl
opens-side_at false false = refl

is_vertical-side_at : (upright opening : Bool) → is_vertical (side_at upright opening) ≡ upright
is_vertical-side_at true true = refl
is_vertical-side_at true false = refl
is_vertical-side_at false true = refl
is_vertical-side_at false false = refl

-- ---- a corner is met along the lines across too

-- the same set, with the coordinates exchanged
abbrev pub AreAcross : PixelSet → PixelSet → Type 0
AreAcross inside across = (line place : ℤ) → across place line ≡ inside line place

signs_differ : (inside : PixelSet) (cs : List Point) (k : ℕ) → AreCorners inside cs → k < length cs
    → (bit (inside (point_at cs k).line (point_at cs k).place) -ℤ bit (inside ((point_at cs k).line -ℤ pos 1) (point_at cs k).place))
    ≢ (bit (inside (point_at cs k).line ((point_at cs k).place -ℤ pos 1)) -ℤ bit (inside ((point_at cs k).line -ℤ pos 1) ((point_at cs k).place -ℤ pos 1)))
signs_differ inside cs k corners below same =
    let a = level_at inside cs k corners below in
    let b = level_below inside cs k corners below in
    let c = signs-suc cs k in
    let none : (point_at cs k).sign ≡ pos 0 = omega (arith, ints) in
    corners.signed k _ below none

found_across : (across : PixelSet) (cs : List Point) (line place : ℤ) → AreCorners across cs
    → level cs line place ≢ level cs line (place -ℤ pos 1) → HasPoint cs line place
found_across across cs line place corners differ =
    by (reaches_first cs line place corners.ascending) (reaches_first cs line (place -ℤ pos 1) corners.ascending)
  where
    further : (c : Point) → IsReached c line (place -ℤ pos 1) → IsReached c line place
    further c (inl p) = inl p
    further c (inr p) = inr (p.0, (let a = p.1 in omega (arith, ints)))

    at : (c : Point) → IsReached c line place → ¬ IsReached c line (place -ℤ pos 1) → (c.line ≡ line) × (c.place ≡ place)
    at c (inl p) none = absurd (none (inl p))
    at c (inr p) none = (p.0, exactly (int_le c.place (place -ℤ pos 1)) refl)
      where
        exactly : (t : Bool) → int_le c.place (place -ℤ pos 1) ≡ t → c.place ≡ place
        exactly true e = absurd (none (inr (p.0, omega (arith, ints))))
        exactly false e = let a = p.1 in omega (arith, ints)

    by : ((m : ℕ) × ReachesFirst cs line place m) → ((n : ℕ) × ReachesFirst cs line (place -ℤ pos 1) n) → HasPoint cs line place
    by one two = cases (nat_lt two.0 one.0) (nat_lt one.0 two.0) refl refl
      where
        cases : (s t : Bool) → nat_lt two.0 one.0 ≡ s → nat_lt one.0 two.0 ≡ t → HasPoint cs line place
        cases true t e f =
            let less = (Decides-ltb two.0 one.0).0 e in
            let w = one.1.within in
            let inside_list : two.0 < length cs = omega arith in
            let point = at (point_at cs two.0) (one.1.reached two.0 less) (two.1.beyond two.0 (omega arith) inside_list) in
            (two.0, (inside_list, point.0, point.1))
        cases false true e f =
            let less = (Decides-ltb one.0 two.0).0 f in
            let w = two.1.within in
            absurd (one.1.beyond one.0 (omega arith) (omega arith) (further (point_at cs one.0) (two.1.reached one.0 less)))
        cases false false e f =
            let a = not_from_Decides _ (Decides-ltb two.0 one.0) e in
            let b = not_from_Decides _ (Decides-ltb one.0 two.0) f in
            let same : one.0 ≡ two.0 = omega arith in
            absurd (differ (level-first cs line place one.0 one.1 ∙ ap (signs cs) same ∙ sym (level-first cs line (place -ℤ pos 1) two.0 two.1)))

pub met_across : (inside across : PixelSet) (cs others : List Point) (k : ℕ) → AreCorners inside cs → AreCorners across others → AreAcross inside across
    → k < length cs → HasPoint others (point_at cs k).place (point_at cs k).line
met_across inside across cs others k corners acrosses same below =
    found_across across others place line acrosses (λ e. signs_differ inside cs k corners below (swapped e))
  where
    line : ℤ
    line = (point_at cs k).line

    place : ℤ
    place = (point_at cs k).place

    swapped : level others place line ≡ level others place (line -ℤ pos 1)
        → bit (inside line place) -ℤ bit (inside (line -ℤ pos 1) place)
        ≡ bit (inside line (place -ℤ pos 1)) -ℤ bit (inside (line -ℤ pos 1) (place -ℤ pos 1))
    swapped e =
        let a : level others place line ≡ bit (inside line place) -ℤ bit (inside line (place -ℤ pos 1)) =
        acrosses.change place line ∙ ap (λ t. bit t -ℤ bit (across (place -ℤ pos 1) line)) (same line place) ∙ ap (λ t. bit (inside line place) -ℤ bit t) (same line (place -ℤ pos 1)) in
        let b : level others place (line -ℤ pos 1) ≡ bit (inside (line -ℤ pos 1) place) -ℤ bit (inside (line -ℤ pos 1) (place -ℤ pos 1)) =
        acrosses.change place (line -ℤ pos 1) ∙ ap (λ t. bit t -ℤ bit (across (place -ℤ pos 1) (line -ℤ pos 1))) (same (line -ℤ pos 1) place)
        ∙ ap (λ t. bit (inside (line -ℤ pos 1) place) -ℤ bit t) (same (line -ℤ pos 1) (place -ℤ pos 1)) in
        omega (arith, ints)

-- ---- convex ends

-- the number is even, or it is odd
parity : (k : ℕ) → ((k % 2 == 0) ≡ true) × (k ≡ k / 2 + k / 2) ⊎ (((k % 2 == 0) ≡ false) × (k ≡ suc (k / 2 + k / 2)))
parity k = by (k % 2 == 0) refl
  where
    by : (t : Bool) → (k % 2 == 0) ≡ t → ((k % 2 == 0) ≡ true) × (k ≡ k / 2 + k / 2) ⊎ (((k % 2 == 0) ≡ false) × (k ≡ suc (k / 2 + k / 2)))
    by true e = let zero_is : k % 2 ≡ 0 = (Decides-eqb (k % 2) 0).0 e in inl (e, omega arith)
    by false e = let apart : k % 2 ≢ 0 = not_from_Decides _ (Decides-eqb (k % 2) 0) e in inr (e, omega arith)

-- what an even or an odd number says of the set on both sides of a line across
across_change : (across : PixelSet) (others : List Point) (k : ℕ) (line place : ℤ) → AreCorners across others → NoTouch across → IsAt others line place k
    → ((k % 2 == 0) ≡ true → across line place ≢ across (line -ℤ pos 1) place)
    × ((k % 2 == 0) ≡ false → across line place ≡ across (line -ℤ pos 1) place)
across_change across others k line place corners none at = (even (parity k), odd (parity k))
  where
    here : signs others (suc k) ≡ bit (across line place) -ℤ bit (across (line -ℤ pos 1) place)
    here = level_at across others k corners at.0
        ∙ ap (λ l. bit (across l (point_at others k).place) -ℤ bit (across (l -ℤ pos 1) (point_at others k).place)) at.1
        ∙ ap (λ p. bit (across line p) -ℤ bit (across (line -ℤ pos 1) p)) at.2

    even : ((k % 2 == 0) ≡ true) × (k ≡ k / 2 + k / 2) ⊎ (((k % 2 == 0) ≡ false) × (k ≡ suc (k / 2 + k / 2)))
        → (k % 2 == 0) ≡ true → across line place ≢ across (line -ℤ pos 1) place
    even (inl p) e same =
        corners.signed k _ at.0 (sym (signs-odd across others (k / 2) k corners none p.1 at.0) ∙ here ∙ bits_equal _ _ same)
    even (inr p) e same = let a = p.0 in cc (a, e)

    odd : ((k % 2 == 0) ≡ true) × (k ≡ k / 2 + k / 2) ⊎ (((k % 2 == 0) ≡ false) × (k ≡ suc (k / 2 + k / 2)))
        → (k % 2 == 0) ≡ false → across line place ≡ across (line -ℤ pos 1) place
    odd (inl p) e = absurd (let a = p.0 in cc (a, e))
    odd (inr p) e =
        let below = at.0 in
        bits_same _ _ (sym here ∙ signs-even across others (suc (k / 2)) (suc k) corners none (let a = p.1 in omega arith) (omega arith))

convex_low : (a b c d o even : Bool) → a ≡ o → b ≡ not o → c ≡ d → c ≡ (if even then not o else o)
    → (if o then even else not even) ≡ (((if a then 1 else 0) + (if b then 1 else 0) + (if c then 1 else 0) + (if d then 1 else 0)) == 1)
convex_low a b c d true true e f g h = rw (e, f, ← g, h) refl
convex_low a b c d true false e f g h = rw (e, f, ← g, h) refl
convex_low a b c d false true e f g h = rw (e, f, ← g, h) refl
convex_low a b c d false false e f g h = rw (e, f, ← g, h) refl

convex_high : (a b c d o even : Bool) → c ≡ o → d ≡ not o → a ≡ b → a ≡ (if even then not o else o)
    → (if o then even else not even) ≡ (((if a then 1 else 0) + (if b then 1 else 0) + (if c then 1 else 0) + (if d then 1 else 0)) == 1)
convex_high a b c d true true e f g h = rw (e, f, ← g, h) refl
convex_high a b c d true false e f g h = rw (e, f, ← g, h) refl
convex_high a b c d false true e f g h = rw (e, f, ← g, h) refl
convex_high a b c d false false e f g h = rw (e, f, ← g, h) refl

-- ---- one edge

-- the corners m and m + 1 are on one line, and the set is on one side of it between them
record IsStretch (inside : PixelSet) (cs : List Point) (m : ℕ) : Type 0 where
  next : suc m < length cs
  line : (point_at cs (suc m)).line ≡ (point_at cs m).line
  some : (point_at cs m).place <ℤ (point_at cs (suc m)).place
  along : (p : ℤ) → (point_at cs m).place ≤ℤ p → p <ℤ (point_at cs (suc m)).place
      → (inside (point_at cs m).line p ≡ int_lt (pos 0) (point_at cs m).sign) × (inside ((point_at cs m).line -ℤ pos 1) p ≡ not (int_lt (pos 0) (point_at cs m).sign))
  before : inside (point_at cs m).line ((point_at cs m).place -ℤ pos 1) ≡ inside ((point_at cs m).line -ℤ pos 1) ((point_at cs m).place -ℤ pos 1)
  after : inside (point_at cs m).line (point_at cs (suc m)).place ≡ inside ((point_at cs m).line -ℤ pos 1) (point_at cs (suc m)).place

stretch : (inside : PixelSet) (cs : List Point) (high : ℤ) (i m : ℕ) → AreCorners inside cs → NoTouch inside → EndsBelow high inside
    → m ≡ i + i → m < length cs → IsStretch inside cs m
stretch inside cs high i m corners none empty e below =
    let next = next_on_line inside cs high i m corners none empty e below in
    of next.0 next.1
  where
    of : suc m < length cs → (point_at cs (suc m)).line ≡ (point_at cs m).line → IsStretch inside cs m
    of inside_list line_is = record {
      next = inside_list;
      line = line_is;
      some = some (corners.ascending m (suc m) _ (omega arith) inside_list);
      along = along;
      before = bits_same _ _ (sym (level_below inside cs m corners below) ∙ signs-even inside cs i m corners none e (omega arith));
      after =
          let here = level_at inside cs (suc m) corners inside_list in
          let zero_is = signs-even inside cs (suc i) (suc (suc m)) corners none (omega arith) (omega arith) in
          bits_same _ _ (ap (λ l. bit (inside l (point_at cs (suc m)).place) -ℤ bit (inside (l -ℤ pos 1) (point_at cs (suc m)).place)) (sym line_is)
          ∙ sym here ∙ zero_is);
    }
      where
        some : PointPrecedes (point_at cs m) (point_at cs (suc m)) → (point_at cs m).place <ℤ (point_at cs (suc m)).place
        some (inl p) = absurd (let a = line_is in omega (arith, ints))
        some (inr p) = p.1

        along : (p : ℤ) → (point_at cs m).place ≤ℤ p → p <ℤ (point_at cs (suc m)).place
            → (inside (point_at cs m).line p ≡ int_lt (pos 0) (point_at cs m).sign) × (inside ((point_at cs m).line -ℤ pos 1) p ≡ not (int_lt (pos 0) (point_at cs m).sign))
        along p from to =
            let first = reaches_between cs (point_at cs m).line p m corners.ascending below (inr (refl, from)) (λ h. not_yet) in
            bits_apart _ _ (point_at cs m).sign (sign_is_unit inside cs m corners none below)
            (sym (corners.change (point_at cs m).line p) ∙ level-first cs (point_at cs m).line p (suc m) first ∙ signs-odd inside cs i m corners none e below)
          where
            not_yet : ¬ IsReached (point_at cs (suc m)) (point_at cs m).line p
            not_yet (inl q) = let a = line_is in omega (arith, ints)
            not_yet (inr q) = let a = q.1 in omega (arith, ints)

choose : (even : Bool) (a c o : Bool) → a ≡ o → (even ≡ true → a ≢ c) → (even ≡ false → a ≡ c) → c ≡ (if even then not o else o)
choose true a c o e apart same = other_is a c (apart refl) ∙ ap not e
choose false a c o e apart same = sym (same refl) ∙ e

pub edge_between : (upright : Bool) (inside across : PixelSet) (cs others : List Point) (e : Edge) (high : ℤ) (i m : ℕ)
    → AreCorners inside cs → AreCorners across others → AreAcross inside across → NoTouch inside → NoTouch across → EndsBelow high inside
    → m ≡ i + i → m < length cs → IsBetween upright others (point_at cs m) (point_at cs (suc m)) e → IsEdge inside e
edge_between upright inside across cs others e high i m corners acrosses same none none_across empty is below between = record {
  some = (let a = between.lo in let b = between.hi in let c = st.some in omega (arith, ints));
  along = λ p from to.
      let f = st.along p (let a = between.lo in omega (arith, ints)) (let b = between.hi in omega (arith, ints)) in
      (ap (λ l. inside l p) between.line ∙ f.0 ∙ sym opens_is, ap (λ l. inside (l -ℤ pos 1) p) between.line ∙ f.1 ∙ ap not (sym opens_is));
  before = λ faces. not_its_own (opens e.side) (sym faces.0 ∙ before_same ∙ faces.1);
  after = λ faces. not_its_own (opens e.side) (sym faces.0 ∙ after_same ∙ faces.1);
  low_convex = low_convex;
  high_convex = high_convex;
}
  where
    st : IsStretch inside cs m
    st = stretch inside cs high i m corners none empty is below

    first : Point
    first = point_at cs m

    last : Point
    last = point_at cs (suc m)

    o : Bool
    o = int_lt (pos 0) (point_at cs m).sign

    opens_is : opens e.side ≡ int_lt (pos 0) (point_at cs m).sign
    opens_is = ap opens between.side ∙ opens-side_at upright (int_lt (pos 0) (point_at cs m).sign)

    before_same : inside e.line (e.lo -ℤ pos 1) ≡ inside (e.line -ℤ pos 1) (e.lo -ℤ pos 1)
    before_same = rw (between.line, between.lo) st.before

    after_same : inside e.line e.hi ≡ inside (e.line -ℤ pos 1) e.hi
    after_same = rw (between.line, between.hi) st.after

    low_convex : e.low_convex ≡ is_convex inside e.line e.lo
    low_convex =
        let met = met_across inside across cs others m corners acrosses same below in
        let k = met.0 in
        let change = across_change across others k first.place first.line acrosses none_across met.1 in
        let faces = st.along first.place (omega (arith, ints)) st.some in
        let here = same first.line first.place in
        let under = same first.line (first.place -ℤ pos 1) in
        between.low_convex k met.1
        ∙ convex_low (inside first.line first.place) (inside (first.line -ℤ pos 1) first.place) (inside first.line (first.place -ℤ pos 1))
        (inside (first.line -ℤ pos 1) (first.place -ℤ pos 1)) (int_lt (pos 0) (point_at cs m).sign) (k % 2 == 0) faces.0 faces.1 st.before
        (choose (k % 2 == 0) (inside first.line first.place) (inside first.line (first.place -ℤ pos 1)) (int_lt (pos 0) (point_at cs m).sign) faces.0
        (λ even equal. change.0 even (here ∙ equal ∙ sym under)) (λ odd. sym here ∙ change.1 odd ∙ under))
        ∙ ap (λ l. is_convex inside l first.place) (sym between.line) ∙ ap (is_convex inside e.line) (sym between.lo)

    high_convex : e.high_convex ≡ is_convex inside e.line e.hi
    high_convex =
        let met = met_across inside across cs others (suc m) corners acrosses same st.next in
        let k = met.0 in
        let point : IsAt others last.place first.line k = subst (λ l. IsAt others last.place l k) st.line met.1 in
        let change = across_change across others k last.place first.line acrosses none_across point in
        let under_line : (first.place ≤ℤ (last.place -ℤ pos 1)) = (let c = st.some in omega (arith, ints)) in
        let faces = st.along (last.place -ℤ pos 1) under_line (omega (arith, ints)) in
        let here = same first.line last.place in
        let under = same first.line (last.place -ℤ pos 1) in
        between.high_convex k met.1
        ∙ convex_high (inside first.line last.place) (inside (first.line -ℤ pos 1) last.place) (inside first.line (last.place -ℤ pos 1))
        (inside (first.line -ℤ pos 1) (last.place -ℤ pos 1)) (int_lt (pos 0) (point_at cs m).sign) (k % 2 == 0) faces.0 faces.1 st.after
        (choose (k % 2 == 0) (inside first.line (last.place -ℤ pos 1)) (inside first.line last.place) (int_lt (pos 0) (point_at cs m).sign) faces.0
        (λ even equal. change.0 even (here ∙ sym equal ∙ sym under)) (λ odd. sym under ∙ sym (change.1 odd) ∙ here))
        ∙ ap (λ l. is_convex inside l last.place) (sym between.line) ∙ ap (is_convex inside e.line) (sym between.hi)

-- ---- all edges

pub has_edges : (upright : Bool) (inside across : PixelSet) (cs others : List Point) (es : List Edge) (high : ℤ)
    → AreCorners inside cs → AreCorners across others → AreAcross inside across → NoTouch inside → NoTouch across → EndsBelow high inside
    → ArePaired upright cs others es → HasEdges upright inside es
has_edges upright inside across cs others es high corners acrosses same none none_across empty paired = record {
  sorted = sorted;
  sides = λ k below. ap is_vertical (between k below).side ∙ is_vertical-side_at upright (int_lt (pos 0) (point_at cs (k + k)).sign);
  edges = λ k below. edge_between upright inside across cs others (edge_at es k) high k (k + k) corners acrosses same none none_across empty refl (first_below k below) (between k below);
  all = all;
}
  where
    first_below : (k : ℕ) → k < length es → k + k < length cs
    first_below k below = let w = paired.within in omega arith

    between : (k : ℕ) → k < length es → IsBetween upright others (point_at cs (k + k)) (point_at cs (suc (k + k))) (edge_at es k)
    between k below =
        subst (λ n. IsBetween upright others (point_at cs (k + k)) (point_at cs n) (edge_at es k)) (let e : k + k + 1 ≡ suc (k + k) = omega arith in e)
        (paired.between k below)

    st : (k : ℕ) → k < length es → IsStretch inside cs (k + k)
    st k below = stretch inside cs high k (k + k) corners none empty refl (first_below k below)

    sorted : (j k : ℕ) → j < k → k < length es → EdgePrecedes (edge_at es j) (edge_at es k)
    sorted j k less below =
        let j_below : j < length es = omega arith in
        from j_below (corners.ascending (suc (j + j)) (k + k) _ (omega arith) (first_below k below))
      where
        from : j < length es → PointPrecedes (point_at cs (suc (j + j))) (point_at cs (k + k)) → EdgePrecedes (edge_at es j) (edge_at es k)
        from j_below (inl p) =
            inl (let a = (between j j_below).line in let b = (between k below).line in let c = (st j j_below).line in omega (arith, ints))
        from j_below (inr p) =
            inr (
              (between j j_below).line ∙ sym (st j j_below).line ∙ p.0 ∙ sym (between k below).line,
              (let a = (between j j_below).hi in let b = (between k below).lo in let c = p.1 in omega (arith, ints)),
            )

    all : (line place : ℤ) → inside line place ≢ inside (line -ℤ pos 1) place
        → (k : ℕ) × (k < length es) × ((edge_at es k).line ≡ line) × ((edge_at es k).lo ≤ℤ place) × (place <ℤ (edge_at es k).hi)
    all line place changes = by (reaches_first cs line place corners.ascending)
      where
        by : ((m : ℕ) × ReachesFirst cs line place m)
            → (k : ℕ) × (k < length es) × ((edge_at es k).line ≡ line) × ((edge_at es k).lo ≤ℤ place) × (place <ℤ (edge_at es k).hi)
        by found = at found.0 found.1 (parity found.0)
          where
            not_zero : (m : ℕ) → ReachesFirst cs line place m → signs cs m ≢ pos 0
            not_zero m first zero_is =
                changes (bits_same _ _ (sym (corners.change line place) ∙ level-first cs line place m first ∙ zero_is))

            at : (m : ℕ) → ReachesFirst cs line place m → (((m % 2 == 0) ≡ true) × (m ≡ m / 2 + m / 2) ⊎ (((m % 2 == 0) ≡ false) × (m ≡ suc (m / 2 + m / 2))))
                → (k : ℕ) × (k < length es) × ((edge_at es k).line ≡ line) × ((edge_at es k).lo ≤ℤ place) × (place <ℤ (edge_at es k).hi)
            at m first (inl even) = absurd (not_zero m first (signs-even inside cs (m / 2) m corners none even.1 first.within))
            at m first (inr odd) =
                let k = m / 2 in
                let w = first.within in
                let is = odd.1 in
                let first_in : k + k < length cs = omega arith in
                let s = stretch inside cs high k (k + k) corners none empty refl first_in in
                let next_in = s.next in
                let all_paired = paired.all in
                let below : k < length es = omega arith in
                on k below (first.reached (k + k) (omega arith)) (first.beyond (suc (k + k)) (omega arith) next_in)
              where
                on : (k : ℕ) → k < length es → IsReached (point_at cs (k + k)) line place → ¬ IsReached (point_at cs (suc (k + k))) line place
                    → (k : ℕ) × (k < length es) × ((edge_at es k).line ≡ line) × ((edge_at es k).lo ≤ℤ place) × (place <ℤ (edge_at es k).hi)
                on k below (inl p) not_yet = absurd (not_yet (inl (let a = (st k below).line in omega (arith, ints))))
                on k below (inr p) not_yet =
                    (k, below, (between k below).line ∙ p.0, (let a = (between k below).lo in let b = p.1 in omega (arith, ints)), past (int_lt place (edge_at es k).hi) refl)
                  where
                    past : (t : Bool) → int_lt place (edge_at es k).hi ≡ t → place <ℤ (edge_at es k).hi
                    past true e = omega (arith, ints)
                    past false e =
                        absurd (not_yet (inr ((st k below).line ∙ p.0, (let a = (between k below).hi in omega (arith, ints)))))

-- ---- the pixels of rectangles

covers_below : (r : Rect) (x y : ℤ) → IsSolidInLimit r → (pos mask_limit ≤ℤ x) ⊎ (pos mask_limit ≤ℤ y) → rect_cover r x y ≡ false
covers_below r x y solid far = by (int_le r.x0 x) (int_lt x r.x1) (int_le r.y0 y) (int_lt y r.y1) refl refl far
  where
    by : (a b c d : Bool) → int_lt x r.x1 ≡ b → int_lt y r.y1 ≡ d → (pos mask_limit ≤ℤ x) ⊎ (pos mask_limit ≤ℤ y) → (((a && b) && c) && d) ≡ false
    by true true true true e f (inl h) = absurd (let a = solid.right.1 in omega (arith, ints))
    by true true true true e f (inr h) = absurd (let a = solid.top.1 in omega (arith, ints))
    by false b c d e f h = refl
    by true false c d e f h = refl
    by true true false d e f h = refl
    by true true true false e f h = refl

cover_below : (rs : List Rect) (x y : ℤ) → All IsSolidInLimit rs → (pos mask_limit ≤ℤ x) ⊎ (pos mask_limit ≤ℤ y) → cover rs x y ≡ false
cover_below [] x y solid far = refl
cover_below (r ∷ rs) x y solid far =
    ap (λ t. t || cover rs x y) (covers_below r x y (solid 0 r (omega arith)) far)
    ∙ cover_below rs x y (λ k d below. solid (suc k) d (omega arith)) far

pub ends_below : (upright : Bool) (rs : List Rect) → All IsSolidInLimit rs → EndsBelow (pos mask_limit) (seen upright (cover rs))
ends_below true rs solid line place far = cover_below rs line place solid (inr far)
ends_below false rs solid line place far = cover_below rs place line solid (inl far)

pub no_touch_seen : (upright : Bool) (inside : PixelSet) → NoTouch inside → NoTouch (seen upright inside)
no_touch_seen true inside none x y touch = none x y touch
no_touch_seen false inside none x y touch =
    none y x (record { rising = touch.rising; falling = sym touch.falling; apart = λ same. touch.apart (same ∙ sym touch.falling) })

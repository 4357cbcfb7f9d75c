-- The first pixel of a swept rectangle whose count is wrong after the move.
use Rattle.std.proofs.Common.{◌≡◌, ◌⊎◌, inl, inr, ℕ, ◌<◌, ℤ, pos, ◌+ℤ◌, ◌-ℤ◌, ◌≤ℤ◌, ◌<ℤ◌, Bool, true, false, not, ◌&&◌, if◌then◌else◌, Option, Some, None, List, int_le, int_lt, refl, sym, ◌∙◌, ap, subst, arith}
use Rattle.std.specs.Int.{int_min, int_max}
use Rattle.std.specs.Prelude.{Contains}
use Rattle.std.proofs.lemmas.Int.{ints, clamps}
use Rattle.outline_model.specs.declared.fragment.Fragment.{Fragment}
use Rattle.opc_base.specs.declared.plane.Rect.{Rect}
use Rattle.opc_base.specs.declared.plane.Pix.{Pix}
use Rattle.outline_model.specs.Limits.{IsFragmentList}
use Rattle.outline_model.specs.Near.{KeepNear}
use Rattle.opc_base.specs.Plane.{rect_cover}
use Rattle.mask_rules.specs.declared.stretch.Stretch.{Stretch}
use Rattle.mask_rules.specs.First.{comes_before, earlier, IsUpTo, IsFirst}
use Rattle.mask_rules.specs.Spots.{is_inside, spot_pixel, SpotsAt, is_ahead, lowest}
use Rattle.mask_rules.specs.Sweeps.{IsBeside, MiscountAt, corner_of}
use Rattle.outline_model.specs.Edges.{seen}
use Rattle.mask_rules.specs.Stretches.{Spans, pixel_at, rect_at, stretch_at, IsDrawn}
use Rattle.mask_rules.proofs.Changed.{stretch_within}
use Rattle.mask_rules.proofs.ClashFacts.{and_left, and_right, and_true, lt_true, true_lt, some_of, some_if, pixel_up_to}
use Rattle.mask_rules.proofs.ClashSearch.{IsAllNear, contained_below, covers_at, covers_in, reaching}
use Rattle.mask_rules.proofs.Firsts.{first_from, comes_before-true, comes_before-false, IsUpTo-trans, IsUpTo-refl, IsFirst-cover, IsFirst-earlier, IsFirst-one, IsFirst-list}
use Rattle.mask_rules.proofs.Lines.{apart_is_not, not_apart, not_not, upward, downward}
use Rattle.mask_rules.proofs.Runs.{of_colour-true, colour-true}

pub record IsInside (band : Rect) (opens : Bool) (s : Stretch) (t : ℤ) : Type 0 where
  pub opens_is : s.opens ≡ opens
  pub after : band.x0 <ℤ s.at
  pub before : s.at <ℤ band.x1
  pub spans : Spans s t
  pub low : band.y0 ≤ℤ t
  pub high : t <ℤ band.y1

pub inside_of_test : (band : Rect) (opens : Bool) (s : Stretch) → is_inside band opens s ≡ true → IsInside band opens s (int_max s.low band.y0)
unfolding is_inside
inside_of_test band opens s e =
    let some : int_max s.low band.y0 <ℤ int_min s.high band.y1 = true_lt _ _ (and_right _ _ e) in
    let more = and_left _ _ e in
    let most = and_left _ _ more in
    record {
      opens_is = colour-true opens _ (and_left _ _ most);
      after = true_lt _ _ (and_right _ _ most);
      before = true_lt _ _ (and_right _ _ more);
      spans = (omega (arith, ints, clamps), omega (arith, ints, clamps));
      low = omega (arith, ints, clamps);
      high = omega (arith, ints, clamps);
    }

pub test_of_inside : (band : Rect) (opens : Bool) (s : Stretch) (t : ℤ) → IsInside band opens s t
    → (is_inside band opens s ≡ true) × (int_max s.low band.y0 ≤ℤ t)
unfolding is_inside
test_of_inside band opens s t h =
    let a = h.spans.0 in let b = h.spans.1 in let c = h.low in let d = h.high in (
      and_true _ _ (and_true _ _ (and_true _ _ (of_colour-true opens _ h.opens_is) (lt_true _ _ h.after)) (lt_true _ _ h.before))
          (lt_true (int_max s.low band.y0) (int_min s.high band.y1) (omega (arith, ints, clamps))),
      omega (arith, ints, clamps),
    )

-- all stretches inside the band are among those that are near it
pub first_spot_is : (fs : List Fragment) (line : ℕ → ℤ) (reach : ℤ) (v : Bool) (band : Rect) (opens : Bool) (numbers : List ℕ)
    → IsFragmentList fs → pos 0 ≤ℤ reach → KeepNear fs line reach → IsAllNear fs reach (rect_at v band.x0 band.x1 band.y0 band.y1) numbers
    → IsFirst (SpotsAt fs line v band opens) (first_from (λ k. spot_pixel v band opens (stretch_at fs line v k)) None numbers)
first_spot_is fs line reach v band opens numbers fragments least keep near =
    IsFirst-cover (λ p. (k : ℕ) × Contains numbers k × (spot_pixel v band opens (stretch_at fs line v k) ≡ Some p)) _ _
    (λ p found. (found.0, contained_below fs reach _ numbers found.0 near found.1, found.2))
    (λ q found.
    let k = found.0 in
    let s = stretch_at fs line v k in
    let in_band = inside_of_test band opens s (some_of (is_inside band opens s) _ _ found.2).0 in
    let t = int_max s.low band.y0 in
    let after : band.x0 <ℤ s.at = in_band.after in (
      q,
      (
        k,
        near.complete k _ _ found.1 (covers_at v band.x0 band.x1 band.y0 band.y1 s.at t (omega (arith, ints)) in_band.before in_band.low in_band.high)
            (stretch_within fs line reach v k t fragments least keep found.1 in_band.spans),
        found.2,
      ),
      IsUpTo-refl q,
    ))
    (IsFirst-list (λ k. spot_pixel v band opens (stretch_at fs line v k)) numbers)

-- ---- the corner of the rectangle

abbrev pub SpotsOf : ℕ → (Bool → ℕ → Stretch) → Bool → Rect → Bool → Pix → Type 0
SpotsOf n s v band opens p = (k : ℕ) × (k < n) × (spot_pixel v band opens (s v k) ≡ Some p)

across_up_to : (v : Bool) (a b t : ℤ) → IsUpTo (pixel_at v a t) (pixel_at v b t) → a ≤ℤ b
across_up_to true a b t h = elim h [ inl e ↦ absurd (omega (arith, ints, e)) | inr e ↦ e.1 ]
across_up_to false a b t h = elim h [ inl e ↦ omega (arith, ints, e) | inr e ↦ (let same = e.0 in omega (arith, ints)) ]

-- what stands in a band of one place along
pub record StandsAt (n : ℕ) (s : Bool → ℕ → Stretch) (v : Bool) (band : Rect) (opens : Bool) (p : Pix) : Type 0 where
  pub k : ℕ
  pub below : k < n
  pub stands : IsInside band opens (s v k) band.y0
  pub is : pixel_at v (s v k).at band.y0 ≡ p

stands_at : (n : ℕ) (s : Bool → ℕ → Stretch) (v : Bool) (band : Rect) (opens : Bool) (p : Pix) → band.y1 ≡ band.y0 +ℤ pos 1
    → SpotsOf n s v band opens p → StandsAt n s v band opens p
stands_at n s v band opens p one found =
    let q = s v found.0 in
    let test = some_of (is_inside band opens q) _ _ found.2 in
    let in_band = inside_of_test band opens q test.0 in
    let low : band.y0 ≤ℤ int_max q.low band.y0 = in_band.low in
    let high : int_max q.low band.y0 <ℤ band.y1 = in_band.high in
    let t_is : int_max q.low band.y0 ≡ band.y0 = omega (arith, ints) in
    record {
      k = found.0;
      below = found.1;
      stands = subst (IsInside band opens q) t_is in_band;
      is = ap (pixel_at v q.at) (sym t_is) ∙ test.1;
    }

spot_of : (n : ℕ) (s : Bool → ℕ → Stretch) (v : Bool) (band : Rect) (opens : Bool) (k : ℕ) (t : ℤ) → k < n → IsInside band opens (s v k) t
    → SpotsOf n s v band opens (pixel_at v (s v k).at (int_max (s v k).low band.y0))
spot_of n s v band opens k t below stands = (k, below, some_if (is_inside band opens (s v k)) _ (test_of_inside band opens (s v k) t stands).0)

reaches_spot : (n : ℕ) (s : Bool → ℕ → Stretch) (v : Bool) (band : Rect) (opens : Bool) (first : Option Pix) (k : ℕ) (t : ℤ) → IsFirst (SpotsOf n s v band opens) first
    → k < n → IsInside band opens (s v k) t → (p : Pix) × (first ≡ Some p) × IsUpTo p (pixel_at v (s v k).at t)
reaches_spot n s v band opens first k t is_first below stands =
    let reached = reaching first _ (is_first.before_all _ (spot_of n s v band opens k t below stands)) in (
      reached.0,
      reached.1,
      IsUpTo-trans reached.0 _ _ reached.2
          (pixel_up_to v (s v k).at (s v k).at (int_max (s v k).low band.y0) t (omega (arith, ints)) (test_of_inside band opens (s v k) t stands).1),
    )

-- a change of the set inside the band
change_stands : (inside : ℤ → ℤ → Bool) (n : ℕ) (s : Bool → ℕ → Stretch) (v : Bool) (band : Rect) (opens : Bool) (z t : ℤ) → IsDrawn inside n s
    → band.x0 <ℤ z → z <ℤ band.x1 → band.y0 ≤ℤ t → t <ℤ band.y1
    → seen v inside z t ≡ opens → seen v inside (z -ℤ pos 1) t ≡ not opens
    → (k : ℕ) × (k < n) × ((s v k).at ≡ z) × IsInside band opens (s v k) t
change_stands inside n s v band opens z t drawn after before low high here left =
    let found = drawn.all v z t (not_apart _ _ (here ∙ sym (not_not opens) ∙ ap not (sym left))) in
    let at : (s v found.0).at ≡ z = found.2 in (
      found.0,
      found.1,
      at,
      record {
        opens_is = sym (drawn.faces v found.0 t found.1 found.3).0 ∙ ap (λ a. seen v inside a t) at ∙ here;
        after = omega (arith, ints);
        before = omega (arith, ints);
        spans = found.3;
        low = low;
        high = high;
      },
    )

some_same : (o : Option Pix) (p q : Pix) → o ≡ Some p → o ≡ Some q → p ≡ q
some_same o p q e f = let g = sym e ∙ f in cc g

pub corner_covered : (inside : ℤ → ℤ → Bool) (n : ℕ) (s : Bool → ℕ → Stretch) (v : Bool) (band : Rect) (outward : Bool) (m o : Option Pix)
    → IsDrawn inside n s → band.y1 ≡ band.y0 +ℤ pos 1
    → IsFirst (SpotsOf n s v band outward) m → IsFirst (SpotsOf n s v band (not outward)) o
    → is_ahead o m ≡ true → seen v inside band.x0 band.y0 ≡ outward
corner_covered inside n s v band outward m None drawn one m_first o_first ahead = absurd (cc ahead)
corner_covered inside n s v band outward m (Some p) drawn one m_first o_first ahead =
    let found = stands_at n s v band (not outward) p one (o_first.is_one p refl) in
    let q = s v found.k in
    let after : band.x0 <ℤ q.at = found.stands.after in
    let q_before : q.at <ℤ band.x1 = found.stands.before in
    let left : seen v inside (q.at -ℤ pos 1) band.y0 ≡ outward =
    (drawn.faces v found.k band.y0 found.below found.stands.spans).1 ∙ ap not found.stands.opens_is ∙ not_not outward in
    elim (downward (λ a. seen v inside a band.y0) band.x0 (q.at -ℤ pos 1) (omega (arith, ints))) [
      | inl same ↦ same band.x0 (omega (arith, ints)) (omega (arith, ints)) ∙ left
      | inr change ↦
          let z = change.0 in
          let above : band.x0 <ℤ z = change.1 in
          let upto : z ≤ℤ (q.at -ℤ pos 1) = change.2 in
          let here : seen v inside z band.y0 ≡ outward = change.4 z (omega (arith, ints)) upto ∙ left in
          let before : seen v inside (z -ℤ pos 1) band.y0 ≡ not outward = apart_is_not _ _ change.3 ∙ ap not left in
          let stands = change_stands inside n s v band outward z band.y0 drawn above (omega (arith, ints)) (omega (arith, ints)) (omega (arith, ints)) here before in
          let at : (s v stands.0).at ≡ z = stands.2 in
          let first = reaches_spot n s v band outward m stands.0 band.y0 m_first stands.1 stands.3 in
          let up : IsUpTo p first.0 = ahead_up m first.0 first.1 ahead in
          let both : IsUpTo (pixel_at v q.at band.y0) (pixel_at v (s v stands.0).at band.y0) =
          IsUpTo-trans _ first.0 _ (subst (λ r. IsUpTo r first.0) (sym found.is) up) first.2 in
          let less : q.at ≤ℤ (s v stands.0).at = across_up_to v _ _ _ both in
          absurd (omega (arith, ints))
    ]
  where
    ahead_up : (m : Option Pix) (q : Pix) → m ≡ Some q → is_ahead (Some p) m ≡ true → IsUpTo p q
    ahead_up None q e h = absurd (cc e)
    ahead_up (Some r) q e h = subst (IsUpTo p) (some_same (Some r) r q refl e) (comes_before-true p r h)

pub corner_ahead : (inside : ℤ → ℤ → Bool) (n : ℕ) (s : Bool → ℕ → Stretch) (v : Bool) (band : Rect) (outward : Bool) (m o : Option Pix)
    → IsDrawn inside n s → band.y1 ≡ band.y0 +ℤ pos 1 → IsBeside inside v band outward
    → IsFirst (SpotsOf n s v band outward) m → IsFirst (SpotsOf n s v band (not outward)) o
    → seen v inside band.x0 band.y0 ≡ outward → is_ahead o m ≡ true
corner_ahead inside n s v band outward m o drawn one beside m_first o_first corner =
    elim (upward (λ a. seen v inside a band.y0) band.x0 beside.place beside.from) [
      | inl same ↦ absurd (not_apart _ _ beside.free (same beside.place beside.from (omega (arith, ints)) ∙ corner))
      | inr change ↦
          let z = change.0 in
          let above : band.x0 <ℤ z = change.1 in
          let upto : z ≤ℤ beside.place = change.2 in
          let last : beside.place <ℤ band.x1 = beside.below in
          let here : seen v inside z band.y0 ≡ not outward = apart_is_not _ _ change.3 ∙ ap not corner in
          let before : seen v inside (z -ℤ pos 1) band.y0 ≡ not (not outward) =
          change.4 (z -ℤ pos 1) (omega (arith, ints)) (omega (arith, ints)) ∙ corner ∙ sym (not_not outward) in
          let stands = change_stands inside n s v band (not outward) z band.y0 drawn above (omega (arith, ints)) (omega (arith, ints)) (omega (arith, ints)) here before in
          let at : (s v stands.0).at ≡ z = stands.2 in
          let first = reaches_spot n s v band (not outward) o stands.0 band.y0 o_first stands.1 stands.3 in
          let up : IsUpTo first.0 (pixel_at v z band.y0) = subst (λ a. IsUpTo first.0 (pixel_at v a band.y0)) at first.2 in
          subst (λ a. is_ahead a m ≡ true) (sym first.1) (by m m_first z first.0 above change.4 up)
    ]
  where
    by : (m : Option Pix) → IsFirst (SpotsOf n s v band outward) m → (z : ℤ) (p : Pix) → band.x0 <ℤ z
        → ((a : ℤ) → band.x0 ≤ℤ a → a <ℤ z → seen v inside a band.y0 ≡ seen v inside band.x0 band.y0)
        → IsUpTo p (pixel_at v z band.y0) → is_ahead (Some p) m ≡ true
    by None m_first z p above same up = refl
    by (Some q) m_first z p above same up = cases (comes_before p q) refl
      where
        cases : (b : Bool) → comes_before p q ≡ b → b ≡ true
        cases true e = refl
        cases false e =
            let found = stands_at n s v band outward q one (m_first.is_one q refl) in
            let r = s v found.k in
            let both : IsUpTo (pixel_at v r.at band.y0) (pixel_at v z band.y0) =
            IsUpTo-trans _ p _ (subst (λ t. IsUpTo t p) (sym found.is) (comes_before-false p q e)) up in
            let less : r.at ≤ℤ z = across_up_to v _ _ _ both in
            let after : band.x0 <ℤ r.at = found.stands.after in
            let left : seen v inside (r.at -ℤ pos 1) band.y0 ≡ not outward =
            (drawn.faces v found.k band.y0 found.below found.stands.spans).1 ∙ ap not found.stands.opens_is in
            absurd (not_apart _ _ left (same (r.at -ℤ pos 1) (omega (arith, ints)) (omega (arith, ints)) ∙ corner))

-- ---- all wrong counts

pub covers_of : (r : Rect) (x y : ℤ) → rect_cover r x y ≡ true → (r.x0 ≤ℤ x) × (x <ℤ r.x1) × (r.y0 ≤ℤ y) × (y <ℤ r.y1)
covers_of r x y e =
    let lower : (int_le r.x0 x && int_lt x r.x1) && int_le r.y0 y ≡ true = and_left _ _ e in
    let across : int_le r.x0 x && int_lt x r.x1 ≡ true = and_left _ _ lower in
    let a : int_le r.x0 x ≡ true = and_left _ _ across in
    let b : int_lt x r.x1 ≡ true = and_right _ _ across in
    let c : int_le r.y0 y ≡ true = and_right _ _ lower in
    let d : int_lt y r.y1 ≡ true = and_right _ _ e in
    (omega (arith, ints), omega (arith, ints), omega (arith, ints), omega (arith, ints))

pub miscount_first : (inside : ℤ → ℤ → Bool) (n : ℕ) (s : Bool → ℕ → Stretch) (r : Rect) (outward ahead : Bool) (a b : Option Pix)
    → IsDrawn inside n s → r.x0 <ℤ r.x1 → r.y0 <ℤ r.y1
    → IsFirst (SpotsOf n s true r outward) a → IsFirst (SpotsOf n s false (lowest false r) outward) b
    → (ahead ≡ true → inside r.x0 r.y0 ≡ outward) → (inside r.x0 r.y0 ≡ outward → ahead ≡ true)
    → IsFirst (MiscountAt inside r outward) (earlier (earlier a b) (if ahead then Some (corner_of r) else None))
miscount_first inside n s r outward ahead a b drawn wide high a_first b_first sound complete =
    IsFirst-cover _ _ _ there back
    (IsFirst-earlier _ (λ p. (if ahead then Some (corner_of r) else None) ≡ Some p) _ (if ahead then Some (corner_of r) else None)
    (IsFirst-earlier (SpotsOf n s true r outward) (SpotsOf n s false (lowest false r) outward) a b a_first b_first)
    (IsFirst-one (if ahead then Some (corner_of r) else None)))
  where
    there : (p : Pix) → (SpotsOf n s true r outward p ⊎ SpotsOf n s false (lowest false r) outward p) ⊎ ((if ahead then Some (corner_of r) else None) ≡ Some p)
        → MiscountAt inside r outward p
    there p found = elim found [
      | inl h ↦ elim h [
        | inl up ↦
            let q = s true up.0 in
            let test = some_of (is_inside r outward q) _ _ up.2 in
            let in_band = inside_of_test r outward q test.0 in
            let after : r.x0 <ℤ q.at = in_band.after in
            subst (MiscountAt inside r outward) test.1 (
              covers_in r q.at (int_max q.low r.y0) (omega (arith, ints)) in_band.before in_band.low in_band.high,
              (drawn.faces true up.0 (int_max q.low r.y0) up.1 in_band.spans).0 ∙ in_band.opens_is,
            )
        | inr level ↦
            let q = s false level.0 in
            let test = some_of (is_inside (lowest false r) outward q) _ _ level.2 in
            let in_band = inside_of_test (lowest false r) outward q test.0 in
            let after : r.y0 <ℤ q.at = in_band.after in
            let last : int_max q.low r.x0 <ℤ (r.x0 +ℤ pos 1) = in_band.high in
            subst (MiscountAt inside r outward) test.1 (
              covers_in r (int_max q.low r.x0) q.at in_band.low (omega (arith, ints)) (omega (arith, ints)) in_band.before,
              (drawn.faces false level.0 (int_max q.low r.x0) level.1 in_band.spans).0 ∙ in_band.opens_is,
            )
      ]
      | inr e ↦
          let test = some_of ahead (corner_of r) p e in
          subst (MiscountAt inside r outward) test.1
          (covers_in r r.x0 r.y0 (omega (arith, ints)) wide (omega (arith, ints)) high, sound test.0)
    ]

    column : (q : Pix) → r.y0 ≤ℤ q.y → q.y <ℤ r.y1 → r.x0 ≤ℤ q.x → inside r.x0 q.y ≡ outward
        → (p : Pix) × ((SpotsOf n s true r outward p ⊎ SpotsOf n s false (lowest false r) outward p) ⊎ ((if ahead then Some (corner_of r) else None) ≡ Some p)) × IsUpTo p q
    column q low top left wrong = elim (downward (λ b. inside r.x0 b) r.y0 q.y low) [
      | inl same ↦ (corner_of r, inr (some_if ahead _ (complete (same r.y0 (omega (arith, ints)) low ∙ wrong))), pixel_up_to true r.x0 q.x r.y0 q.y left low)
      | inr change ↦
          let z = change.0 in
          let above : r.y0 <ℤ z = change.1 in
          let upto : z ≤ℤ q.y = change.2 in
          let here : inside r.x0 z ≡ outward = change.4 z (omega (arith, ints)) upto ∙ wrong in
          let before : inside r.x0 (z -ℤ pos 1) ≡ not outward = apart_is_not _ _ change.3 ∙ ap not wrong in
          let stands = change_stands inside n s false (lowest false r) outward z r.x0 drawn above (omega (arith, ints)) (omega (arith, ints)) (omega (arith, ints)) here before in
          let at : (s false stands.0).at ≡ z = stands.2 in (
            _,
            inl (inr (spot_of n s false (lowest false r) outward stands.0 r.x0 stands.1 stands.3)),
            pixel_up_to false (s false stands.0).at q.y (int_max (s false stands.0).low r.x0) q.x (omega (arith, ints))
                (let first = (test_of_inside (lowest false r) outward (s false stands.0) r.x0 stands.3).1 in omega (arith, ints)),
          )
    ]

    back : (q : Pix) → MiscountAt inside r outward q
        → (p : Pix) × ((SpotsOf n s true r outward p ⊎ SpotsOf n s false (lowest false r) outward p) ⊎ ((if ahead then Some (corner_of r) else None) ≡ Some p)) × IsUpTo p q
    back q miscount =
        let within = covers_of r q.x q.y miscount.0 in
        let left : r.x0 ≤ℤ q.x = within.0 in
        let right : q.x <ℤ r.x1 = within.1 in
        let low : r.y0 ≤ℤ q.y = within.2 in
        let top : q.y <ℤ r.y1 = within.3 in
        elim (downward (λ a. inside a q.y) r.x0 q.x left) [
          | inl same ↦ column q low top left (same r.x0 (omega (arith, ints)) left ∙ miscount.1)
          | inr change ↦
              let z = change.0 in
              let above : r.x0 <ℤ z = change.1 in
              let upto : z ≤ℤ q.x = change.2 in
              let here : inside z q.y ≡ outward = change.4 z (omega (arith, ints)) upto ∙ miscount.1 in
              let before : inside (z -ℤ pos 1) q.y ≡ not outward = apart_is_not _ _ change.3 ∙ ap not miscount.1 in
              let stands = change_stands inside n s true r outward z q.y drawn above (omega (arith, ints)) low top here before in
              let at : (s true stands.0).at ≡ z = stands.2 in (
                _,
                inl (inl (spot_of n s true r outward stands.0 q.y stands.1 stands.3)),
                pixel_up_to true (s true stands.0).at q.x (int_max (s true stands.0).low r.y0) q.y (omega (arith, ints))
                    (test_of_inside r outward (s true stands.0) q.y stands.3).1,
              )
        ]

corner_turned : (v : Bool) (inside : ℤ → ℤ → Bool) (r : Rect) → seen v inside (lowest v r).x0 (lowest v r).y0 ≡ inside r.x0 r.y0
corner_turned true inside r = refl
corner_turned false inside r = refl

one_along : (v : Bool) (r : Rect) → (lowest v r).y1 ≡ (lowest v r).y0 +ℤ pos 1
one_along true r = refl
one_along false r = refl

pub miscount_is : (inside : ℤ → ℤ → Bool) (n : ℕ) (s : Bool → ℕ → Stretch) (v : Bool) (r : Rect) (outward : Bool) (a b m o : Option Pix)
    → IsDrawn inside n s → r.x0 <ℤ r.x1 → r.y0 <ℤ r.y1 → IsBeside inside v (lowest v r) outward
    → IsFirst (SpotsOf n s true r outward) a → IsFirst (SpotsOf n s false (lowest false r) outward) b
    → IsFirst (SpotsOf n s v (lowest v r) outward) m → IsFirst (SpotsOf n s v (lowest v r) (not outward)) o
    → IsFirst (MiscountAt inside r outward) (earlier (earlier a b) (if is_ahead o m then Some (corner_of r) else None))
miscount_is inside n s v r outward a b m o drawn wide high beside a_first b_first m_first o_first =
    miscount_first inside n s r outward (is_ahead o m) a b drawn wide high a_first b_first
    (λ e. sym (corner_turned v inside r) ∙ corner_covered inside n s v (lowest v r) outward m o drawn (one_along v r) m_first o_first e)
    (λ e. corner_ahead inside n s v (lowest v r) outward m o drawn (one_along v r) beside m_first o_first (corner_turned v inside r ∙ e))

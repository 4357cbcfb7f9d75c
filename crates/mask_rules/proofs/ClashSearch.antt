-- All that clashes with a stretch is near it.
use Rattle.std.proofs.Common.{◌≡◌, ℕ, ◌<◌, ℤ, pos, ◌+ℤ◌, ◌-ℤ◌, ◌≤ℤ◌, ◌<ℤ◌, Bool, true, false, Option, Some, None, List, length, get_or, int_le, refl, sym, subst, arith}
use Rattle.std.specs.Int.{int_max}
use Rattle.std.specs.Prelude.{Contains}
use Rattle.std.proofs.lemmas.Int.{ints}
use Rattle.outline_model.specs.declared.fragment.Fragment.{Fragment}
use Rattle.opc_base.specs.declared.plane.Rect.{Rect}
use Rattle.opc_base.specs.declared.plane.Pix.{Pix}
use Rattle.outline_model.specs.Near.{IsWithinReach}
use Rattle.outline_model.specs.Outline.{fragment_at}
use Rattle.opc_base.specs.Plane.{rect_cover}
use Rattle.mask_rules.specs.declared.clash.Clash.{Clash}
use Rattle.mask_rules.specs.declared.clash.Clash.TheVariants.{Meet, Narrow, Touch}
use Rattle.mask_rules.specs.declared.stretch.Stretch.{Stretch}
use Rattle.mask_rules.specs.Clashes.{IsClash, clash_pixel, is_meeting, is_narrow, is_touching, clash_area}
use Rattle.mask_rules.specs.First.{IsUpTo, ReachesUpTo}
use Rattle.mask_rules.specs.Stretches.{Spans, StandsIn, pixel_at, rect_at}
use Rattle.mask_rules.proofs.ClashFacts.{and_true, lt_true, some_of, pair_of_test, point_of_test, meeting_of_test}

le_true : (a b : ℤ) → a ≤ℤ b → int_le a b ≡ true
le_true a b less = by (int_le a b) refl
  where
    by : (t : Bool) → int_le a b ≡ t → t ≡ true
    by true e = refl
    by false e = absurd (omega (arith, ints))

pub covers_in : (r : Rect) (x y : ℤ) → r.x0 ≤ℤ x → x <ℤ r.x1 → r.y0 ≤ℤ y → y <ℤ r.y1 → rect_cover r x y ≡ true
covers_in r x y a b c d =
    and_true _ _ (and_true _ _ (and_true _ _ (le_true r.x0 x a) (lt_true x r.x1 b)) (le_true r.y0 y c)) (lt_true y r.y1 d)

pub covers_at : (v : Bool) (first past low high a t : ℤ) → first ≤ℤ a → a <ℤ past → low ≤ℤ t → t <ℤ high
    → rect_cover (rect_at v first past low high) (pixel_at v a t).x (pixel_at v a t).y ≡ true
covers_at true first past low high a t e f g h = covers_in (rect_at true first past low high) a t e f g h
covers_at false first past low high a t e f g h = covers_in (rect_at false first past low high) t a g h e f

-- how far apart two stretches can clash
abbrev pub reach : Clash → ℤ
reach Meet = pos 0
reach (Narrow covered least) = least
reach Touch = pos 0

-- each of two stretches that clash is in the rectangle clash_area the other
pub clash_near : (far : ℤ) (clash : Clash) (v : Bool) (p q : Stretch) (pixel : Pix) → IsClash clash → reach clash ≤ℤ far → clash_pixel clash v p q ≡ Some pixel
    → StandsIn (clash_area far v p) v q × StandsIn (clash_area far v q) v p
clash_near far Meet v p q pixel limits enough e =
    let m = meeting_of_test p q (some_of (is_meeting p q) _ _ e).0 in
    let t = int_max p.low q.low in
    let level : p.at ≡ q.at = m.level in
    let a : p.low ≤ℤ t = m.first.0 in let b : t <ℤ p.high = m.first.1 in
    let c : q.low ≤ℤ t = m.second.0 in let d : t <ℤ q.high = m.second.1 in (
      (t, m.second, covers_at v _ _ _ _ q.at t (within_reach p.at q.at level).0 (within_reach p.at q.at level).1 (a_low p.low t a) (a_high p.high t b)),
      (t, m.first, covers_at v _ _ _ _ p.at t (within_reach q.at p.at (sym level)).0 (within_reach q.at p.at (sym level)).1 (a_low q.low t c) (a_high q.high t d)),
    )
  where
    within_reach : (a b : ℤ) → a ≡ b → ((a -ℤ far) ≤ℤ b) × (b <ℤ (a +ℤ far +ℤ pos 1))
    within_reach a b e = (omega (arith, ints), omega (arith, ints))

    a_low : (a t : ℤ) → a ≤ℤ t → (a -ℤ pos 1) ≤ℤ t
    a_low a t e = omega (arith, ints)

    a_high : (a t : ℤ) → t <ℤ a → t <ℤ (a +ℤ pos 1)
    a_high a t e = omega (arith, ints)
clash_near far (Narrow covered least) v p q pixel limits enough e =
    let m = pair_of_test p q covered least (some_of (is_narrow covered least p q) _ _ e).0 in
    let t = int_max p.low q.low in
    let apart : p.at <ℤ q.at = m.apart in let short : q.at <ℤ (p.at +ℤ least) = m.short in
    let a : p.low ≤ℤ t = m.first.0 in let b : t <ℤ p.high = m.first.1 in
    let c : q.low ≤ℤ t = m.second.0 in let d : t <ℤ q.high = m.second.1 in
    let reach_q = after p.at q.at apart short in
    let reach_p = before p.at q.at apart short in (
      (t, m.second, covers_at v _ _ _ _ q.at t reach_q.0 reach_q.1 (a_low p.low t a) (a_high p.high t b)),
      (t, m.first, covers_at v _ _ _ _ p.at t reach_p.0 reach_p.1 (a_low q.low t c) (a_high q.high t d)),
    )
  where
    after : (a b : ℤ) → a <ℤ b → b <ℤ (a +ℤ least) → ((a -ℤ far) ≤ℤ b) × (b <ℤ (a +ℤ far +ℤ pos 1))
    after a b e f = (omega (arith, ints), omega (arith, ints))

    before : (a b : ℤ) → a <ℤ b → b <ℤ (a +ℤ least) → ((b -ℤ far) ≤ℤ a) × (a <ℤ (b +ℤ far +ℤ pos 1))
    before a b e f = (omega (arith, ints), omega (arith, ints))

    a_low : (a t : ℤ) → a ≤ℤ t → (a -ℤ pos 1) ≤ℤ t
    a_low a t e = omega (arith, ints)

    a_high : (a t : ℤ) → t <ℤ a → t <ℤ (a +ℤ pos 1)
    a_high a t e = omega (arith, ints)
clash_near far Touch v p q pixel limits enough e =
    let m = (point_of_test v p q (some_of (is_touching v p q) _ _ e).0).1 in
    let level : p.at ≡ q.at = m.level in let meets : p.high ≡ q.low = m.meets in
    let some : p.low <ℤ p.high = m.some in let some_too : q.low <ℤ q.high = m.some_too in
    let q_spans : Spans q q.low = (omega (arith, ints), some_too) in
    let p_spans : Spans p (p.high -ℤ pos 1) = (omega (arith, ints), omega (arith, ints)) in
    let q_along = along p.low p.high q.low some meets in
    let p_along = back p.high q.low q.high some_too meets in (
      (q.low, q_spans, covers_at v _ _ _ _ q.at q.low (within_reach p.at q.at level).0 (within_reach p.at q.at level).1 q_along.0 q_along.1),
      (p.high -ℤ pos 1, p_spans, covers_at v _ _ _ _ p.at (p.high -ℤ pos 1) (within_reach q.at p.at (sym level)).0 (within_reach q.at p.at (sym level)).1 p_along.0 p_along.1),
    )
  where
    within_reach : (a b : ℤ) → a ≡ b → ((a -ℤ far) ≤ℤ b) × (b <ℤ (a +ℤ far +ℤ pos 1))
    within_reach a b e = (omega (arith, ints), omega (arith, ints))

    along : (a b c : ℤ) → a <ℤ b → b ≡ c → ((a -ℤ pos 1) ≤ℤ c) × (c <ℤ (b +ℤ pos 1))
    along a b c e f = (omega (arith, ints), omega (arith, ints))

    back : (b c d : ℤ) → c <ℤ d → b ≡ c → ((c -ℤ pos 1) ≤ℤ (b -ℤ pos 1)) × ((b -ℤ pos 1) <ℤ (d +ℤ pos 1))
    back b c d e f = (omega (arith, ints), omega (arith, ints))

pub reaching : (o : Option Pix) (q : Pix) → ReachesUpTo o q → (p : Pix) × (o ≡ Some p) × IsUpTo p q
reaching None q h = absurd h
reaching (Some p) q h = (p, refl, h)

-- what `Near::within` gives for a rectangle
pub record IsAllNear (fs : List Fragment) (reach : ℤ) (r : Rect) (numbers : List ℕ) : Type 0 where
  pub below : (k d : ℕ) → k < length numbers → get_or numbers k d < length fs
  pub complete : (k : ℕ) (x y : ℤ) → k < length fs → rect_cover r x y ≡ true → IsWithinReach (fragment_at fs k) reach x y → Contains numbers k

pub contained_below : (fs : List Fragment) (reach : ℤ) (r : Rect) (numbers : List ℕ) (k : ℕ) → IsAllNear fs reach r numbers → Contains numbers k → k < length fs
contained_below fs reach r numbers k near at = subst (λ m. m < length fs) at.2 (near.below at.0 k at.1)

-- stretches that clash are not empty
pub some_clash : (clash : Clash) (v : Bool) (p q : Stretch) (pixel : Pix) → IsClash clash → clash_pixel clash v p q ≡ Some pixel → ¬ (p.low ≡ p.high)
some_clash clash v p q pixel limits e empty =
    let spans = (clash_near (reach clash) clash v p q pixel limits (omega (arith, ints)) e).1.1 in
    let low = spans.0 in let high = spans.1 in omega (arith, ints)

pub clash_some : (clash : Clash) (v : Bool) (p q : Stretch) (pixel : Pix) → IsClash clash → clash_pixel clash v p q ≡ Some pixel → ¬ (q.low ≡ q.high)
clash_some clash v p q pixel limits e empty =
    let spans = (clash_near (reach clash) clash v p q pixel limits (omega (arith, ints)) e).0.1 in
    let low = spans.0 in let high = spans.1 in omega (arith, ints)

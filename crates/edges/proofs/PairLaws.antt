-- What the order and the signs of the corners of a set say of the edges between them.
use Rattle.std.proofs.Common.{◌≡◌, ◌≢◌, ◌⊎◌, inl, inr, ℕ, zero, suc, ◌+◌, ◌<◌, ◌≤◌, ◌==◌, nat_lt, ℤ, pos, negsuc, ◌+ℤ◌, ◌-ℤ◌, ◌≤ℤ◌, ◌<ℤ◌, int_le, int_lt, Bool, true, false, ◌&&◌, List, [], ◌∷◌, length, refl, sym, ◌∙◌, ap, subst, arith}
use Rattle.std.specs.Ordering.{int_eq}
use Rattle.std.specs.Bool.{Decides}
use Rattle.std.specs.Int.{int_max}
use Rattle.std.proofs.lemmas.Int.{ints, clamps}
use Rattle.std.proofs.lemmas.Bool.Decides.{Decides-eqb, Decides-ltb, Decides-int_eq, Decides-and, Decides-or, not_from_Decides}
use Rattle.opc_base.specs.Runs.{IsCornerTouch}
use Rattle.outline_model.proofs.TargetJoins.{touch_round}
use Rattle.signed_points.specs.declared.points.Point.{Point}
use Rattle.opc_base.specs.Plane.{PixelSet}
use Rattle.edges.specs.Corners.{is_reached, level, bit, AreCorners}
use Rattle.signed_points.specs.Points.{point_at, PointPrecedes, IsAscending}

-- ---- which corners are reached

abbrev pub IsReached : Point → ℤ → ℤ → Type 0
IsReached c line place = (c.line <ℤ line) ⊎ ((c.line ≡ line) × (c.place ≤ℤ place))

Decides-int_le : (x y : ℤ) → Decides (int_le x y) (x ≤ℤ y)
Decides-int_le x y = ((λ h. omega (arith, ints)), (λ h. by (int_le x y) refl h))
  where
    by : (t : Bool) → int_le x y ≡ t → x ≤ℤ y → t ≡ true
    by true e h = refl
    by false e h = absurd (omega (arith, ints))

Decides-int_lt : (x y : ℤ) → Decides (int_lt x y) (x <ℤ y)
Decides-int_lt x y = ((λ h. omega (arith, ints)), (λ h. by (int_lt x y) refl h))
  where
    by : (t : Bool) → int_lt x y ≡ t → x <ℤ y → t ≡ true
    by true e h = refl
    by false e h = absurd (omega (arith, ints))

pub Decides-is_reached : (c : Point) (line place : ℤ) → Decides (is_reached c line place) (IsReached c line place)
Decides-is_reached c line place =
    Decides-or (int_lt c.line line) (int_eq c.line line && int_le c.place place) (Decides-int_lt c.line line)
    (Decides-and (int_eq c.line line) (int_le c.place place) (Decides-int_eq c.line line) (Decides-int_le c.place place))

unreached : (c : Point) (line place : ℤ) → ¬ IsReached c line place → is_reached c line place ≡ false
unreached c line place h = by (is_reached c line place) refl
  where
    by : (t : Bool) → is_reached c line place ≡ t → t ≡ false
    by true e = absurd (h ((Decides-is_reached c line place).0 e))
    by false e = refl

-- an earlier corner is reached earlier
pub earlier_reached : (c d : Point) (line place : ℤ) → PointPrecedes c d → IsReached d line place → IsReached c line place
earlier_reached c d line place (inl h) (inl r) = inl (omega (arith, ints))
earlier_reached c d line place (inl h) (inr r) = inl (let at = r.0 in omega (arith, ints))
earlier_reached c d line place (inr h) (inl r) = inl (let at = h.0 in omega (arith, ints))
earlier_reached c d line place (inr h) (inr r) = inr (h.0 ∙ r.0, (let a = h.1 in let b = r.1 in omega (arith, ints)))

-- ---- the level as the sum of the first signs

pub signs : List Point → ℕ → ℤ
signs cs zero = pos 0
signs cs (suc n) = signs cs n +ℤ (point_at cs n).sign

pub signs-zero : (cs : List Point) → signs cs 0 ≡ pos 0
unfolding signs
signs-zero cs = refl

pub signs-suc : (cs : List Point) (n : ℕ) → signs cs (suc n) ≡ signs cs n +ℤ (point_at cs n).sign
unfolding signs
signs-suc cs n = refl

signs-cons : (c : Point) (cs : List Point) (n : ℕ) → signs (c ∷ cs) (suc n) ≡ c.sign +ℤ signs cs n
unfolding signs
signs-cons c cs zero = omega (arith, ints)
signs-cons c cs (suc n) = let before = signs-cons c cs n in omega (arith, ints)

-- the first m corners are reached and no other
pub record ReachesFirst (cs : List Point) (line place : ℤ) (m : ℕ) : Type 0 where
  pub within : m ≤ length cs
  pub reached : (j : ℕ) → j < m → IsReached (point_at cs j) line place
  pub beyond : (j : ℕ) → m ≤ j → j < length cs → ¬ IsReached (point_at cs j) line place

pub level-first : (cs : List Point) (line place : ℤ) (m : ℕ) → ReachesFirst cs line place m → level cs line place ≡ signs cs m
unfolding level
level-first [] line place zero first = sym (signs-zero [])
level-first [] line place (suc m) first = absurd (let w = first.within in omega arith)
level-first (c ∷ cs) line place zero first =
    let none = unreached c line place (first.beyond 0 (omega arith) (omega arith)) in
    let others : level cs line place ≡ signs cs 0 =
    level-first cs line place 0 (record {
      within = omega arith;
      reached = λ j h. absurd (omega arith);
      beyond = λ j h k. first.beyond (suc j) (omega arith) (omega arith);
    }) in
    let a = signs-zero cs in let b = signs-zero (c ∷ cs) in
    rw none (omega (arith, ints))
level-first (c ∷ cs) line place (suc m) first =
    let some = (Decides-is_reached c line place).1 (first.reached 0 (omega arith)) in
    let others : level cs line place ≡ signs cs m =
    level-first cs line place m (record {
      within = (let w = first.within in omega arith);
      reached = λ j h. first.reached (suc j) (omega arith);
      beyond = λ j h k. first.beyond (suc j) (omega arith) (omega arith);
    }) in
    let a = signs-cons c cs m in
    rw some (omega (arith, ints))

-- how many corners are reached
pub reaches_first : (cs : List Point) (line place : ℤ) → IsAscending cs → (m : ℕ) × ReachesFirst cs line place m
reaches_first cs line place ascending =
    let all = upto (length cs) (omega arith) in
    (all.0, record { within = all.1; reached = all.2; beyond = all.3 })
  where
    -- among the first n corners
    upto : (n : ℕ) → n ≤ length cs
        → (m : ℕ) × (m ≤ n) × ((j : ℕ) → j < m → IsReached (point_at cs j) line place)
        × ((j : ℕ) → m ≤ j → j < n → ¬ IsReached (point_at cs j) line place)
    upto zero h = (0, omega arith, (λ j k. absurd (omega arith)), (λ j k l. absurd (omega arith)))
    upto (suc n) h = by (is_reached (point_at cs n) line place) refl (upto n (omega arith))
      where
        by : (t : Bool) → is_reached (point_at cs n) line place ≡ t
            → (m : ℕ) × (m ≤ n) × ((j : ℕ) → j < m → IsReached (point_at cs j) line place)
            × ((j : ℕ) → m ≤ j → j < n → ¬ IsReached (point_at cs j) line place)
            → (m : ℕ) × (m ≤ suc n) × ((j : ℕ) → j < m → IsReached (point_at cs j) line place)
            × ((j : ℕ) → m ≤ j → j < suc n → ¬ IsReached (point_at cs j) line place)
        by true e rest = (suc n, omega arith, (λ j k. here j k (j == n) refl), (λ j k l. absurd (omega arith)))
          where
            here : (j : ℕ) → j < suc n → (t : Bool) → (j == n) ≡ t → IsReached (point_at cs j) line place
            here j k true f =
                subst (λ i. IsReached (point_at cs i) line place) (sym ((Decides-eqb j n).0 f))
                ((Decides-is_reached (point_at cs n) line place).0 e)
            here j k false f =
                let apart : j ≢ n = not_from_Decides (j == n) (Decides-eqb j n) f in
                earlier_reached (point_at cs j) (point_at cs n) line place (ascending j n _ (omega arith) (omega arith))
                ((Decides-is_reached (point_at cs n) line place).0 e)
        by false e rest =
            (rest.0, (let w = rest.1 in omega arith), rest.2, (λ j k l. beyond j k l (j == n) refl))
          where
            beyond : (j : ℕ) → rest.0 ≤ j → j < suc n → (t : Bool) → (j == n) ≡ t → ¬ IsReached (point_at cs j) line place
            beyond j k l true f =
                subst (λ i. ¬ IsReached (point_at cs i) line place) (sym ((Decides-eqb j n).0 f))
                (not_from_Decides (is_reached (point_at cs n) line place) (Decides-is_reached (point_at cs n) line place) e)
            beyond j k l false f =
                let apart : j ≢ n = not_from_Decides (j == n) (Decides-eqb j n) f in
                rest.3 j k (omega arith)

-- ---- the levels at a corner and below it

reaches_at : (cs : List Point) (k : ℕ) → IsAscending cs → k < length cs
    → ReachesFirst cs (point_at cs k).line (point_at cs k).place (suc k)
reaches_at cs k ascending below = record { within = omega arith; reached = reached; beyond = beyond }
  where
    itself : IsReached (point_at cs k) (point_at cs k).line (point_at cs k).place
    itself = inr (refl, omega (arith, ints))

    reached : (j : ℕ) → j < suc k → IsReached (point_at cs j) (point_at cs k).line (point_at cs k).place
    reached j h = by (j == k) refl
      where
        by : (t : Bool) → (j == k) ≡ t → IsReached (point_at cs j) (point_at cs k).line (point_at cs k).place
        by true f = subst (λ i. IsReached (point_at cs i) (point_at cs k).line (point_at cs k).place) (sym ((Decides-eqb j k).0 f)) itself
        by false f =
            let apart : j ≢ k = not_from_Decides (j == k) (Decides-eqb j k) f in
            earlier_reached (point_at cs j) (point_at cs k) _ _ (ascending j k _ (omega arith) below) itself

    beyond : (j : ℕ) → suc k ≤ j → j < length cs → ¬ IsReached (point_at cs j) (point_at cs k).line (point_at cs k).place
    beyond j h l reached = by (ascending k j _ (omega arith) l) reached
      where
        by : PointPrecedes (point_at cs k) (point_at cs j) → IsReached (point_at cs j) (point_at cs k).line (point_at cs k).place → ⊥
        by (inl p) (inl r) = omega (arith, ints)
        by (inl p) (inr r) = let a = r.0 in omega (arith, ints)
        by (inr p) (inl r) = let a = p.0 in omega (arith, ints)
        by (inr p) (inr r) = let a = p.1 in let b = r.1 in omega (arith, ints)

reaches_below : (cs : List Point) (k : ℕ) → IsAscending cs → k < length cs
    → ReachesFirst cs (point_at cs k).line ((point_at cs k).place -ℤ pos 1) k
reaches_below cs k ascending below = record { within = omega arith; reached = reached; beyond = beyond }
  where
    reached : (j : ℕ) → j < k → IsReached (point_at cs j) (point_at cs k).line ((point_at cs k).place -ℤ pos 1)
    reached j h = by (ascending j k _ h below)
      where
        by : PointPrecedes (point_at cs j) (point_at cs k) → IsReached (point_at cs j) (point_at cs k).line ((point_at cs k).place -ℤ pos 1)
        by (inl p) = inl p
        by (inr p) = inr (p.0, (let a = p.1 in omega (arith, ints)))

    beyond : (j : ℕ) → k ≤ j → j < length cs → ¬ IsReached (point_at cs j) (point_at cs k).line ((point_at cs k).place -ℤ pos 1)
    beyond j h l reached = by (j == k) refl
      where
        itself : ¬ IsReached (point_at cs k) (point_at cs k).line ((point_at cs k).place -ℤ pos 1)
        itself (inl r) = omega (arith, ints)
        itself (inr r) = let a = r.1 in omega (arith, ints)

        by : (t : Bool) → (j == k) ≡ t → ⊥
        by true f = itself (subst (λ i. IsReached (point_at cs i) (point_at cs k).line ((point_at cs k).place -ℤ pos 1)) ((Decides-eqb j k).0 f) reached)
        by false f =
            let apart : j ≢ k = not_from_Decides (j == k) (Decides-eqb j k) f in
            itself (earlier_reached (point_at cs k) (point_at cs j) _ _ (ascending k j _ (omega arith) l) reached)

pub level_at : (inside : PixelSet) (cs : List Point) (k : ℕ) → AreCorners inside cs → k < length cs
    → signs cs (suc k) ≡ bit (inside (point_at cs k).line (point_at cs k).place) -ℤ bit (inside ((point_at cs k).line -ℤ pos 1) (point_at cs k).place)
level_at inside cs k corners below =
    sym (level-first cs _ _ (suc k) (reaches_at cs k corners.ascending below)) ∙ corners.change (point_at cs k).line (point_at cs k).place

pub level_below : (inside : PixelSet) (cs : List Point) (k : ℕ) → AreCorners inside cs → k < length cs
    → signs cs k ≡ bit (inside (point_at cs k).line ((point_at cs k).place -ℤ pos 1))
    -ℤ bit (inside ((point_at cs k).line -ℤ pos 1) ((point_at cs k).place -ℤ pos 1))
level_below inside cs k corners below =
    sym (level-first cs _ _ k (reaches_below cs k corners.ascending below)) ∙ corners.change (point_at cs k).line ((point_at cs k).place -ℤ pos 1)

-- ---- the signs

abbrev pub NoTouch : PixelSet → Type 0
NoTouch inside = (x y : ℤ) → ¬ IsCornerTouch inside x y

abbrev pub IsUnit : ℤ → Type 0
IsUnit z = (z ≡ pos 1) ⊎ (z ≡ negsuc 0)

pub sign_is_unit : (inside : PixelSet) (cs : List Point) (k : ℕ) → AreCorners inside cs → NoTouch inside → k < length cs
    → IsUnit (point_at cs k).sign
sign_is_unit inside cs k corners none below =
    by (inside line place) (inside (line -ℤ pos 1) place) (inside line (place -ℤ pos 1)) (inside (line -ℤ pos 1) (place -ℤ pos 1))
    refl refl refl refl (level_at inside cs k corners below) (level_below inside cs k corners below)
  where
    line : ℤ
    line = (point_at cs k).line

    place : ℤ
    place = (point_at cs k).place

    step : signs cs (suc k) ≡ signs cs k +ℤ (point_at cs k).sign
    step = signs-suc cs k

    signed : (point_at cs k).sign ≢ pos 0
    signed = corners.signed k _ below

    zero_not : signs cs (suc k) ≡ signs cs k → ⊥
    zero_not e = signed (let s = step in omega (arith, ints))

    by : (a b c d : Bool) → inside line place ≡ a → inside (line -ℤ pos 1) place ≡ b → inside line (place -ℤ pos 1) ≡ c
        → inside (line -ℤ pos 1) (place -ℤ pos 1) ≡ d
        → signs cs (suc k) ≡ bit (inside line place) -ℤ bit (inside (line -ℤ pos 1) place)
        → signs cs k ≡ bit (inside line (place -ℤ pos 1)) -ℤ bit (inside (line -ℤ pos 1) (place -ℤ pos 1))
        → IsUnit (point_at cs k).sign
    by a b c d e f g h up low = unit a b c d (touch a b c d e f g h)
        (up ∙ ap (λ t. bit t -ℤ bit (inside (line -ℤ pos 1) place)) e ∙ ap (λ t. bit a -ℤ bit t) f)
        (low ∙ ap (λ t. bit t -ℤ bit (inside (line -ℤ pos 1) (place -ℤ pos 1))) g ∙ ap (λ t. bit c -ℤ bit t) h)
      where
        touch : (a b c d : Bool) → inside line place ≡ a → inside (line -ℤ pos 1) place ≡ b → inside line (place -ℤ pos 1) ≡ c
            → inside (line -ℤ pos 1) (place -ℤ pos 1) ≡ d → d ≡ a → c ≡ b → d ≢ c → ⊥
        touch a b c d e f g h rising falling apart =
            touch_round inside line place none (h ∙ rising ∙ sym e) (g ∙ falling ∙ sym f) (λ same. apart (sym h ∙ same ∙ g))

        unit : (a b c d : Bool) → (d ≡ a → c ≡ b → d ≢ c → ⊥) → signs cs (suc k) ≡ bit a -ℤ bit b → signs cs k ≡ bit c -ℤ bit d
            → IsUnit (point_at cs k).sign
        unit true true true true apart up low = absurd (zero_not (up ∙ sym low))
        unit true true false false apart up low = absurd (zero_not (up ∙ sym low))
        unit false false true true apart up low = absurd (zero_not (up ∙ sym low))
        unit false false false false apart up low = absurd (zero_not (up ∙ sym low))
        unit true false true false apart up low = absurd (zero_not (up ∙ sym low))
        unit false true false true apart up low = absurd (zero_not (up ∙ sym low))
        unit true false false true apart up low = absurd (apart refl refl (λ e. cc e))
        unit false true true false apart up low = absurd (apart refl refl (λ e. cc e))
        unit true true true false apart up low = inr (let s = step in omega (arith, ints))
        unit true true false true apart up low = inl (let s = step in omega (arith, ints))
        unit true false true true apart up low = inl (let s = step in omega (arith, ints))
        unit true false false false apart up low = inl (let s = step in omega (arith, ints))
        unit false true true true apart up low = inr (let s = step in omega (arith, ints))
        unit false true false false apart up low = inr (let s = step in omega (arith, ints))
        unit false false true false apart up low = inr (let s = step in omega (arith, ints))
        unit false false false true apart up low = inl (let s = step in omega (arith, ints))

-- after an even number of corners the level is 0
pub signs-even : (inside : PixelSet) (cs : List Point) (i m : ℕ) → AreCorners inside cs → NoTouch inside → m ≡ i + i → m ≤ length cs
    → signs cs m ≡ pos 0
signs-even inside cs zero m corners none e below = ap (signs cs) (let z : m ≡ 0 = omega arith in z) ∙ signs-zero cs
signs-even inside cs (suc i) zero corners none e below = signs-zero cs
signs-even inside cs (suc i) (suc zero) corners none e below = absurd (omega arith)
signs-even inside cs (suc i) (suc (suc m)) corners none e below =
    by (signs-even inside cs i m corners none (omega arith) (omega arith))
    (sign_is_unit inside cs m corners none (omega arith)) (sign_is_unit inside cs (suc m) corners none (omega arith))
  where
    last : signs cs (suc (suc m)) ≡ signs cs (suc m) +ℤ (point_at cs (suc m)).sign
    last = signs-suc cs (suc m)

    first : signs cs (suc m) ≡ signs cs m +ℤ (point_at cs m).sign
    first = signs-suc cs m

    bound : (a b : Bool) → signs cs (suc (suc m)) ≡ bit a -ℤ bit b → (negsuc 0 ≤ℤ signs cs (suc (suc m))) × (signs cs (suc (suc m)) ≤ℤ pos 1)
    bound true true h = (omega (arith, ints), omega (arith, ints))
    bound true false h = (omega (arith, ints), omega (arith, ints))
    bound false true h = (omega (arith, ints), omega (arith, ints))
    bound false false h = (omega (arith, ints), omega (arith, ints))

    by : signs cs m ≡ pos 0 → IsUnit (point_at cs m).sign → IsUnit (point_at cs (suc m)).sign → signs cs (suc (suc m)) ≡ pos 0
    by before (inl s) (inr t) = let a = last in let b = first in omega (arith, ints)
    by before (inr s) (inl t) = let a = last in let b = first in omega (arith, ints)
    by before (inl s) (inl t) =
        let near = bound _ _ (level_at inside cs (suc m) corners (omega arith)) in
        absurd (let a = last in let b = first in let d = near.1 in omega (arith, ints))
    by before (inr s) (inr t) =
        let near = bound _ _ (level_at inside cs (suc m) corners (omega arith)) in
        absurd (let a = last in let b = first in let d = near.0 in omega (arith, ints))

pub signs-odd : (inside : PixelSet) (cs : List Point) (i m : ℕ) → AreCorners inside cs → NoTouch inside → m ≡ i + i → m < length cs
    → signs cs (suc m) ≡ (point_at cs m).sign
signs-odd inside cs i m corners none e below =
    let a = signs-suc cs m in let b = signs-even inside cs i m corners none e (omega arith) in omega (arith, ints)

-- ---- each corner of even number has the next one on its line

-- above this place the set has no pixel
abbrev pub EndsBelow : ℤ → PixelSet → Type 0
EndsBelow high inside = (line place : ℤ) → high ≤ℤ place → inside line place ≡ false

pub next_on_line : (inside : PixelSet) (cs : List Point) (high : ℤ) (i m : ℕ) → AreCorners inside cs → NoTouch inside → EndsBelow high inside
    → m ≡ i + i → m < length cs → (suc m < length cs) × ((point_at cs (suc m)).line ≡ (point_at cs m).line)
next_on_line inside cs high i m corners none empty e below = by (nat_lt (suc m) (length cs)) (int_eq (point_at cs (suc m)).line (point_at cs m).line) refl refl
  where
    line : ℤ
    line = (point_at cs m).line

    far : ℤ
    far = int_max high (point_at cs m).place

    far_high : high ≤ℤ far
    far_high = omega (arith, ints, clamps)

    far_place : (point_at cs m).place ≤ℤ far
    far_place = omega (arith, ints, clamps)

    -- if no further corner is on the line, the level is not 0 above the set
    alone : ((j : ℕ) → suc m ≤ j → j < length cs → ¬ IsReached (point_at cs j) line far) → ⊥
    alone beyond =
        let first : ReachesFirst cs line far (suc m) = record { within = omega arith; reached = reached; beyond = beyond } in
        let here : level cs line far ≡ signs cs (suc m) = level-first cs line far (suc m) first in
        let there = corners.change line far in
        let one = empty line far far_high in
        let two = empty (line -ℤ pos 1) far far_high in
        let sum : level cs line far ≡ pos 0 = there ∙ ap (λ t. bit t -ℤ bit (inside (line -ℤ pos 1) far)) one ∙ ap (λ t. pos 0 -ℤ bit t) two in
        let odd = signs-odd inside cs i m corners none e below in
        corners.signed m _ below (sym odd ∙ sym here ∙ sum)
      where
        itself : IsReached (point_at cs m) line far
        itself = inr (refl, far_place)

        reached : (j : ℕ) → j < suc m → IsReached (point_at cs j) line far
        reached j h = by (j == m) refl
          where
            by : (t : Bool) → (j == m) ≡ t → IsReached (point_at cs j) line far
            by true f = subst (λ i. IsReached (point_at cs i) line far) (sym ((Decides-eqb j m).0 f)) itself
            by false f =
                let apart : j ≢ m = not_from_Decides (j == m) (Decides-eqb j m) f in
                earlier_reached (point_at cs j) (point_at cs m) _ _ (corners.ascending j m _ (omega arith) below) itself

    by : (s t : Bool) → nat_lt (suc m) (length cs) ≡ s → int_eq (point_at cs (suc m)).line (point_at cs m).line ≡ t
        → (suc m < length cs) × ((point_at cs (suc m)).line ≡ (point_at cs m).line)
    by true true f g = ((Decides-ltb (suc m) (length cs)).0 f, (Decides-int_eq _ _).0 g)
    by false t f g =
        let ended : ¬ (suc m < length cs) = not_from_Decides _ (Decides-ltb (suc m) (length cs)) f in
        absurd (alone (λ j h l. absurd (ended (omega arith))))
    by true false f g =
        absurd (alone (λ j h l r. off_line j h l r))
      where
        inside_list : suc m < length cs
        inside_list = (Decides-ltb (suc m) (length cs)).0 f

        other : (point_at cs (suc m)).line ≢ line
        other = not_from_Decides _ (Decides-int_eq _ _) g

        later : line <ℤ (point_at cs (suc m)).line
        later = from (corners.ascending m (suc m) _ (omega arith) inside_list)
          where
            from : PointPrecedes (point_at cs m) (point_at cs (suc m)) → line <ℤ (point_at cs (suc m)).line
            from (inl p) = p
            from (inr p) = absurd (other (sym p.0))

        off_line : (j : ℕ) → suc m ≤ j → j < length cs → IsReached (point_at cs j) line far → ⊥
        off_line j h l r = at (j == suc m) refl
          where
            not_next : IsReached (point_at cs (suc m)) line far → ⊥
            not_next (inl q) = let a = later in omega (arith, ints)
            not_next (inr q) = other q.0

            at : (t : Bool) → (j == suc m) ≡ t → ⊥
            at true k = not_next (subst (λ i. IsReached (point_at cs i) line far) ((Decides-eqb j (suc m)).0 k) r)
            at false k =
                let apart : j ≢ suc m = not_from_Decides (j == suc m) (Decides-eqb j (suc m)) k in
                not_next (earlier_reached (point_at cs (suc m)) (point_at cs j) _ _ (corners.ascending (suc m) j _ (omega arith) l) r)

-- the first corners up to one that is reached, of which the next is not
pub reaches_between : (cs : List Point) (line place : ℤ) (m : ℕ) → IsAscending cs → m < length cs → IsReached (point_at cs m) line place
    → (suc m < length cs → ¬ IsReached (point_at cs (suc m)) line place) → ReachesFirst cs line place (suc m)
reaches_between cs line place m ascending below here next = record { within = omega arith; reached = reached; beyond = beyond }
  where
    reached : (j : ℕ) → j < suc m → IsReached (point_at cs j) line place
    reached j h = by (j == m) refl
      where
        by : (t : Bool) → (j == m) ≡ t → IsReached (point_at cs j) line place
        by true f = subst (λ i. IsReached (point_at cs i) line place) (sym ((Decides-eqb j m).0 f)) here
        by false f =
            let apart : j ≢ m = not_from_Decides (j == m) (Decides-eqb j m) f in
            earlier_reached (point_at cs j) (point_at cs m) _ _ (ascending j m _ (omega arith) below) here

    beyond : (j : ℕ) → suc m ≤ j → j < length cs → ¬ IsReached (point_at cs j) line place
    beyond j h l r = by (j == suc m) refl
      where
        by : (t : Bool) → (j == suc m) ≡ t → ⊥
        by true f = next (omega arith) (subst (λ i. IsReached (point_at cs i) line place) ((Decides-eqb j (suc m)).0 f) r)
        by false f =
            let apart : j ≢ suc m = not_from_Decides (j == suc m) (Decides-eqb j (suc m)) f in
            next (omega arith) (earlier_reached (point_at cs (suc m)) (point_at cs j) _ _ (ascending (suc m) j _ (omega arith) l) r)

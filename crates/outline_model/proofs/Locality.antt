-- Where a mask that changes in one rectangle alone can break a rule that it kept: near that rectangle.
use Rattle.std.proofs.Common.{◌≡◌, inl, inr, ℤ, pos, ◌+ℤ◌, ◌-ℤ◌, ◌≤ℤ◌, ◌<ℤ◌, Bool, true, false, not, ◌&&◌, int_le, int_lt, refl, sym, ◌∙◌, ap, arith}
use Rattle.std.proofs.lemmas.Int.{ints}
use Rattle.opc_base.specs.declared.plane.Rect.{Rect}
use Rattle.opc_base.specs.Plane.{rect_cover}
use Rattle.outline_model.specs.Near.{IsNear}
use Rattle.opc_base.specs.Runs.{IsRun, LiesInShortRun, IsTooNarrow, IsCornerTouch}
use Rattle.opc_base.specs.Plane.{outside}

-- ---- pixels that a rectangle does not cover

pub rect_cover-out : (r : Rect) (x y : ℤ) → ¬ ((r.x0 ≤ℤ x) × (x <ℤ r.x1) × (r.y0 ≤ℤ y) × (y <ℤ r.y1)) → rect_cover r x y ≡ false
rect_cover-out r x y out = by (int_le r.x0 x) (int_lt x r.x1) (int_le r.y0 y) (int_lt y r.y1) refl refl refl refl
  where
    by : (p q u v : Bool) → int_le r.x0 x ≡ p → int_lt x r.x1 ≡ q → int_le r.y0 y ≡ u → int_lt y r.y1 ≡ v → ((p && q) && u) && v ≡ false
    by false q u v e f g h = refl
    by true false u v e f g h = refl
    by true true false v e f g h = refl
    by true true true false e f g h = refl
    by true true true true e f g h = absurd (out (omega (arith, ints), omega (arith, ints), omega (arith, ints), omega (arith, ints)))

-- the two sets of pixels differ in the rectangle alone
abbrev pub SameOutside : Rect → (ℤ → ℤ → Bool) → (ℤ → ℤ → Bool) → Type 0
SameOutside r old new = (x y : ℤ) → ¬ ((r.x0 ≤ℤ x) × (x <ℤ r.x1) × (r.y0 ≤ℤ y) × (y <ℤ r.y1)) → new x y ≡ old x y

-- ---- runs

run_as_before : (old new : ℤ → Bool) (first past : ℤ)
    → ((t : ℤ) → (first -ℤ pos 1) ≤ℤ t → t ≤ℤ past → new t ≡ old t) → IsRun new first past → IsRun old first past
run_as_before old new first past same run = record {
  some = run.some;
  all = λ t h g. sym (same t (omega (arith, ints)) (omega (arith, ints))) ∙ run.all t h g;
  before = sym (same (first -ℤ pos 1) (omega (arith, ints)) (let some = run.some in omega (arith, ints))) ∙ run.before;
  after = sym (same past (let some = run.some in omega (arith, ints)) (omega (arith, ints))) ∙ run.after;
}

short_run_as_before : (old new : ℤ → Bool) (least s : ℤ) (short : LiesInShortRun new least s)
    → ((t : ℤ) → (short.first -ℤ pos 1) ≤ℤ t → t ≤ℤ short.past → new t ≡ old t) → LiesInShortRun old least s
short_run_as_before old new least s short same = record {
  first = short.first;
  past = short.past;
  run = run_as_before old new short.first short.past same short.run;
  from = short.from;
  to = short.to;
  short = short.short;
}

-- A run that is too short now and was not is near the rectangle, in a row and in a column.
row_near : (old new : ℤ → ℤ → Bool) (r : Rect) (least x y : ℤ) → SameOutside r old new
    → LiesInShortRun (λ s. new s y) least x → ¬ LiesInShortRun (λ s. old s y) least x → IsNear r least x y
row_near old new r least x y same short kept =
    by (int_le r.x0 short.past) (int_le short.first r.x1) (int_le r.y0 y) (int_lt y r.y1) refl refl refl refl
  where
    some : short.first <ℤ short.past
    some = short.run.some

    from : short.first ≤ℤ x
    from = short.from

    to : x <ℤ short.past
    to = short.to

    little : short.past <ℤ (short.first +ℤ least)
    little = short.short

    broken : ((t : ℤ) → (short.first -ℤ pos 1) ≤ℤ t → t ≤ℤ short.past → ¬ ((r.x0 ≤ℤ t) × (t <ℤ r.x1) × (r.y0 ≤ℤ y) × (y <ℤ r.y1))) → IsNear r least x y
    broken out = absurd (kept (short_run_as_before (λ s. old s y) (λ s. new s y) least x short (λ t h g. same t y (out t h g))))

    by : (p q u v : Bool) → int_le r.x0 short.past ≡ p → int_le short.first r.x1 ≡ q → int_le r.y0 y ≡ u → int_lt y r.y1 ≡ v → IsNear r least x y
    by false q u v e f g h = broken (λ t a b c. let low = c.0 in omega (arith, ints))
    by true false u v e f g h = broken (λ t a b c. let high = c.1 in omega (arith, ints))
    by true true false v e f g h = broken (λ t a b c. let low = c.2 in omega (arith, ints))
    by true true true false e f g h = broken (λ t a b c. let high = c.3 in omega (arith, ints))
    by true true true true e f g h = record {
      left = omega (arith, ints);
      right = omega (arith, ints);
      below = omega (arith, ints);
      above = omega (arith, ints);
    }

column_near : (old new : ℤ → ℤ → Bool) (r : Rect) (least x y : ℤ) → SameOutside r old new
    → LiesInShortRun (λ s. new x s) least y → ¬ LiesInShortRun (λ s. old x s) least y → IsNear r least x y
column_near old new r least x y same short kept =
    by (int_le r.y0 short.past) (int_le short.first r.y1) (int_le r.x0 x) (int_lt x r.x1) refl refl refl refl
  where
    some : short.first <ℤ short.past
    some = short.run.some

    from : short.first ≤ℤ y
    from = short.from

    to : y <ℤ short.past
    to = short.to

    little : short.past <ℤ (short.first +ℤ least)
    little = short.short

    broken : ((t : ℤ) → (short.first -ℤ pos 1) ≤ℤ t → t ≤ℤ short.past → ¬ ((r.x0 ≤ℤ x) × (x <ℤ r.x1) × (r.y0 ≤ℤ t) × (t <ℤ r.y1))) → IsNear r least x y
    broken out = absurd (kept (short_run_as_before (λ s. old x s) (λ s. new x s) least y short (λ t h g. same x t (out t h g))))

    by : (p q u v : Bool) → int_le r.y0 short.past ≡ p → int_le short.first r.y1 ≡ q → int_le r.x0 x ≡ u → int_lt x r.x1 ≡ v → IsNear r least x y
    by false q u v e f g h = broken (λ t a b c. let low = c.2 in omega (arith, ints))
    by true false u v e f g h = broken (λ t a b c. let high = c.3 in omega (arith, ints))
    by true true false v e f g h = broken (λ t a b c. let low = c.0 in omega (arith, ints))
    by true true true false e f g h = broken (λ t a b c. let high = c.1 in omega (arith, ints))
    by true true true true e f g h = record {
      left = omega (arith, ints);
      right = omega (arith, ints);
      below = omega (arith, ints);
      above = omega (arith, ints);
    }

pub narrow_near : (old new : ℤ → ℤ → Bool) (r : Rect) (least x y : ℤ) → SameOutside r old new
    → IsTooNarrow new least x y → ¬ IsTooNarrow old least x y → IsNear r least x y
narrow_near old new r least x y same broken kept =
    elim broken [
      | inl row ↦ row_near old new r least x y same row (λ h. kept (inl h))
      | inr column ↦ column_near old new r least x y same column (λ h. kept (inr h))
    ]

-- the same for the pixels that are not covered
pub space_near : (old new : ℤ → ℤ → Bool) (r : Rect) (least x y : ℤ) → SameOutside r old new
    → IsTooNarrow (outside new) least x y → ¬ IsTooNarrow (outside old) least x y → IsNear r least x y
space_near old new r least x y same =
    narrow_near (outside old) (outside new) r least x y (λ s t out. ap not (same s t out))

-- ---- corners

touch_as_before : (old new : ℤ → ℤ → Bool) (x y : ℤ)
    → new x y ≡ old x y → new (x +ℤ pos 1) y ≡ old (x +ℤ pos 1) y → new x (y +ℤ pos 1) ≡ old x (y +ℤ pos 1)
    → new (x +ℤ pos 1) (y +ℤ pos 1) ≡ old (x +ℤ pos 1) (y +ℤ pos 1) → IsCornerTouch new x y → IsCornerTouch old x y
touch_as_before old new x y e f g h touch = record {
  rising = sym e ∙ touch.rising ∙ h;
  falling = sym f ∙ touch.falling ∙ g;
  apart = λ same. touch.apart (e ∙ same ∙ sym f);
}

pub touch_near : (old new : ℤ → ℤ → Bool) (r : Rect) (x y : ℤ) → SameOutside r old new
    → IsCornerTouch new x y → ¬ IsCornerTouch old x y → IsNear r (pos 1) x y
touch_near old new r x y same touch kept =
    by (int_le r.x0 (x +ℤ pos 1)) (int_lt x r.x1) (int_le r.y0 (y +ℤ pos 1)) (int_lt y r.y1) refl refl refl refl
  where
    broken : ((s t : ℤ) → x ≤ℤ s → s ≤ℤ (x +ℤ pos 1) → y ≤ℤ t → t ≤ℤ (y +ℤ pos 1) → ¬ ((r.x0 ≤ℤ s) × (s <ℤ r.x1) × (r.y0 ≤ℤ t) × (t <ℤ r.y1)))
        → IsNear r (pos 1) x y
    broken out = absurd (kept (touch_as_before old new x y
        (same x y (out x y (omega (arith, ints)) (omega (arith, ints)) (omega (arith, ints)) (omega (arith, ints))))
        (same (x +ℤ pos 1) y (out (x +ℤ pos 1) y (omega (arith, ints)) (omega (arith, ints)) (omega (arith, ints)) (omega (arith, ints))))
        (same x (y +ℤ pos 1) (out x (y +ℤ pos 1) (omega (arith, ints)) (omega (arith, ints)) (omega (arith, ints)) (omega (arith, ints))))
        (same (x +ℤ pos 1) (y +ℤ pos 1) (out (x +ℤ pos 1) (y +ℤ pos 1) (omega (arith, ints)) (omega (arith, ints)) (omega (arith, ints)) (omega (arith, ints))))
        touch))

    by : (p q u v : Bool) → int_le r.x0 (x +ℤ pos 1) ≡ p → int_lt x r.x1 ≡ q → int_le r.y0 (y +ℤ pos 1) ≡ u → int_lt y r.y1 ≡ v → IsNear r (pos 1) x y
    by false q u v e f g h = broken (λ s t a b c d i. let low = i.0 in omega (arith, ints))
    by true false u v e f g h = broken (λ s t a b c d i. let high = i.1 in omega (arith, ints))
    by true true false v e f g h = broken (λ s t a b c d i. let low = i.2 in omega (arith, ints))
    by true true true false e f g h = broken (λ s t a b c d i. let high = i.3 in omega (arith, ints))
    by true true true true e f g h = record {
      left = omega (arith, ints);
      right = omega (arith, ints);
      below = omega (arith, ints);
      above = omega (arith, ints);
    }

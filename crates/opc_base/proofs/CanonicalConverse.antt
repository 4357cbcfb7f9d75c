-- The canonical rectangles of any set of pixels keep all that is asked of a canonical list.
use Rattle.std.proofs.Common.{◌≡◌, ◌⊎◌, inl, inr, ℕ, ◌<◌, ℤ, pos, ◌-ℤ◌, ◌≤ℤ◌, ◌<ℤ◌, Bool, false, List, length, get_or, sym, ◌∙◌, subst, arith}
use Rattle.std.proofs.lemmas.Int.{ints, by_lt_z}
use Rattle.std.proofs.lemmas.List.{get_or_default}
use Rattle.opc_base.specs.declared.plane.Rect.{Rect}
use Rattle.opc_base.specs.Runs.{IsRun}
use Rattle.opc_base.specs.Canonical.{AreCanonical, IsCanonical, IsSolid, IsStack, Precedes, RunsInRow, StartsBefore}
use Rattle.opc_base.proofs.CanonicalLaws.{same_run, true_false}

-- the lower start is first
starts_low : (r s : Rect) → StartsBefore r s → r.y0 ≤ℤ s.y0
starts_low r s (inl low) = omega (arith, ints)
starts_low r s (inr level) = let same = level.0 in omega (arith, ints)

same_start : (r s : Rect) → StartsBefore r s → r.y0 ≡ s.y0 → r.x0 <ℤ s.x0
same_start r s (inl low) same = omega (arith, ints)
same_start r s (inr level) same = level.1

-- one row has the columns of both
run_of : (inside : ℤ → ℤ → Bool) (r s : Rect) (y : ℤ) → r.x0 ≡ s.x0 → r.x1 ≡ s.x1 → RunsInRow inside r y → RunsInRow inside s y
run_of inside r s y first past run =
    subst (λ b. IsRun (λ t. inside t y) s.x0 b) past (subst (λ a. IsRun (λ t. inside t y) a r.x1) first run)

-- two stacks that share a row have other columns
other_columns : (inside : ℤ → ℤ → Bool) (r s : Rect) → IsStack inside r → IsStack inside s → StartsBefore r s
    → s.y0 <ℤ r.y1 → r.x0 ≡ s.x0 → r.x1 ≡ s.x1 → ⊥
other_columns inside r s low high order shared first past =
    by_lt_z r.y0 s.y0
    (λ under. high.before (run_of inside r s (s.y0 -ℤ pos 1) first past (low.rows (s.y0 -ℤ pos 1) (omega (arith, ints)) (omega (arith, ints)))))
    (λ level. let from = starts_low r s order in let left = same_start r s order (omega (arith, ints)) in omega (arith, ints))

-- and a gap between them
gap_between : (inside : ℤ → ℤ → Bool) (r s : Rect) → IsStack inside r → IsStack inside s → StartsBefore r s
    → s.y0 <ℤ r.y1 → (r.x1 <ℤ s.x0) ⊎ (s.x1 <ℤ r.x0)
gap_between inside r s low high order shared =
    let from = starts_low r s order in
    let tall = high.some in
    let one : IsRun (λ t. inside t s.y0) r.x0 r.x1 = low.rows s.y0 from shared in
    let two : IsRun (λ t. inside t s.y0) s.x0 s.x1 = high.rows s.y0 (omega (arith, ints)) tall in
    let wide = one.some in let wide_too = two.some in
    by_lt_z r.x1 s.x0 inl
    (λ not_left. by_lt_z s.x1 r.x0 inr
    (λ not_right. absurd (by_lt_z s.x0 r.x1
    (λ starts. by_lt_z r.x0 s.x1
    (λ ends. by_lt_z s.x0 r.x0
    (λ less. let same = same_run (λ t. inside t s.y0) r.x0 r.x1 s.x0 s.x1 one two (omega (arith, ints)) ends in
    other_columns inside r s low high order shared (sym same.0) (sym same.1))
    (λ most. let same = same_run (λ t. inside t s.y0) s.x0 s.x1 r.x0 r.x1 two one most starts in
    other_columns inside r s low high order shared same.0 same.1))
    (λ meets. let here : s.x1 ≡ r.x0 = omega (arith, ints) in
    true_false (sym (one.all r.x0 (omega (arith, ints)) wide) ∙ subst (λ x. inside x s.y0 ≡ false) here two.after)))
    (λ meets. let here : r.x1 ≡ s.x0 = omega (arith, ints) in
    true_false (sym (two.all s.x0 (omega (arith, ints)) wide_too) ∙ subst (λ x. inside x s.y0 ≡ false) here one.after)))))

precedes : (inside : ℤ → ℤ → Bool) (r s : Rect) → IsStack inside r → IsStack inside s → StartsBefore r s → Precedes r s
precedes inside r s low high order = record {
  sorted = order;
  apart = gap_between inside r s low high order;
  maximal = λ meets first past. let tall = high.some in
      low.after (subst (λ y. RunsInRow inside r y) (sym meets)
      (run_of inside s r s.y0 (sym first) (sym past) (high.rows s.y0 (omega (arith, ints)) tall)));
}

solid_stack : (inside : ℤ → ℤ → Bool) (r : Rect) → IsStack inside r → IsSolid r
solid_stack inside r stack = let tall = stack.some in record {
  wide = (stack.rows r.y0 (omega (arith, ints)) tall).some;
  high = stack.some;
}

pub canonical_for_any : (inside : ℤ → ℤ → Bool) (rects : List Rect) → IsCanonical inside rects → AreCanonical rects
canonical_for_any inside rects canonical = record {
  solid = λ k d below. solid_stack inside (get_or rects k d) (canonical.stacks (get_or rects k d) (k, below, itself rects k d below));
  pairs = λ i j d before below. precedes inside (get_or rects i d) (get_or rects j d)
      (canonical.stacks (get_or rects i d) (i, omega arith, itself rects i d (omega arith)))
      (canonical.stacks (get_or rects j d) (j, below, itself rects j d below))
      (canonical.sorted i j d before below);
}
  where
    itself : (rects : List Rect) (k : ℕ) (d : Rect) → k < length rects → get_or rects k (get_or rects k d) ≡ get_or rects k d
    itself rects k d below = get_or_default rects k (get_or rects k d) d below

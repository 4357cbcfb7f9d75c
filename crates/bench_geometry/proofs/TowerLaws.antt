-- The rows of a tower are canonical rectangles.
use Rattle.std.proofs.Common.{◌≡◌, ◌≢◌, ℕ, ◌+◌, ◌%◌, ◌<◌, ◌≤◌, List, length, get_or, All, sym, ◌∙◌, ap, subst, inl, arith}
use Rattle.std.proofs.lemmas.Int.{ints}
use Rattle.opc_base.specs.declared.plane.Rect.{Rect}
use Rattle.opc_base.specs.Canonical.{AreCanonical, IsSolid, Precedes}
use Rattle.opc_base.specs.Plane.{IsRectWithin}
use Rattle.bench_geometry.specs.Tower.{tower_row}

-- these are the first rows of a tower
abbrev pub AreRows : List Rect → Type 0
AreRows rects = (k : ℕ) (d : Rect) → k < length rects → get_or rects k d ≡ tower_row k

row_solid : (k : ℕ) → IsSolid (tower_row k)
row_solid k = record { wide = omega (arith, ints); high = omega (arith, ints) }

other_width : (j : ℕ) → 10 + j % 2 ≢ 10 + (j + 1) % 2
other_width j e = omega (arith, e)

row_precedes : (j k : ℕ) → j < k → Precedes (tower_row j) (tower_row k)
row_precedes j k below = record {
  sorted = inl (omega (arith, ints));
  apart = λ shares. absurd (omega (arith, ints));
  maximal = λ touch columns same. (
      let next : k ≡ j + 1 = omega (arith, ints) in
      let widths : 10 + j % 2 ≡ 10 + k % 2 = omega (arith, ints, same) in
      other_width j (widths ∙ ap (λ n. 10 + n % 2) next));
}

pub rows_canonical : (rects : List Rect) → AreRows rects → AreCanonical rects
rows_canonical rects rows = record {
  solid = λ k d below. subst IsSolid (sym (rows k d below)) (row_solid k);
  pairs = λ j k d below within. (
      let first : j < length rects = omega arith in
      subst (λ r. Precedes r (get_or rects k d)) (sym (rows j d first))
      (subst (λ s. Precedes (tower_row j) s) (sym (rows k d within)) (row_precedes j k below)));
}

row_within : (k : ℕ) → k < 65536 → IsRectWithin 1048000 (tower_row k)
row_within k below = (omega (arith, ints), omega (arith, ints), omega (arith, ints), omega (arith, ints))

pub rows_within : (rects : List Rect) → AreRows rects → length rects ≤ 65536 → All (IsRectWithin 1048000) rects
rows_within rects rows few = λ k d below. (
    let small : k < 65536 = omega arith in
    subst (λ r. IsRectWithin 1048000 r) (sym (rows k d below)) (row_within k small))

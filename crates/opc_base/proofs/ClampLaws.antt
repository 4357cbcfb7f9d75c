-- Blocks at places beyond the reach, and blocks as sums of whole ranges.
use Rattle.std.proofs.Common.{◌≡◌, ℕ, zero, suc, sym, add-one, ◌+◌, ◌*◌, ◌<◌, ◌≤◌, Bool, true, false, IsFalse, ℤ, pos, ◌+ℤ◌, ◌-ℤ◌, ◌≤ℤ◌, ◌<ℤ◌, neg_ℤ, ◌&&◌, int_le, unsigned_abs, if◌then◌else◌, ap, ap₂, ◌∙◌, arith}
use Rattle.std.proofs.lemmas.Int.{ints, clamps}
use Rattle.std.specs.Int.{int_min, int_max}
use Rattle.std.proofs.Math.Path.{fun_ext}
use Rattle.opc_base.specs.Blocks.{block, seen_sum, place_before}
use Rattle.opc_base.specs.Plane.{PixelSet}
use Rattle.opc_base.specs.Sums.{sum_range, sum_within}
use Rattle.opc_base.proofs.SumLaws.{sum_window-same_within, sum_window-zero, sum_range-upto, sum_range-zero, sum_range-bound, sum_range-next, sum_range_start}

-- a set with no pixel within the reach gives nothing
pub seen_sum-far : (r : ℕ) (k : ℤ → ℤ → ℤ) (pixels : PixelSet) (x y : ℤ) →
    ((u v : ℤ) → neg_ℤ (pos r) ≤ℤ u → u ≤ℤ pos r → neg_ℤ (pos r) ≤ℤ v → v ≤ℤ pos r → IsFalse (pixels (x -ℤ u) (y -ℤ v))) →
    seen_sum r k pixels x y ≡ pos 0
seen_sum-far r k pixels x y far =
    sum_window-same_within r _ (λ u v. pos 0) (λ u v low_u high_u low_v high_v. rw (far u v low_u high_u low_v high_v)) ∙ sum_window-zero r

-- left of the kernel or below it a block is empty
pub block-before : (r : ℕ) (k : ℤ → ℤ → ℤ) (dx dy : ℤ) → dx <ℤ neg_ℤ (pos r) → block r k dx dy ≡ pos 0
block-before r k dx dy before =
    sum_window-same_within r _ (λ u v. pos 0) (λ u v low_u high_u low_v high_v. no_column u v dx dy (k u v) (omega (arith, ints))) ∙ sum_window-zero r
  where
    no_column : (u v dx dy e : ℤ) → dx <ℤ u → (if int_le u dx && int_le v dy then e else pos 0) ≡ pos 0
    no_column u v dx dy e right = grind (arith, ints)

pub block-under : (r : ℕ) (k : ℤ → ℤ → ℤ) (dx dy : ℤ) → dy <ℤ neg_ℤ (pos r) → block r k dx dy ≡ pos 0
block-under r k dx dy under =
    sum_window-same_within r _ (λ u v. pos 0) (λ u v low_u high_u low_v high_v. no_row u v dx dy (k u v) (omega (arith, ints))) ∙ sum_window-zero r
  where
    no_row : (u v dx dy e : ℤ) → dy <ℤ v → (if int_le u dx && int_le v dy then e else pos 0) ≡ pos 0
    no_row u v dx dy e above = grind (arith, ints)

-- a place beyond the reach counts as one at the reach
pub block-beyond_x : (r : ℕ) (k : ℤ → ℤ → ℤ) (dx dy : ℤ) → pos r ≤ℤ dx → block r k dx dy ≡ block r k (pos r) dy
block-beyond_x r k dx dy beyond =
    sum_window-same_within r _ _ (λ u v low_u high_u low_v high_v. each_column u v (k u v) (omega (arith, ints)) high_u)
  where
    each_column : (u v e : ℤ) → u ≤ℤ dx → u ≤ℤ pos r →
        (if int_le u dx && int_le v dy then e else pos 0) ≡ (if int_le u (pos r) && int_le v dy then e else pos 0)
    each_column u v e here there = grind (arith, ints)

pub block-beyond_y : (r : ℕ) (k : ℤ → ℤ → ℤ) (dx dy : ℤ) → pos r ≤ℤ dy → block r k dx dy ≡ block r k dx (pos r)
block-beyond_y r k dx dy beyond =
    sum_window-same_within r _ _ (λ u v low_u high_u low_v high_v. each_row u v (k u v) (omega (arith, ints)) high_v)
  where
    each_row : (u v e : ℤ) → v ≤ℤ dy → v ≤ℤ pos r →
        (if int_le u dx && int_le v dy then e else pos 0) ≡ (if int_le u dx && int_le v (pos r) then e else pos 0)
    each_row u v e here there = grind (arith, ints)

-- the block at a place within the reach, as a sum of whole ranges
pub block-ranges : (r : ℕ) (k : ℤ → ℤ → ℤ) (column row : ℕ) → column < 2 * r + 1 → row < 2 * r + 1 →
    block r k (neg_ℤ (pos r) +ℤ pos column) (neg_ℤ (pos r) +ℤ pos row)
    ≡ sum_range (λ v. sum_range (λ u. k u v) (neg_ℤ (pos r)) (column + 1)) (neg_ℤ (pos r)) (row + 1)
block-ranges r k column row in_columns in_rows =
    let left : ℤ = neg_ℤ (pos r) in
    let run : ℤ → ℤ = λ v. sum_range (λ u. k u v) left (column + 1) in
    ap (sum_within r) (fun_ext (λ v. in_row v)) ∙ sum_range-upto run left row (2 * r + 1) in_rows
  where
    in_row : (v : ℤ) →
        sum_within r (λ u. if int_le u (neg_ℤ (pos r) +ℤ pos column) && int_le v (neg_ℤ (pos r) +ℤ pos row) then k u v else pos 0)
        ≡ (if int_le v (neg_ℤ (pos r) +ℤ pos row) then sum_range (λ u. k u v) (neg_ℤ (pos r)) (column + 1) else pos 0)
    in_row v = elim (int_le v (neg_ℤ (pos r) +ℤ pos row)) as
        (λ b. sum_within r (λ u. if int_le u (neg_ℤ (pos r) +ℤ pos column) && b then k u v else pos 0)
        ≡ (if b then sum_range (λ u. k u v) (neg_ℤ (pos r)) (column + 1) else pos 0)) [
          | true ↦ ap (sum_within r) (fun_ext (λ u. and_true (int_le u (neg_ℤ (pos r) +ℤ pos column)) (k u v)))
              ∙ sum_range-upto (λ u. k u v) (neg_ℤ (pos r)) column (2 * r + 1) in_columns
          | false ↦ ap (sum_within r) (fun_ext (λ u. and_false (int_le u (neg_ℤ (pos r) +ℤ pos column)) (k u v)))
              ∙ sum_range-zero (neg_ℤ (pos r)) (2 * r + 1)
        ]
      where
        and_true : (b : Bool) (e : ℤ) → (if b && true then e else pos 0) ≡ (if b then e else pos 0)
        and_true b e = grind arith

        and_false : (b : Bool) (e : ℤ) → (if b && false then e else pos 0) ≡ pos 0
        and_false b e = grind arith

-- places beyond the reach count as the last, and those left of it or below it as the one before the first
pub block-clamped : (r : ℕ) (k : ℤ → ℤ → ℤ) (dx dy cx cy : ℤ) → cx ≡ int_min (int_max dx (neg_ℤ (pos r) -ℤ pos 1)) (pos r) →
    cy ≡ int_min (int_max dy (neg_ℤ (pos r) -ℤ pos 1)) (pos r) → block r k dx dy ≡ block r k cx cy
block-clamped r k dx dy cx cy clamped_x clamped_y =
    sum_window-same_within r _ _ (λ u v low_u high_u low_v high_v.
    ap₂ (λ a b. if a && b then k u v else pos 0) (clamp_one u dx cx clamped_x low_u high_u) (clamp_one v dy cy clamped_y low_v high_v))
  where
    clamp_one : (u d c : ℤ) → c ≡ int_min (int_max d (neg_ℤ (pos r) -ℤ pos 1)) (pos r) → neg_ℤ (pos r) ≤ℤ u → u ≤ℤ pos r → int_le u d ≡ int_le u c
    clamp_one u d c clamped low high = grind (arith, ints, clamps)

-- a block as a sum of whole ranges, empty ones included
pub block-ranges_before : (r : ℕ) (k : ℤ → ℤ → ℤ) (column row : ℕ) → column < 2 * r + 2 → row < 2 * r + 2 →
    block r k (place_before r column) (place_before r row)
    ≡ sum_range (λ v. sum_range (λ u. k u v) (neg_ℤ (pos r)) column) (neg_ℤ (pos r)) row
block-ranges_before r k zero row in_columns in_rows =
    block-before r k _ _ (omega (arith, ints)) ∙ sym (ap (λ f. sum_range f (neg_ℤ (pos r)) row) (fun_ext (λ v. sym (sum_range_start (λ u. k u v) (neg_ℤ (pos r)))))
    ∙ sum_range-zero (neg_ℤ (pos r)) row)
block-ranges_before r k (suc column) zero in_columns in_rows =
    block-under r k _ _ (omega (arith, ints)) ∙ sum_range_start _ (neg_ℤ (pos r))
block-ranges_before r k (suc column) (suc row) in_columns in_rows =
    let x : place_before r (suc column) ≡ neg_ℤ (pos r) +ℤ pos column = omega (arith, ints) in
    let y : place_before r (suc row) ≡ neg_ℤ (pos r) +ℤ pos row = omega (arith, ints) in
    rw (x, y, ← add-one column, ← add-one row) (block-ranges r k column row (omega arith) (omega arith))

-- one more place of the kernel
pub block-next : (r : ℕ) (k : ℤ → ℤ → ℤ) (column row : ℕ) → column < 2 * r + 1 → row < 2 * r + 1 →
    block r k (place_before r (column + 1)) (place_before r (row + 1))
    ≡ block r k (place_before r column) (place_before r (row + 1)) +ℤ block r k (place_before r (column + 1)) (place_before r row)
    -ℤ block r k (place_before r column) (place_before r row) +ℤ k (neg_ℤ (pos r) +ℤ pos column) (neg_ℤ (pos r) +ℤ pos row)
block-next r k column row in_columns in_rows =
    let left = neg_ℤ (pos r) in
    let runs : ℕ → ℤ → ℤ = λ n v. sum_range (λ u. k u v) left n in
    let both = block-ranges_before r k (column + 1) (row + 1) (omega arith) (omega arith) ∙ sum_range-next (runs (column + 1)) left row in
    let beside = block-ranges_before r k column (row + 1) (omega arith) (omega arith) ∙ sum_range-next (runs column) left row in
    let under = block-ranges_before r k (column + 1) row (omega arith) (omega arith) in
    let across = block-ranges_before r k column row (omega arith) (omega arith) in
    let last = sum_range-next (λ u. k u (left +ℤ pos row)) left column in
    omega (arith, ints, both, beside, under, across, last)

-- a block of entries of absolute value at most m
pub block-bound : (r : ℕ) (k : ℤ → ℤ → ℤ) (dx dy : ℤ) (m : ℕ) → ((u v : ℤ) → unsigned_abs (k u v) ≤ m) →
    unsigned_abs (block r k dx dy) ≤ m * (2 * r + 1) * (2 * r + 1)
block-bound r k dx dy m small =
    sum_range-bound _ (neg_ℤ (pos r)) (2 * r + 1) (m * (2 * r + 1)) (λ v.
    sum_range-bound _ (neg_ℤ (pos r)) (2 * r + 1) m (λ u. smaller (int_le u dx && int_le v dy) (k u v) (small u v)))
  where
    smaller : (b : Bool) (e : ℤ) → unsigned_abs e ≤ m → unsigned_abs (if b then e else pos 0) ≤ m
    smaller b e fits = grind arith

-- a block at an equal place
pub block-at : (r : ℕ) (k : ℤ → ℤ → ℤ) (sum px py dx dy : ℤ) → sum ≡ block r k px py → px ≡ dx → py ≡ dy → sum ≡ block r k dx dy
block-at r k sum px py dx dy value at_x at_y = value ∙ ap₂ (block r k) at_x at_y

-- Parts of tiles.
use Rattle.std.proofs.Common.{◌≡◌, ℕ, ◌+◌, ◌-◌, ◌*◌, ◌/◌, ◌<◌, ◌≤◌, ap, ◌∙◌, sym, arith, zero-add}
use Rattle.std.proofs.Math.Nat.{div-mul-le_self, div-le_of_le-mul, mul-le-mul_right, mul-div_cancel_left}
use Rattle.std.proofs.lemmas.Nat.{le-div}
use Rattle.opc_parallel.specs.Parts.{first_tile, AreStarts, IsRun}

div-le-div : (m n k : ℕ) → 0 < k → m ≤ n → m / k ≤ n / k
div-le-div m n k some le = le-div (m / k) n k some (omega (arith, div-mul-le_self m k))

-- later parts begin at later tiles
pub first_tile-le : (tiles parts p q : ℕ) → 0 < parts → p ≤ q → first_tile tiles parts p ≤ first_tile tiles parts q
first_tile-le tiles parts p q some le = div-le-div (p * tiles) (q * tiles) parts some (mul-le-mul_right tiles le)

-- and the last one ends at the last tile
pub first_tile-end : (tiles parts : ℕ) → 0 < parts → first_tile tiles parts parts ≡ tiles
first_tile-end tiles parts some = mul-div_cancel_left tiles some

pub first_tile-within : (tiles parts p : ℕ) → 0 < parts → p ≤ parts → first_tile tiles parts p ≤ tiles
first_tile-within tiles parts p some le = omega (arith, first_tile-le tiles parts p parts some le, first_tile-end tiles parts some)

-- the first half of a run, and the second one
pub IsRun-split : (first : ℕ → ℕ) (tiles parts from count low base len middle : ℕ) → AreStarts first tiles → 0 < low → low < count →
    IsRun first tiles parts from count base len → middle ≡ first (first_tile tiles parts (from + low)) →
    (base ≤ middle) × (middle ≤ base + len)
IsRun-split first tiles parts from count low base len middle tiling some fewer run is =
    let some_parts : 0 < parts = omega (arith, run.within) in
    let left = tiling.ordered _ _ (first_tile-le tiles parts from (from + low) some_parts (omega arith)) (first_tile-within tiles parts (from + low) some_parts (omega (arith, run.within))) in
    let right = tiling.ordered _ _ (first_tile-le tiles parts (from + low) (from + count) some_parts (omega arith)) (first_tile-within tiles parts (from + count) some_parts run.within) in
    (omega (arith, run.begins, left), omega (arith, run.ends, right))

pub IsRun-front : (first : ℕ → ℕ) (tiles parts from count low base len middle front : ℕ) → 0 < low → low < count →
    IsRun first tiles parts from count base len → middle ≡ first (first_tile tiles parts (from + low)) → base + front ≡ middle →
    IsRun first tiles parts from low base front
IsRun-front first tiles parts from count low base len middle front some fewer run is size =
    record { some = some; within = omega (arith, run.within); begins = run.begins; ends = size ∙ is }

pub IsRun-back : (first : ℕ → ℕ) (tiles parts from count low base len middle back : ℕ) → 0 < low → low < count →
    IsRun first tiles parts from count base len → middle ≡ first (first_tile tiles parts (from + low)) → middle + back ≡ base + len →
    IsRun first tiles parts (from + low) (count - low) middle back
IsRun-back first tiles parts from count low base len middle back some fewer run is size =
    let last : from + low + (count - low) ≡ from + count = omega arith in
    record { some = omega arith; within = omega (arith, run.within); begins = is; ends = rw last (size ∙ run.ends) }

-- all parts
pub IsRun-whole : (first : ℕ → ℕ) (tiles parts len : ℕ) → 0 < parts → first 0 ≡ 0 → first tiles ≡ len → IsRun first tiles parts 0 parts 0 len
IsRun-whole first tiles parts len some begins ends =
    let at_start : first_tile tiles parts 0 ≡ 0 = omega (arith, first_tile-zero) in
    let at_end : first_tile tiles parts (0 + parts) ≡ tiles = ap (first_tile tiles parts) (zero-add parts) ∙ first_tile-end tiles parts some in
    record { some = some; within = omega arith; begins = rw at_start (sym begins); ends = zero-add len ∙ rw at_end (sym ends) }
  where
    first_tile-zero : first_tile tiles parts 0 ≤ 0
    first_tile-zero = div-le_of_le-mul parts (omega arith)

-- Tables of lanes: places, entries of lanes, and bounds.
use Rattle.std.proofs.Common.{◌≡◌, ℕ, ◌+◌, ◌-◌, ◌*◌, ◌/◌, ◌<◌, ◌≤◌, ℤ, pos, neg_ℤ, ◌+ℤ◌, ◌-ℤ◌, unsigned_abs, List, [], ◌∷◌, ◌++◌, Option, Some, slice_get, Contains, length, get_or, take, drop, ap, ap₂, ◌∙◌, sym, arith, ⊎_elim, eq-or-lt_of_le}
use Rattle.std.proofs.lemmas.Int.{ints}
use Rattle.std.proofs.lemmas.Bool.{cases_lt}
use Rattle.std.proofs.lemmas.Nat.{mul-add-lt, mul-le, same_from_place}
use Rattle.std.proofs.lemmas.List.{get_or_append_left, get_or_past, get_or-take, get_or-drop, length-take, length-drop}
use Rattle.std.proofs.lemmas.Option.{slice_get_read}
use Rattle.std.proofs.Math.Seq.{get_or-append_seam}
use Rattle.std.specs.Int.{int_max, int_min}
use Rattle.opc_base.specs.Blocks.{place_at, place_before}
use Rattle.opc_base.specs.Lanes.{LanesAre, block_of_lane, entries_of_lane, entries_or_none, lane_count, lane_entry}
use Rattle.opc_base.specs.Optics.{IsEntryWithin, KeepsBounds, entry_at, nothing}
use Rattle.opc_base.specs.declared.kernels.Kernel.{Kernel}
use Rattle.opc_base.specs.declared.kernels.KernelSet.{KernelSet}
use Rattle.opc_base.proofs.ClampLaws.{block-clamped, block-next}
use Rattle.opc_base.proofs.OpticsLaws.{entry_at_place, rows_within}
use Rattle.prefix_tables.specs.Places.{AreNumbersWithin, AreTables, HoldsFirst, table_place}

-- the lanes of a place lie within the table
pub lanes_within : (width row column lanes : ℕ) → row < width → column < width → (row * width + column) * lanes + lanes ≤ width * width * lanes
lanes_within width row column lanes in_rows in_columns =
    let below : row * width + column < width * width = mul-add-lt row width column width in_rows in_columns in
    omega (arith, mul-le (row * width + column + 1) lanes (width * width) lanes (omega arith) (omega arith))

-- an earlier place stands before a later one
pub place_lt : (p q n a b : ℕ) → p < q → a < n → p * n + a < q * n + b
place_lt p q n a b before below = omega (arith, mul-le (p + 1) n q n (omega arith) (omega arith))

-- the place one row below comes before
pub row_below : (width column row : ℕ) → 0 < row → 0 < width → (row - 1) * width + column < row * width + column
row_below width column row later wide =
    let before : row ≡ row - 1 + 1 = omega arith in
    omega (arith, ap (λ n. n * width) before)

-- ---- the lanes of a block
pub block_lane : (set : KernelSet) (sums : List ℤ) (reach lanes row column lane : ℕ) (dx dy : ℤ) →
    HoldsFirst set sums ((2 * set.reach + 2) * (2 * set.reach + 2) * lane_count set) → reach ≡ set.reach → lanes ≡ lane_count set →
    row < 2 * reach + 2 → column < 2 * reach + 2 → lane < lane_count set →
    place_before reach column ≡ int_min (int_max dx (neg_ℤ (pos reach) -ℤ pos 1)) (pos reach) →
    place_before reach row ≡ int_min (int_max dy (neg_ℤ (pos reach) -ℤ pos 1)) (pos reach) →
    get_or (take ((row * (2 * reach + 2) + column) * lanes + lanes - (row * (2 * reach + 2) + column) * lanes) (drop ((row * (2 * reach + 2) + column) * lanes) sums)) lane (pos 0)
    ≡ block_of_lane set lane dx dy
block_lane set sums reach lanes row column lane dx dy holds reach_is lanes_is in_rows in_columns in_lanes x_is y_is =
    let start : ℕ = (row * (2 * reach + 2) + column) * lanes in
    get_or-take (start + lanes - start) (drop start sums) lane (pos 0) (omega (arith, lanes_is)) ∙ get_or-drop start sums lane (pos 0)
    ∙ at_set (rw (← reach_is) in_rows) (rw (← reach_is) in_columns)
  where
    at_set : row < 2 * set.reach + 2 → column < 2 * set.reach + 2 → get_or sums ((row * (2 * reach + 2) + column) * lanes + lane) (pos 0) ≡ block_of_lane set lane dx dy
    at_set row_below column_below =
        let place : (row * (2 * reach + 2) + column) * lanes + lane ≡ table_place set row column lane = ap₂ (λ r n. (row * (2 * r + 2) + column) * n + lane) reach_is lanes_is in
        let within = lanes_within (2 * set.reach + 2) row column (lane_count set) row_below column_below in
        ap (λ i. get_or sums i (pos 0)) place ∙ holds row column lane column_below in_lanes (omega (arith, within))
        ∙ sym (block-clamped set.reach (lane_entry set lane) dx dy (place_before set.reach column) (place_before set.reach row) (rw reach_is at x_is) (rw reach_is at y_is))

-- ---- one more number of the table
pub HoldsFirst-push : (set : KernelSet) (sums more : List ℤ) (row column lane : ℕ) (x : ℤ) → column < 2 * set.reach + 2 → lane < lane_count set →
    length sums ≡ table_place set row column lane → HoldsFirst set sums (table_place set row column lane) → more ≡ sums ++ x ∷ [] →
    x ≡ block_of_lane set lane (place_before set.reach column) (place_before set.reach row) →
    HoldsFirst set more (table_place set row column (lane + 1))
HoldsFirst-push set sums more row column lane x in_columns in_lanes size holds pushed value q c l in_c in_l below =
    ⊎_elim new old (eq-or-lt_of_le up_to)
  where
    up_to : table_place set q c l ≤ table_place set row column lane
    up_to = omega arith

    read : get_or more (table_place set q c l) (pos 0) ≡ get_or (sums ++ x ∷ []) (table_place set q c l) (pos 0)
    read = ap (λ xs. get_or xs (table_place set q c l) (pos 0)) pushed

    old : table_place set q c l < table_place set row column lane → get_or more (table_place set q c l) (pos 0) ≡ block_of_lane set l (place_before set.reach c) (place_before set.reach q)
    old before = read ∙ get_or_append_left sums (x ∷ []) (pos 0) (table_place set q c l) (omega (arith, size)) ∙ holds q c l in_c in_l before

    new : table_place set q c l ≡ table_place set row column lane → get_or more (table_place set q c l) (pos 0) ≡ block_of_lane set l (place_before set.reach c) (place_before set.reach q)
    new same =
        let outer = same_from_place (q * (2 * set.reach + 2) + c) l (row * (2 * set.reach + 2) + column) lane (lane_count set) in_l in_lanes same in
        let inner = same_from_place q c row column (2 * set.reach + 2) in_c in_columns outer.0 in
        read ∙ ap (λ i. get_or (sums ++ x ∷ []) i (pos 0)) (same ∙ sym size) ∙ get_or-append_seam sums x [] (pos 0) ∙ value
        ∙ ap₂ (λ n p. block_of_lane set n (place_before set.reach p) (place_before set.reach row)) (sym outer.1) (sym inner.1)
        ∙ ap (λ p. block_of_lane set l (place_before set.reach c) (place_before set.reach p)) (sym inner.0)

-- a block from those beside it, under it and across
pub next_is : (set : KernelSet) (lane column row : ℕ) (beside under across item : ℤ) → 0 < column → 0 < row → column < 2 * set.reach + 2 → row < 2 * set.reach + 2 →
    beside ≡ block_of_lane set lane (place_before set.reach (column - 1)) (place_before set.reach row) →
    under ≡ block_of_lane set lane (place_before set.reach column) (place_before set.reach (row - 1)) →
    across ≡ block_of_lane set lane (place_before set.reach (column - 1)) (place_before set.reach (row - 1)) →
    item ≡ lane_entry set lane (place_at set.reach (column - 1)) (place_at set.reach (row - 1)) →
    beside +ℤ under -ℤ across +ℤ item ≡ block_of_lane set lane (place_before set.reach column) (place_before set.reach row)
next_is set lane column row beside under across item some_columns some_rows in_columns in_rows at_beside at_under at_across at_item =
    let c_is : column - 1 + 1 ≡ column = omega arith in
    let r_is : row - 1 + 1 ≡ row = omega arith in
    let step = rw (c_is, r_is) at (block-next set.reach (lane_entry set lane) (column - 1) (row - 1) (omega arith) (omega arith)) in
    rw (at_beside, at_under, at_across, at_item) (sym step)

-- ---- kernel sets that keep their bounds
pub few_kernels : (set : KernelSet) → KeepsBounds set → length set.kernels ≤ 16
few_kernels set bounds = ⊎_elim (λ one. one.kernels.few) (λ two. two.kernels.few) bounds

-- both transmissions are small
pub transmissions_within : (set : KernelSet) → KeepsBounds set → IsEntryWithin 8 set.covered × IsEntryWithin 8 set.uncovered
transmissions_within set bounds = ⊎_elim
    (λ one. (rw one.covered (omega arith, omega arith), rw one.uncovered (omega arith, omega arith)))
    (λ two. (two.covered, two.uncovered))
    bounds

-- an entry of a lane's kernel by its row and column
pub entry_of_lane_at : (set : KernelSet) (lane column row : ℕ) (kernel : Kernel) → KeepsBounds set → column < 2 * set.reach + 1 → row < 2 * set.reach + 1 →
    lane / 2 < length set.kernels → kernel ≡ get_or set.kernels (lane / 2) kernel →
    (row * (2 * set.reach + 1) + column < length kernel.entries)
    × (get_or kernel.entries (row * (2 * set.reach + 1) + column) nothing ≡ entry_at set.reach (entries_of_lane set lane) (place_at set.reach column) (place_at set.reach row))
entry_of_lane_at set lane column row kernel bounds in_columns in_rows within read =
    let among : Contains set.kernels kernel = (lane / 2, within, sym read) in
    let inside : row * (2 * set.reach + 1) + column < length kernel.entries =
    rw (rows_within set kernel bounds among) (mul-add-lt row (2 * set.reach + 1) column (2 * set.reach + 1) in_rows in_columns) in
    let own : kernel.entries ≡ entries_of_lane set lane = sym (ap entries_or_none (slice_get_read set.kernels (length set.kernels) (lane / 2) kernel (omega arith) within read)) in (
      inside,
      entry_at_place set.reach kernel.entries column row inside
          ∙ ap (λ entries. entry_at set.reach entries (place_at set.reach column) (place_at set.reach row)) own,
    )

-- lanes that are small
pub LanesAre-small : (set : KernelSet) (f : ℕ → ℤ) (most : ℕ) (xs : List ℤ) → LanesAre set f xs → ((lane : ℕ) → unsigned_abs (f lane) ≤ most) → AreNumbersWithin most xs
LanesAre-small set f most xs lanes small lane within = rw (lanes.each lane (omega (arith, lanes.count))) (small lane)

-- ---- the lanes of a place, as the code takes them from the table
abbrev pub start_of : ℕ → ℕ → ℕ → ℕ → ℕ
start_of reach lanes row column = (row * (2 * reach + 2) + column) * lanes

pub block_end : (set : KernelSet) (reach lanes : ℕ) (sums uncovered : List ℤ) (row column : ℕ) → AreTables set reach lanes sums uncovered →
    row < 2 * reach + 2 → column < 2 * reach + 2 → start_of reach lanes row column + lanes ≤ length sums
block_end set reach lanes sums uncovered row column tables in_rows in_columns =
    let size : length sums ≡ (2 * reach + 2) * (2 * reach + 2) * lanes = tables.size ∙ sym (ap₂ (λ r n. (2 * r + 2) * (2 * r + 2) * n) tables.reach_is tables.lanes_is) in
    omega (arith, size, lanes_within (2 * reach + 2) row column lanes in_rows in_columns)

pub block_lanes : (set : KernelSet) (reach lanes : ℕ) (sums uncovered : List ℤ) (row column : ℕ) (dx dy : ℤ) → AreTables set reach lanes sums uncovered →
    row < 2 * reach + 2 → column < 2 * reach + 2 →
    place_before reach column ≡ int_min (int_max dx (neg_ℤ (pos reach) -ℤ pos 1)) (pos reach) →
    place_before reach row ≡ int_min (int_max dy (neg_ℤ (pos reach) -ℤ pos 1)) (pos reach) →
    LanesAre set (λ lane. block_of_lane set lane dx dy) (take (start_of reach lanes row column + lanes - start_of reach lanes row column) (drop (start_of reach lanes row column) sums))
block_lanes set reach lanes sums uncovered row column dx dy tables in_rows in_columns x_is y_is = record {
  count = simp (length-take, length-drop) (omega (arith, block_end set reach lanes sums uncovered row column tables in_rows in_columns, tables.lanes_is));
  each = λ lane below. block_lane set sums reach lanes row column lane dx dy tables.holds tables.reach_is tables.lanes_is in_rows in_columns below x_is y_is;
}

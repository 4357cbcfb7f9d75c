-- Intensities of lanes: bounds, and the sum over kernels.
use Rattle.std.proofs.Common.{◌≡◌, ℕ, zero, suc, ◌+◌, ◌*◌, ◌<◌, ◌≤◌, ℤ, pos, ◌+ℤ◌, ◌*ℤ◌, ◌≤ℤ◌, unsigned_abs, List, [], ◌∷◌, All, Some, slice_get, length, get_or, take, refl, ap, ap₂, ◌∙◌, sym, arith, mul-le-mul, ⊎_elim, SFits, w64, to_z, of_z, to_z-of_z, add-one}
use Rattle.std.proofs.lemmas.Int.{ints, unsigned_abs-mul, fits_signed_mul}
use Rattle.std.proofs.lemmas.List.{get_or-map}
use Rattle.std.proofs.lemmas.List.Elements.{All-tail}
use Rattle.std.proofs.lemmas.Option.{slice_get_cases}
use Rattle.opc_base.specs.Lanes.{LanesAre, amplitude_of_lane, weights_of}
use Rattle.opc_base.specs.Optics.{amplitude_im, amplitude_re, weighted_power}
use Rattle.opc_base.specs.Plane.{PixelSet}
use Rattle.opc_base.specs.Sums.{sum_each}
use Rattle.opc_base.specs.declared.kernels.Kernel.{Kernel}
use Rattle.opc_base.specs.declared.kernels.KernelSet.{KernelSet}
use Rattle.opc_base.proofs.LaneLaws.{amplitude_of_lane-im, amplitude_of_lane-re}
use Rattle.opc_base.proofs.SumLaws.{sum_each-more, sum_each_start, sum_range-next, sum_range_start}
use Rattle.lane_intensity.specs.Differences.{AreLanes, IsLight, power_at, power_sum}

-- ---- weights
abbrev pub own : ℤ → ℤ
own w = w

weights-low : (ws : List ℤ) → All (λ w. pos 1 ≤ℤ w) ws → pos 0 ≤ℤ sum_each own ws
unfolding sum_each
weights-low [] some = omega (arith, ints)
weights-low (w ∷ ws) some =
    let first : pos 1 ≤ℤ w = some 0 w (omega arith) in
    let rest = weights-low ws (All-tail (λ (w : ℤ). pos 1 ≤ℤ w) w ws some) in
    omega (arith, ints)

-- the weights so far sum to no more than all of them
upto-low : (ws : List ℤ) (i : ℕ) → All (λ w. pos 1 ≤ℤ w) ws → pos 0 ≤ℤ sum_each own (take i ws)
unfolding sum_each
upto-low [] zero some = omega (arith, ints)
upto-low [] (suc i) some = omega (arith, ints)
upto-low (w ∷ ws) zero some = omega (arith, ints)
upto-low (w ∷ ws) (suc i) some =
    let first : pos 1 ≤ℤ w = some 0 w (omega arith) in
    let rest = upto-low ws i (All-tail (λ (w : ℤ). pos 1 ≤ℤ w) w ws some) in
    omega (arith, ints)

upto-le : (ws : List ℤ) (i : ℕ) → All (λ w. pos 1 ≤ℤ w) ws → sum_each own (take i ws) ≤ℤ sum_each own ws
unfolding sum_each
upto-le [] zero some = omega (arith, ints)
upto-le [] (suc i) some = omega (arith, ints)
upto-le (w ∷ ws) zero some = weights-low (w ∷ ws) some
upto-le (w ∷ ws) (suc i) some =
    let first : pos 1 ≤ℤ w = some 0 w (omega arith) in
    let rest = upto-le ws i (All-tail (λ (w : ℤ). pos 1 ≤ℤ w) w ws some) in
    omega (arith, ints)

pub weights_upto : (ws : List ℤ) (i : ℕ) → IsLight ws → (pos 0 ≤ℤ sum_each own (take i ws)) × (sum_each own (take i ws) ≤ℤ pos 2048)
weights_upto ws i light =
    let low = upto-low ws i light.some in
    let high = upto-le ws i light.some in
    let all = light.few in
    (low, omega (arith, ints))

-- the next weight
pub weight_next : (ws : List ℤ) (i : ℕ) → IsLight ws → i < length ws →
    (pos 1 ≤ℤ get_or ws i (pos 0)) × (sum_each own (take (i + 1) ws) ≡ sum_each own (take i ws) +ℤ get_or ws i (pos 0))
weight_next ws i light below = (light.some i (pos 0) below, sum_each-more own ws i (pos 0) below)

pub weight-small : (ws : List ℤ) (i : ℕ) → IsLight ws → i < length ws → unsigned_abs (get_or ws i (pos 0)) ≤ 2048
weight-small ws i light below =
    let next = weight_next ws i light below in
    let low = (weights_upto ws i light).0 in
    let high = (weights_upto ws (i + 1) light).1 in
    let some = next.0 in
    let more = next.1 in
    omega (arith, ints)

-- ---- powers
pub lane-fits : (a : ℤ) → unsigned_abs a ≤ 34080768 → SFits w64 a
lane-fits a small = omega (arith, ints)

pub weight-fits : (a : ℤ) → unsigned_abs a ≤ 2048 → SFits w64 a
weight-fits a small = omega (arith, ints)

pub square-small : (a : ℤ) → unsigned_abs a ≤ 34080768 → unsigned_abs (a *ℤ a) ≤ 34080768 * 34080768
square-small a small = rw (unsigned_abs-mul a a) (mul-le-mul small small)

pub square-fits : (a : ℤ) → unsigned_abs a ≤ 34080768 * 34080768 → SFits w64 a
square-fits a small = omega (arith, ints)

-- the sum of two squares
power-small : (re im : ℤ) → unsigned_abs re ≤ 34080768 * 34080768 → unsigned_abs im ≤ 34080768 * 34080768 →
    unsigned_abs (re +ℤ im) ≤ 2 * 34080768 * 34080768
power-small re im small_re small_im = omega (arith, ints)

pub power-fits : (re im : ℤ) → unsigned_abs re ≤ 34080768 * 34080768 → unsigned_abs im ≤ 34080768 * 34080768 → SFits w64 (re +ℤ im)
power-fits re im small_re small_im = omega (arith, ints)

pub weighted-fits : (weight re im : ℤ) → unsigned_abs weight ≤ 2048 → unsigned_abs re ≤ 34080768 * 34080768 →
    unsigned_abs im ≤ 34080768 * 34080768 → SFits w64 (weight *ℤ (re +ℤ im))
weighted-fits weight re im light small_re small_im =
    fits_signed_mul w64 weight (re +ℤ im) 2048 (2 * 34080768 * 34080768) light (power-small re im small_re small_im) (omega arith)

pub weighted-small : (weight re im : ℤ) → unsigned_abs re ≤ 34080768 * 34080768 → unsigned_abs im ≤ 34080768 * 34080768 →
    unsigned_abs (weight *ℤ (re +ℤ im)) ≤ unsigned_abs weight * (2 * 34080768 * 34080768)
weighted-small weight re im small_re small_im = rw (unsigned_abs-mul weight (re +ℤ im)) (mul-le-mul same (power-small re im small_re small_im))
  where
    same : unsigned_abs weight ≤ unsigned_abs weight
    same = omega arith

-- ---- the sum over kernels
pub powers_start : (weights lanes : List ℤ) → pos 0 ≡ power_sum weights lanes 0
powers_start weights lanes = sum_range_start (λ j. power_at weights lanes (unsigned_abs j)) (pos 0)

pub powers_step : (weights lanes : List ℤ) (n : ℕ) (sum power next : ℤ) → sum ≡ power_sum weights lanes n → power ≡ power_at weights lanes n →
    next ≡ sum +ℤ power → next ≡ power_sum weights lanes (n + 1)
powers_step weights lanes n sum power next so_far here added =
    let place : unsigned_abs (pos 0 +ℤ pos n) ≡ n = omega (arith, ints) in
    added ∙ ap₂ (λ s t. s +ℤ t) so_far (here ∙ ap (power_at weights lanes) (sym place))
    ∙ sym (sum_range-next (λ j. power_at weights lanes (unsigned_abs j)) (pos 0) n)

power_more : (weights lanes : List ℤ) (n : ℕ) → power_sum weights lanes n +ℤ power_at weights lanes n ≡ power_sum weights lanes (n + 1)
power_more weights lanes n = powers_step weights lanes n (power_sum weights lanes n) (power_at weights lanes n) (power_sum weights lanes n +ℤ power_at weights lanes n) refl refl refl

power_at-small : (weights lanes : List ℤ) (n : ℕ) → AreLanes (2 * length weights) 34080768 lanes → n < length weights →
    unsigned_abs (power_at weights lanes n) ≤ unsigned_abs (get_or weights n (pos 0)) * (2 * 34080768 * 34080768)
power_at-small weights lanes n small below =
    weighted-small (get_or weights n (pos 0)) (get_or lanes (2 * n) (pos 0) *ℤ get_or lanes (2 * n) (pos 0))
    (get_or lanes (2 * n + 1) (pos 0) *ℤ get_or lanes (2 * n + 1) (pos 0))
    (square-small (get_or lanes (2 * n) (pos 0)) (small.small (2 * n) (omega arith)))
    (square-small (get_or lanes (2 * n + 1) (pos 0)) (small.small (2 * n + 1) (omega arith)))

-- the sum over some kernels is at most that of their weights times the greatest power
power_sum-small : (weights lanes : List ℤ) (n : ℕ) → IsLight weights → AreLanes (2 * length weights) 34080768 lanes → n ≤ length weights →
    unsigned_abs (power_sum weights lanes n) ≤ unsigned_abs (sum_each own (take n weights)) * (2 * 34080768 * 34080768)
power_sum-small weights lanes zero light small within =
    let none : power_sum weights lanes 0 ≡ pos 0 = sym (powers_start weights lanes) in
    omega (arith, ints)
power_sum-small weights lanes (suc n) light small within =
    let next = weight_next weights n light (omega arith) in
    rw (← add-one n)
    (of_step (power_sum weights lanes n) (power_at weights lanes n) (power_sum weights lanes (n + 1)) (sum_each own (take n weights)) (get_or weights n (pos 0))
    (sum_each own (take (n + 1) weights)) (power_sum-small weights lanes n light small (omega arith)) (power_at-small weights lanes n small (omega arith))
    (weights_upto weights n light).0 next.0 (power_more weights lanes n) next.1)
  where
    of_step : (s p t sum weight total : ℤ) → unsigned_abs s ≤ unsigned_abs sum * (2 * 34080768 * 34080768) →
        unsigned_abs p ≤ unsigned_abs weight * (2 * 34080768 * 34080768) → pos 0 ≤ℤ sum → pos 1 ≤ℤ weight →
        s +ℤ p ≡ t → total ≡ sum +ℤ weight → unsigned_abs t ≤ unsigned_abs total * (2 * 34080768 * 34080768)
    of_step s p t sum weight total small_s small_p low some is_t is_total = omega (arith, ints)

pub power_sum-fits : (weights lanes : List ℤ) (n : ℕ) → IsLight weights → AreLanes (2 * length weights) 34080768 lanes → n ≤ length weights →
    SFits w64 (power_sum weights lanes n)
power_sum-fits weights lanes n light small within =
    let bounds = weights_upto weights n light in
    of_small (power_sum weights lanes n) (sum_each own (take n weights)) bounds.0 bounds.1 (power_sum-small weights lanes n light small within)
  where
    of_small : (s sum : ℤ) → pos 0 ≤ℤ sum → sum ≤ℤ pos 2048 → unsigned_abs s ≤ unsigned_abs sum * (2 * 34080768 * 34080768) → SFits w64 s
    of_small s sum low high small = omega (arith, ints)

-- ---- one more kernel, as the code computes it
pub computed-power : (weights lanes : List ℤ) (n : ℕ) (re im power : ℤ) → IsLight weights → AreLanes (2 * length weights) 34080768 lanes → n < length weights →
    re ≡ get_or lanes (2 * n) (pos 0) *ℤ get_or lanes (2 * n) (pos 0) → im ≡ get_or lanes (2 * n + 1) (pos 0) *ℤ get_or lanes (2 * n + 1) (pos 0) →
    unsigned_abs re ≤ 34080768 * 34080768 → unsigned_abs im ≤ 34080768 * 34080768 →
    power ≡ to_z w64 (of_z w64 (get_or weights n (pos 0))) *ℤ (to_z w64 (of_z w64 re) +ℤ to_z w64 (of_z w64 im)) →
    to_z w64 (of_z w64 power) ≡ power_at weights lanes n
computed-power weights lanes n re im power light small below is_re is_im small_re small_im is =
    let weight = weight-small weights n light below in
    let same : power ≡ get_or weights n (pos 0) *ℤ (re +ℤ im) =
    is ∙ ap₂ (λ a b. a *ℤ b) (to_z-of_z (weight-fits _ weight)) (ap₂ (λ a b. a +ℤ b) (to_z-of_z (square-fits re small_re)) (to_z-of_z (square-fits im small_im))) in
    ap (λ p. to_z w64 (of_z w64 p)) same ∙ to_z-of_z (weighted-fits (get_or weights n (pos 0)) re im weight small_re small_im)
    ∙ ap₂ (λ a b. get_or weights n (pos 0) *ℤ (a +ℤ b)) is_re is_im

pub next-fits : (weights lanes : List ℤ) (n : ℕ) (sum power : ℤ) → IsLight weights → AreLanes (2 * length weights) 34080768 lanes → n < length weights →
    sum ≡ power_sum weights lanes n → power ≡ power_at weights lanes n → SFits w64 (sum +ℤ power)
next-fits weights lanes n sum power light small below is_sum is_power =
    rw (is_sum, is_power, power_more weights lanes n) (power_sum-fits weights lanes (n + 1) light small (omega arith))

pub next-sum : (weights lanes : List ℤ) (n : ℕ) (sum power : ℤ) → IsLight weights → AreLanes (2 * length weights) 34080768 lanes → n < length weights →
    sum ≡ power_sum weights lanes n → power ≡ power_at weights lanes n → to_z w64 (of_z w64 (sum +ℤ power)) ≡ power_sum weights lanes (n + 1)
next-sum weights lanes n sum power light small below is_sum is_power =
    to_z-of_z (next-fits weights lanes n sum power light small below is_sum is_power) ∙ ap₂ (λ s p. s +ℤ p) is_sum is_power ∙ power_more weights lanes n

-- what a kernel adds to the intensity
abbrev pub power_of_kernel : KernelSet → PixelSet → ℤ → ℤ → Kernel → ℤ
power_of_kernel set pixels x y k = weighted_power k.weight (amplitude_re set k pixels x y) (amplitude_im set k pixels x y)

-- of the amplitudes of a set the powers are those of the definition
power-is : (set : KernelSet) (pixels : PixelSet) (x y : ℤ) (weights lanes : List ℤ) (n : ℕ) (k : Kernel) → weights ≡ weights_of set →
    LanesAre set (amplitude_of_lane set pixels x y) lanes → n < length set.kernels → slice_get set.kernels n ≡ Some k → get_or set.kernels n k ≡ k →
    power_at weights lanes n ≡ power_of_kernel set pixels x y k
power-is set pixels x y weights lanes n k is_weights are_lanes below is_k read =
    let weight : get_or weights n (pos 0) ≡ pos k.weight = ap (λ ws. get_or ws n (pos 0)) is_weights
    ∙ get_or-map (λ (k : Kernel). pos k.weight) set.kernels n k (pos 0) below ∙ ap (λ (k : Kernel). pos k.weight) read in
    let re : get_or lanes (2 * n) (pos 0) ≡ amplitude_re set k pixels x y = are_lanes.each (2 * n) (omega arith) ∙ amplitude_of_lane-re set pixels x y n k is_k in
    let im : get_or lanes (2 * n + 1) (pos 0) ≡ amplitude_im set k pixels x y = are_lanes.each (2 * n + 1) (omega arith) ∙ amplitude_of_lane-im set pixels x y n k is_k in
    rw (weight, re, im)

powers_more : (set : KernelSet) (pixels : PixelSet) (x y : ℤ) (weights lanes : List ℤ) (n : ℕ) (k : Kernel) → weights ≡ weights_of set →
    LanesAre set (amplitude_of_lane set pixels x y) lanes → n < length set.kernels → slice_get set.kernels n ≡ Some k → get_or set.kernels n k ≡ k →
    power_sum weights lanes n ≡ sum_each (power_of_kernel set pixels x y) (take n set.kernels) →
    power_sum weights lanes (suc n) ≡ sum_each (power_of_kernel set pixels x y) (take (suc n) set.kernels)
powers_more set pixels x y weights lanes n k is_weights are_lanes below is_k read so_far =
    rw (← add-one n)
    (sym (powers_step weights lanes n (power_sum weights lanes n) (power_at weights lanes n) (power_sum weights lanes n +ℤ power_at weights lanes n) refl refl refl)
    ∙ ap₂ (λ s t. s +ℤ t) so_far (power-is set pixels x y weights lanes n k is_weights are_lanes below is_k read ∙ ap (power_of_kernel set pixels x y) (sym read))
    ∙ sym (sum_each-more (power_of_kernel set pixels x y) set.kernels n k below))

pub powers-are : (set : KernelSet) (pixels : PixelSet) (x y : ℤ) (weights lanes : List ℤ) (n : ℕ) → weights ≡ weights_of set →
    LanesAre set (amplitude_of_lane set pixels x y) lanes → n ≤ length set.kernels →
    power_sum weights lanes n ≡ sum_each (power_of_kernel set pixels x y) (take n set.kernels)
powers-are set pixels x y weights lanes zero is_weights are_lanes within =
    sym (powers_start weights lanes) ∙ sum_each_start (power_of_kernel set pixels x y)
powers-are set pixels x y weights lanes (suc n) is_weights are_lanes within = ⊎_elim
    (λ at. powers_more set pixels x y weights lanes n at.0 is_weights are_lanes at.1 at.2 at.3 (powers-are set pixels x y weights lanes n is_weights are_lanes (omega arith)))
    (λ past. absurd (omega (arith, past.0)))
    (slice_get_cases set.kernels n).1

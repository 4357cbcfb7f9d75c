-- Numbers that are stored, by place, sample and lane.
use Rattle.std.proofs.Common.{◌≡◌, ℕ, zero, suc, ◌+◌, ◌-◌, ◌*◌, ◌/◌, ◌%◌, ◌^◌, ◌<◌, ◌≤◌, ℤ, pos, ◌+ℤ◌, ◌-ℤ◌, ◌*ℤ◌, ◌≤ℤ◌, unsigned_abs, to_z, of_z, w32, false, List, [], ◌∷◌, ◌++◌, Some, slice_get, slice_index, length, get_or, take, drop, refl, sym, ap, ◌∙◌, subst, zero-add, arith, ⊎_elim}
use Rattle.std.proofs.lemmas.Bool.{cases_lt}
use Rattle.std.proofs.lemmas.Int.{ints}
use Rattle.std.proofs.lemmas.Nat.{div-add-mod', div-mul-add, mod-mul-add, mod_below, div_below, mul-le}
use Rattle.std.proofs.lemmas.List.{get_or-drop, get_or-take, length-drop, length-take}
use Rattle.std.proofs.lemmas.List.Elements.{Contains-get_or}
use Rattle.std.proofs.lemmas.Option.{get_or_from_slice_get, slice_get-get_or, slice_get_within}
use Rattle.std.proofs.Math.IntN.{*ℤ-zero}
use Rattle.opc_base.specs.Changes.{RisesBetween, RisesBy}
use Rattle.opc_base.specs.Lanes.{lane_count, rect_change}
use Rattle.opc_base.specs.Optics.{KeepsBounds}
use Rattle.opc_base.specs.Sums.{sum_each}
use Rattle.opc_base.specs.declared.kernels.KernelSet.{KernelSet}
use Rattle.opc_base.specs.declared.moves.Swept.{Swept}
use Rattle.opc_base.specs.declared.plane.Pix.{Pix}
use Rattle.opc_base.proofs.ChangeLaws.{CanRise-back, CanRise-front, RisesBetween-join, RisesBy-none, RisesBy-same}
use Rattle.opc_base.proofs.SumLaws.{sum_each-same, sum_each_start}
use Rattle.lane_intensity.specs.Differences.{AreLanes}
use Rattle.outline_model.specs.Outline.{fragment_at, site_of}
use Rattle.tiles.specs.Meets.{AddsNothing, meet_tile}
use Rattle.tiles.specs.Tiles.{IsTilingOf, Tiling, by_place, first_of, fragments_of, tile_at, tile_count}
use Rattle.tiles.proofs.MeetLaws.{far}
use Rattle.tiles.proofs.TilingLaws.{first_of-ascend, first_of-end, first_of-next, first_of-within, number-in_tile}
use Rattle.opc_parallel.specs.Conditions.{IsReady}
use Rattle.opc_parallel.specs.Parts.{AreStarts}
use Rattle.opc_parallel.specs.Stored.{AddsAll, CanTake, Setting, StaysSmall, change_at, list_change, number_of, sample_at, sample_change, start_at, stride_of}

pub lanes_some : (set : KernelSet) → KeepsBounds set → 0 < lane_count set
lanes_some set bounds = ⊎_elim (λ one. omega (arith, one.kernels.some)) (λ two. omega (arith, two.kernels.some)) bounds

pub stride_some : (s : Setting) → IsReady s → 0 < stride_of s
stride_some s ready = omega (arith, mul-le 2 1 (2 * s.samples) (lane_count s.set) (omega (arith, ready.samples_some)) (lanes_some s.set ready.bounds))

-- a sample's lanes lie within what is stored for its fragment
pub sample_within : (k samples lanes : ℕ) → k < 2 * samples → k * lanes + lanes ≤ 2 * samples * lanes
sample_within k samples lanes below = omega (arith, mul-le (k + 1) lanes (2 * samples) lanes (omega arith) (omega arith))

-- a part of small numbers
pub AreLanes-part : (n k a : ℕ) (xs : List ℤ) → k ≡ n → a + n ≤ length xs → ((i : ℕ) → a ≤ i → i < a + n → unsigned_abs (get_or xs i (pos 0)) ≤ 2 ^ 62) →
    AreLanes n (2 ^ 62) (take k (drop a xs))
AreLanes-part n k a xs k_is room small = record {
  count = simp (length-take, length-drop) (omega arith);
  small = λ lane below. rw (get_or-take k (drop a xs) lane (pos 0) (omega arith), get_or-drop a xs lane (pos 0)) (small (a + lane) (omega arith) (omega arith));
}

-- ---- a number by its place
pub change_at-place : (s : Setting) (swept : Swept) (q j n : ℕ) → KeepsBounds s.set → n ≡ q * stride_of s + j → j < stride_of s →
    change_at s swept n ≡ sample_change s swept (slice_index (by_place s.tiling) q) (j / lane_count s.set) (j % lane_count s.set)
unfolding change_at
change_at-place s swept q j n bounds n_is below =
    let lanes : ℕ = lane_count s.set in
    let some : 0 < lanes = lanes_some s.set bounds in
    let k_below : j / lanes < 2 * s.samples = div_below j lanes (2 * s.samples) some below in
    let whole : n ≡ (q * (2 * s.samples) + j / lanes) * lanes + j % lanes = n_is ∙ omega (arith, div-add-mod' j lanes) in
    let across : n / lanes ≡ q * (2 * s.samples) + j / lanes = ap (λ m. m / lanes) whole ∙ div-mul-add (q * (2 * s.samples) + j / lanes) lanes (j % lanes) (mod_below j lanes some) in
    let lane : n % lanes ≡ j % lanes = ap (λ m. m % lanes) whole ∙ mod-mul-add (q * (2 * s.samples) + j / lanes) lanes (j % lanes) (mod_below j lanes some) in
    rw (across, lane, div-mul-add q (2 * s.samples) (j / lanes) k_below, mod-mul-add q (2 * s.samples) (j / lanes) k_below) refl

-- a lane of a sample, by its number among those of its fragment
pub sample_change-lane : (s : Setting) (swept : Swept) (i k lane n : ℕ) → lane < lane_count s.set → n ≡ k * lane_count s.set + lane →
    sample_change s swept i k lane ≡ sample_change s swept i (n / lane_count s.set) (n % lane_count s.set)
sample_change-lane s swept i k lane n below n_is =
    rw (n_is, div-mul-add k (lane_count s.set) lane below, mod-mul-add k (lane_count s.set) lane below) refl

-- the same, as the code computes it
plain_change : (s : Setting) (swept : Swept) (i k lane : ℕ) →
    rect_change s.set swept.rect swept.sign (sample_at s i k).x (sample_at s i k).y lane ≡ sample_change s swept i k lane
unfolding sample_change
plain_change s swept i k lane = refl

pub sample_change-here : (s : Setting) (swept : Swept) (site : Pix) (i k lane n : ℕ) (t : ℤ) → lane < lane_count s.set → t ≡ pos k -ℤ pos s.samples →
    site ≡ site_of (fragment_at s.fragments i) t → n ≡ k * lane_count s.set + lane →
    rect_change s.set swept.rect swept.sign site.x site.y lane ≡ sample_change s swept i (n / lane_count s.set) (n % lane_count s.set)
sample_change-here s swept site i k lane n t below t_is site_is n_is =
    rw (site_is, t_is) (plain_change s swept i k lane ∙ sample_change-lane s swept i k lane n below n_is)

pub sample-number : (k n : ℕ) → n ≤ 16 → k < 2 * n → to_z w32 (of_z w32 (to_z w32 k -ℤ to_z w32 n)) ≡ pos k -ℤ pos n
sample-number k n few below = omega (arith, ints)

-- the number of a lane of a sample at a place
number_is : (s : Setting) (q k lane : ℕ) → number_of s q k lane ≡ q * stride_of s + (k * lane_count s.set + lane)
number_is s q k lane = omega arith

-- ---- rectangles that are too far
sample_change-none : (s : Setting) (swept : Swept) (i k lane : ℕ) → AddsNothing s.set s.samples (fragment_at s.fragments i) swept.rect → k < s.samples + s.samples →
    sample_change s swept i k lane ≡ pos 0
unfolding sample_change
sample_change-none s swept i k lane nothing below = ap (λ z. swept.sign *ℤ z) (nothing k lane below) ∙ *ℤ-zero swept.sign

-- nor does it to any number of the fragment
pub fragment_untouched : (s : Setting) (swept : Swept) (i n : ℕ) → IsReady s → n < stride_of s → AddsNothing s.set s.samples (fragment_at s.fragments i) swept.rect →
    sample_change s swept i (n / lane_count s.set) (n % lane_count s.set) ≡ pos 0
fragment_untouched s swept i n ready below nothing =
    sample_change-none s swept i (n / lane_count s.set) (n % lane_count s.set) nothing
    (twice s.samples (div_below n (lane_count s.set) (2 * s.samples) (lanes_some s.set ready.bounds) below))
  where
    twice : (n : ℕ) {k : ℕ} → k < 2 * n → k < n + n
    twice n below = omega arith

-- a rectangle that doesn't reach a tile adds nothing to its numbers
pub untouched : (s : Setting) (swept : Swept) (tile j len : ℕ) → IsReady s → tile < tile_count s.tiling →
    start_at s tile + len ≡ start_at s (tile + 1) → j < len → meet_tile s.tiling swept.rect tile ≡ false → change_at s swept (start_at s tile + j) ≡ pos 0
untouched s swept tile j len ready in_tiles size below away =
    change_at-place s swept q (j % stride) (start_at s tile + j) ready.bounds place (mod_below j stride some)
    ∙ ap (λ i. sample_change s swept i ((j % stride) / lane_count s.set) ((j % stride) % lane_count s.set)) (number-in_tile s.tiling tile (j / stride) 0 in_tiles within)
    ∙ fragment_untouched s swept (get_or (fragments_of s.tiling tile) (j / stride) 0) (j % stride) ready (mod_below j stride some)
    (far s.set s.samples (fragment_at s.fragments (get_or (fragments_of s.tiling tile) (j / stride) 0)) (tile_at s.tiling tile) s.tiling.side s.tiling.halo swept.rect
    (omega (arith, ints, ready.halo_is)) (ready.tiling_is.in_tile tile (get_or (fragments_of s.tiling tile) (j / stride) 0) in_tiles (Contains-get_or (fragments_of s.tiling tile) (j / stride) 0 within)) away)
  where
    stride : ℕ
    stride = stride_of s

    some : 0 < stride_of s
    some = stride_some s ready

    q : ℕ
    q = first_of s.tiling tile + j / stride_of s

    place : start_at s tile + j ≡ (first_of s.tiling tile + j / stride_of s) * stride_of s + j % stride_of s
    place = omega (arith, div-add-mod' j (stride_of s))

    len_is : len ≡ stride_of s * length (fragments_of s.tiling tile)
    len_is = omega (arith, size, ap (λ n. stride_of s * n) (first_of-next s.tiling tile in_tiles))

    within : j / stride_of s < length (fragments_of s.tiling tile)
    within = div_below j (stride_of s) (length (fragments_of s.tiling tile)) some (omega (arith, below, len_is))

pub start_at-ascend : (s : Setting) (i j : ℕ) → i ≤ j → j ≤ tile_count s.tiling → start_at s i ≤ start_at s j
start_at-ascend s i j le within = mul-le (stride_of s) (first_of s.tiling i) (stride_of s) (first_of s.tiling j) (omega arith) (first_of-ascend s.tiling i j le within)

-- nor to those of several tiles that it doesn't reach
pub untouched_range : (s : Setting) (swept : Swept) (low high n : ℕ) → IsReady s → low ≤ tile_count s.tiling → high ≤ tile_count s.tiling →
    ((k : ℕ) → low ≤ k → k < high → meet_tile s.tiling swept.rect k ≡ false) → start_at s low ≤ n → n < start_at s high → change_at s swept n ≡ pos 0
untouched_range s swept low zero n ready low_within within away from upto = absurd (none (omega (arith, start_zero s, from, upto)))
  where
    start_zero : (s : Setting) → start_at s 0 ≤ 0
    start_zero s = omega arith

    none : n < 0 → ⊥
    none below = absurd (omega arith)
untouched_range s swept low (suc high) n ready low_within within away from upto = ⊎_elim
    (λ inner. untouched_range s swept low high n ready low_within (omega arith) (λ k least below. away k least (omega arith)) from inner)
    (λ outer. last outer)
    (cases_lt n (start_at s high))
  where
    above : (high low : ℕ) → high < low → suc high ≤ low
    above high low later = omega arith

    last : start_at s high ≤ n → change_at s swept n ≡ pos 0
    last outer =
        let next : high + 1 ≡ suc high = omega arith in
        let up = start_at-ascend s high (high + 1) (omega arith) (omega arith) in
        let least : low ≤ high = ⊎_elim (λ later. absurd (omega (arith, from, upto, start_at-ascend s (suc high) low (above high low later) low_within))) (λ le. le) (cases_lt high low) in
        let at : start_at s high + (n - start_at s high) ≡ n = omega arith in
        ap (change_at s swept) (sym at)
        ∙ untouched s swept high (n - start_at s high) (start_at s (high + 1) - start_at s high) ready (omega arith) (omega (arith, up))
        (omega (arith, up, subst (λ m. n < start_at s m) (sym next) upto)) (away high least (omega arith))

-- ---- the numbers of a tile
-- how many numbers are stored for a tile
tile_size : (s : Setting) (tile len : ℕ) → tile < tile_count s.tiling → start_at s tile + len ≡ start_at s (tile + 1) →
    len ≡ stride_of s * length (fragments_of s.tiling tile)
tile_size s tile len below size = omega (arith, size, ap (λ n. stride_of s * n) (first_of-next s.tiling tile below))

pub tile_fits : (s : Setting) (tile len p : ℕ) → tile < tile_count s.tiling → start_at s tile + len ≡ start_at s (tile + 1) →
    p < length (fragments_of s.tiling tile) → p * stride_of s + stride_of s ≤ len
tile_fits s tile len p below size within =
    omega (arith, tile_size s tile len below size, mul-le (p + 1) (stride_of s) (length (fragments_of s.tiling tile)) (stride_of s) (omega arith) (omega arith))

pub tile_ends : (s : Setting) (tile len p : ℕ) → tile < tile_count s.tiling → start_at s tile + len ≡ start_at s (tile + 1) →
    length (fragments_of s.tiling tile) ≤ p → len ≤ p * stride_of s
tile_ends s tile len p below size past =
    omega (arith, tile_size s tile len below size, mul-le (length (fragments_of s.tiling tile)) (stride_of s) p (stride_of s) past (omega arith))

pub tile_room : (s : Setting) (tile len : ℕ) → IsReady s → tile < tile_count s.tiling → start_at s tile + len ≡ start_at s (tile + 1) → len < 2 ^ 60
tile_room s tile len ready below size =
    omega (arith, size, ready.room, start_at-ascend s (tile + 1) (tile_count s.tiling) (omega arith) (omega arith))

pub number_below : (s : Setting) (tile p : ℕ) → IsReady s → tile < tile_count s.tiling → p < length (fragments_of s.tiling tile) →
    get_or (fragments_of s.tiling tile) p 0 < length s.fragments
number_below s tile p ready below within =
    rw (sym (number-in_tile s.tiling tile p 0 below within)) (ready.tiling_is.below (first_of s.tiling tile + p) 0 (omega (arith, first_of-within s.tiling tile below)))

-- what a rectangle adds to the numbers of a fragment of a tile
pub change_at-fragment : (s : Setting) (swept : Swept) (tile p i n number : ℕ) → IsReady s → tile < tile_count s.tiling → p < length (fragments_of s.tiling tile) →
    n ≡ start_at s tile + p * stride_of s + i → i < stride_of s → number ≡ get_or (fragments_of s.tiling tile) p 0 →
    sample_change s swept number (i / lane_count s.set) (i % lane_count s.set) ≡ change_at s swept n
change_at-fragment s swept tile p i n number ready below within n_is i_below is =
    ap (λ m. sample_change s swept m (i / lane_count s.set) (i % lane_count s.set)) (is ∙ sym (number-in_tile s.tiling tile p 0 below within))
    ∙ sym (change_at-place s swept (first_of s.tiling tile + p) i n ready.bounds (omega (arith, n_is)) i_below)

pub starts : (s : Setting) → AreStarts (start_at s) (tile_count s.tiling)
starts s = record { ordered = λ i j le within. start_at-ascend s i j le within }

-- ---- what a part can take
-- a part of the numbers is small after m rectangles
pub small_after : (s : Setting) (list : List Swept) (base m : ℕ) (old new : List ℤ) → CanTake s list base old → m ≤ length list →
    RisesBy (list_change s (take m list)) base old new → AreLanes (length new) (2 ^ 62) new
small_after s list base m old new can few rises = record {
  count = refl;
  small = λ i below. rw (rises.each i (omega (arith, rises.same_length))) ((can.fits m few).fits i (omega (arith, rises.same_length)));
}

pub CanTake-front : (s : Setting) (list : List Swept) (base : ℕ) (all xs ys : List ℤ) →
    all ≡ xs ++ ys → CanTake s list base all → CanTake s list base xs
CanTake-front s list base all xs ys split can = record { fits = λ m few. CanRise-front _ base all xs ys split (can.fits m few) }

pub CanTake-back : (s : Setting) (list : List Swept) (base up : ℕ) (all xs ys : List ℤ) →
    all ≡ xs ++ ys → up ≡ base + length xs → CanTake s list base all → CanTake s list up ys
CanTake-back s list base up all xs ys split place can = record { fits = λ m few. CanRise-back _ base up all xs ys split place (can.fits m few) }

-- ---- all numbers
-- each number is that of a place, a sample and a lane
list_change-number : (s : Setting) (list : List Swept) (q i k lane : ℕ) → KeepsBounds s.set → slice_get (by_place s.tiling) q ≡ Some i → k < 2 * s.samples → lane < lane_count s.set →
    list_change s list (0 + number_of s q k lane) ≡ sum_each (λ one. sample_change s one i k lane) list
list_change-number s list q i k lane bounds is in_samples in_lanes = sum_each-same _ _ list (λ one.
    change_at-place s one q (k * lane_count s.set + lane) (0 + number_of s q k lane) bounds (zero-add (number_of s q k lane) ∙ number_is s q k lane)
    (omega (arith, sample_within k s.samples (lane_count s.set) in_samples))
    ∙ ap (λ m. sample_change s one m ((k * lane_count s.set + lane) / lane_count s.set) ((k * lane_count s.set + lane) % lane_count s.set)) (get_or_from_slice_get (by_place s.tiling) q i 0 is)
    ∙ sym (sample_change-lane s one i k lane (k * lane_count s.set + lane) in_lanes refl))

pub adds_all : (s : Setting) (list : List Swept) (old new : List ℤ) → KeepsBounds s.set → length old ≡ stride_of s * length (by_place s.tiling) →
    RisesBy (list_change s list) 0 old new → AddsAll s list old new
adds_all s list old new bounds size rises q i k lane is in_samples in_lanes =
    rises.each (number_of s q k lane) below
    ∙ ap (λ z. get_or old (number_of s q k lane) (pos 0) +ℤ z) (list_change-number s list q i k lane bounds is in_samples in_lanes)
  where
    in_places : q < length (by_place s.tiling)
    in_places = slice_get_within (by_place s.tiling) q i is

    below : number_of s q k lane < length old
    below = omega (arith, number_is s q k lane, sample_within k s.samples (lane_count s.set) in_samples, size, mul-le (q + 1) (stride_of s) (length (by_place s.tiling)) (stride_of s) (omega (arith, in_places)) (omega arith))

pub can_take : (s : Setting) (list : List Swept) (sums : List ℤ) → IsReady s → length sums ≡ stride_of s * length (by_place s.tiling) →
    StaysSmall s list sums → CanTake s list 0 sums
can_take s list sums ready size stays = record { fits = λ m few. record { fits = λ n below. each m few n below } }
  where
    each : (m : ℕ) → m ≤ length list → (n : ℕ) → n < length sums → unsigned_abs (get_or sums n (pos 0) +ℤ list_change s (take m list) (0 + n)) ≤ 2 ^ 62
    each m few n below =
        let lanes : ℕ = lane_count s.set in
        let some : 0 < lanes = lanes_some s.set ready.bounds in
        let stride : ℕ = stride_of s in
        let j : ℕ = n % stride in
        let q : ℕ = n / stride in
        let j_below : j < stride = mod_below n stride (stride_some s ready) in
        let q_below : q < length (by_place s.tiling) = div_below n stride (length (by_place s.tiling)) (stride_some s ready) (omega (arith, below, size)) in
        let k_below : j / lanes < 2 * s.samples = div_below j lanes (2 * s.samples) some j_below in
        let number : number_of s q (j / lanes) (j % lanes) ≡ n =
        number_is s q (j / lanes) (j % lanes) ∙ omega (arith, div-add-mod' j lanes, div-add-mod' n stride) in
        let is = slice_get-get_or (by_place s.tiling) q 0 q_below in
        let small = stays m q (get_or (by_place s.tiling) q 0) (j / lanes) (j % lanes) few is k_below (mod_below j lanes some) in
        let change = list_change-number s (take m list) q (get_or (by_place s.tiling) q 0) (j / lanes) (j % lanes) ready.bounds is k_below (mod_below j lanes some) in
        subst (λ v. unsigned_abs (get_or sums v (pos 0) +ℤ list_change s (take m list) (0 + v)) ≤ 2 ^ 62) number (rw change small)

-- a number to which nothing is added
stays : (x y : ℤ) → y ≡ pos 0 → x ≡ x +ℤ y
stays x y none = rw none (omega (arith, ints))

-- a slice to which nothing is added between two places
pub RisesBetween-still : (change : ℕ → ℤ) (base low high : ℕ) (xs : List ℤ) → ((i : ℕ) → i < length xs → low ≤ i → i < high → change (base + i) ≡ pos 0) →
    RisesBetween change base low high xs xs
RisesBetween-still change base low high xs still = record {
  same_length = refl;
  inside = λ i from upto below. stays (get_or xs i (pos 0)) (change (base + i)) (still i below from upto);
  before = λ i below. refl;
  after = λ i from. refl;
}

-- nothing is added to tiles that it doesn't reach
pub RisesBetween-past : (s : Setting) (swept : Swept) (first next tile : ℕ) (old xs : List ℤ) → IsReady s → first ≤ next → next ≤ tile → tile ≤ tile_count s.tiling →
    ((k : ℕ) → next ≤ k → k < tile → meet_tile s.tiling swept.rect k ≡ false) →
    RisesBetween (change_at s swept) (start_at s first) 0 (start_at s next - start_at s first) old xs →
    RisesBetween (change_at s swept) (start_at s first) 0 (start_at s tile - start_at s first) old xs
RisesBetween-past s swept first next tile old xs ready from up within missed rises =
    let base : ℕ = start_at s first in
    RisesBetween-join _ base 0 (start_at s next - base) (start_at s tile - base) old xs xs (omega arith) (omega (arith, start_at-ascend s next tile up within)) rises
    (RisesBetween-still _ base (start_at s next - base) (start_at s tile - base) xs (λ i below low high.
    untouched_range s swept next tile (base + i) ready (omega (arith, up, within)) within missed (omega (arith, low)) (omega (arith, high))))

-- a slice that rises between two places, where nothing is added at the others
pub RisesBy-inside : (change : ℕ → ℤ) (base low high : ℕ) (xs ys : List ℤ) → RisesBetween change base low high xs ys →
    ((i : ℕ) → i < length xs → i < low → change (base + i) ≡ pos 0) → ((i : ℕ) → i < length xs → high ≤ i → change (base + i) ≡ pos 0) → RisesBy change base xs ys
RisesBy-inside change base low high xs ys rises under over = record {
  same_length = rises.same_length;
  each = λ i below. ⊎_elim
      (λ early. rises.before i early ∙ stays (get_or xs i (pos 0)) (change (base + i)) (under i below early))
      (λ least. ⊎_elim
      (λ inner. rises.inside i least inner below)
      (λ late. rises.after i late ∙ stays (get_or xs i (pos 0)) (change (base + i)) (over i below late))
      (cases_lt i high))
      (cases_lt i low);
}

-- a part of small numbers that are as they were before
pub AreLanes-kept : (a k n : ℕ) (old xs : List ℤ) → AreLanes (length old) (2 ^ 62) old → k ≡ n → a + n ≤ length xs → length xs ≡ length old →
    ((i : ℕ) → a ≤ i → get_or xs i (pos 0) ≡ get_or old i (pos 0)) → AreLanes (length (take k (drop a xs))) (2 ^ 62) (take k (drop a xs))
AreLanes-kept a k n old xs small k_is room same kept =
    let part = AreLanes-part n k a xs k_is room (λ i from below. rw (kept i from) (small.small i (omega (arith, below, room, same)))) in
    subst (λ m. AreLanes m (2 ^ 62) (take k (drop a xs))) (sym part.count) part

-- where the numbers of a tile lie among those of several
pub tile_bounds : (s : Setting) (first tile last len : ℕ) → first ≤ tile → tile + 1 ≤ last → last ≤ tile_count s.tiling → start_at s first + len ≡ start_at s last →
    (start_at s first ≤ start_at s tile) × (start_at s tile ≤ start_at s (tile + 1)) × (start_at s (tile + 1) ≤ start_at s first + len)
tile_bounds s first tile last len from upto within size = (
  start_at-ascend s first tile from (omega arith),
  start_at-ascend s tile (tile + 1) (omega arith) (omega arith),
  omega (arith, size, start_at-ascend s (tile + 1) last upto within),
)

pub tiles_room : (s : Setting) (last n : ℕ) → IsReady s → last ≤ tile_count s.tiling → n ≤ start_at s last → n < 2 ^ 60
tiles_room s last n ready within upto = omega (arith, upto, ready.room, start_at-ascend s last (tile_count s.tiling) within (omega arith))

-- what is asked, from what the caller knows
lanes_few : (set : KernelSet) → KeepsBounds set → lane_count set ≤ 32
lanes_few set bounds = ⊎_elim (λ one. omega (arith, one.kernels.few)) (λ two. omega (arith, two.kernels.few)) bounds

pub ready_is : (s : Setting) → KeepsBounds s.set → IsTilingOf s.fragments s.tiling.side s.tiling.halo s.tiling → s.tiling.halo ≡ pos (s.set.reach + s.samples) →
    1 ≤ s.samples → s.samples ≤ 16 → length s.fragments ≤ 32768 → IsReady s
ready_is s bounds tiling halo some few fragments = record {
  bounds = bounds;
  tiling_is = tiling;
  halo_is = halo;
  samples_some = some;
  samples_few = few;
  room = omega (arith, mul-le (stride_of s) (first_of s.tiling (tile_count s.tiling)) 1024 32768 stride (omega (arith, first_of-end s.tiling, tiling.count)));
}
  where
    stride : stride_of s ≤ 1024
    stride = omega (arith, mul-le (2 * s.samples) (lane_count s.set) 32 32 (omega (arith, few)) (lanes_few s.set bounds))

pub start_zero : (s : Setting) → start_at s 0 ≡ 0
start_zero s = omega arith

pub start_end : (s : Setting) (size : ℕ) → size ≡ stride_of s * length (by_place s.tiling) → start_at s (tile_count s.tiling) ≡ size
start_end s size is = ap (λ n. stride_of s * n) (first_of-end s.tiling) ∙ sym is

-- no tile, no place
pub no_places : (tiling : Tiling) (q i : ℕ) → tile_count tiling ≡ 0 → slice_get (by_place tiling) q ≡ Some i → q < 0
no_places tiling q i none is =
    let ends = first_of-end tiling in
    let start : first_of tiling 0 ≡ 0 = omega arith in
    omega (arith, slice_get_within (by_place tiling) q i is, ends, subst (λ n. first_of tiling n ≡ 0) (sym none) start)

-- the samples to a side, counted as a natural number
-- the halo, where the samples are counted as a natural number
pub halo_is : (halo samples : ℤ) (reach : ℕ) → pos 1 ≤ℤ samples → halo ≡ pos reach +ℤ samples → halo ≡ pos (reach + unsigned_abs samples)
halo_is halo samples reach some is = omega (arith, ints, is)

pub some_samples : (samples : ℤ) → pos 1 ≤ℤ samples → 1 ≤ unsigned_abs samples
some_samples samples some = omega (arith, ints)

pub few_samples : (samples : ℤ) → pos 1 ≤ℤ samples → samples ≤ℤ pos 16 → unsigned_abs samples ≤ 16
few_samples samples some few = omega (arith, ints)

-- ---- one rectangle
-- all numbers are small where a list of rectangles can be added
pub all_small : (s : Setting) (list : List Swept) (sums : List ℤ) → CanTake s list 0 sums → AreLanes (length sums) (2 ^ 62) sums
all_small s list sums can = small_after s list 0 0 sums sums can (omega arith) (RisesBy-none _ 0 sums (λ n. sym (sum_each_start _)))

-- a list of one adds what that one does
pub adds_one : (s : Setting) (one : Swept) (old new : List ℤ) → KeepsBounds s.set → length old ≡ stride_of s * length (by_place s.tiling) →
    RisesBy (change_at s one) 0 old new → AddsAll s (one ∷ []) old new
unfolding sum_each
adds_one s one old new bounds size rises = adds_all s (one ∷ []) old new bounds size (RisesBy-same _ _ 0 old new (λ i below. sym (alone (λ each. change_at s each (0 + i)))) rises)
  where
    alone : (f : Swept → ℤ) → sum_each f (one ∷ []) ≡ f one
    alone f = omega (arith, ints)

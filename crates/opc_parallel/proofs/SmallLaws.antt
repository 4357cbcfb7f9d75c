-- Numbers that stay small while a short list of rectangles is added.
use Rattle.std.proofs.Common.{◌≡◌, ℕ, suc, ◌+◌, ◌*◌, ◌^◌, ◌<◌, ◌≤◌, ℤ, pos, neg_ℤ, ◌+ℤ◌, ◌-ℤ◌, unsigned_abs, Bool, if◌then◌else◌, List, [], ◌∷◌, Some, All, length, get_or, replicate, slice_get, take, arith, mul-le-mul, mul_assoc, ⊎_elim}
use Rattle.std.proofs.Math.ListN.{get_or-eq_default}
use Rattle.std.proofs.lemmas.Bool.{cases_lt}
use Rattle.std.proofs.lemmas.Int.{ints, unsigned_abs-mul}
use Rattle.std.proofs.lemmas.List.{get_or-replicate, length-replicate, length-take}
use Rattle.std.proofs.lemmas.List.Elements.{All-take}
use Rattle.opc_base.specs.Lanes.{lane_count, lane_entry, part_of_lane}
use Rattle.opc_base.specs.Optics.{KeepsBounds}
use Rattle.opc_base.specs.Plane.{PixelSet, rect_cover}
use Rattle.opc_base.specs.Sums.{sum_each}
use Rattle.opc_base.specs.declared.kernels.KernelSet.{KernelSet}
use Rattle.opc_base.specs.declared.moves.Swept.{Swept}
use Rattle.opc_base.proofs.LaneLaws.{lane_entry-within}
use Rattle.opc_base.proofs.OpticsLaws.{reach_within}
use Rattle.opc_base.proofs.SumLaws.{sum_range-bound}
use Rattle.tiles.specs.Tiles.{by_place}
use Rattle.opc_parallel.specs.Conditions.{IsSweepable}
use Rattle.opc_parallel.specs.Stored.{Setting, StaysSmall, number_of, sample_at, sample_change}

-- what the pixels of a set give in a lane
part_small : (set : KernelSet) (pixels : PixelSet) (x y : ℤ) (lane : ℕ) → KeepsBounds set → unsigned_abs (part_of_lane set pixels x y lane) ≤ 2 ^ 27
part_small set pixels x y lane bounds =
    let all : unsigned_abs (part_of_lane set pixels x y lane) ≤ 4096 * (2 * set.reach + 1) * (2 * set.reach + 1) =
    sum_range-bound _ (neg_ℤ (pos set.reach)) (2 * set.reach + 1) (4096 * (2 * set.reach + 1)) (λ v.
    sum_range-bound _ (neg_ℤ (pos set.reach)) (2 * set.reach + 1) 4096 (λ u. smaller (pixels (x -ℤ u) (y -ℤ v)) (lane_entry set lane u v) (lane_entry-within set lane u v bounds))) in
    let width : 2 * set.reach + 1 ≤ 129 = omega (arith, reach_within set bounds) in
    let places : (2 * set.reach + 1) * (2 * set.reach + 1) ≤ 16641 = mul-le-mul width width in
    omega (arith, all, places, mul_assoc 4096 (2 * set.reach + 1) (2 * set.reach + 1))
  where
    smaller : (b : Bool) (e : ℤ) → unsigned_abs e ≤ 4096 → unsigned_abs (if b then e else pos 0) ≤ 4096
    smaller b e fits = grind arith

change_small : (s : Setting) (swept : Swept) (i k lane : ℕ) → KeepsBounds s.set → IsSweepable swept → unsigned_abs (sample_change s swept i k lane) ≤ 2 ^ 27
unfolding sample_change
change_small s swept i k lane bounds sweepable =
    let here = sample_at s i k in
    let part = part_of_lane s.set (rect_cover swept.rect) here.x here.y lane in
    let small = part_small s.set (rect_cover swept.rect) here.x here.y lane bounds in
    rw (unsigned_abs-mul swept.sign part, sweepable.sign) (omega (arith, small))

list_small : (s : Setting) (list : List Swept) (i k lane : ℕ) → KeepsBounds s.set → All IsSweepable list →
    unsigned_abs (sum_each (λ one. sample_change s one i k lane) list) ≤ 2 ^ 27 * length list
unfolding sum_each
list_small s [] i k lane bounds all = omega arith
list_small s (one ∷ list) i k lane bounds all =
    omega (arith, ints, change_small s one i k lane bounds (all 0 one (omega arith)), list_small s list i k lane bounds (λ n d below. all (suc n) d (omega arith)))

-- lanes within 2^61 of 0 stay within 2^62, whatever up to 2^20 rectangles add
pub lanes_stay_small : (s : Setting) (list : List Swept) (sums : List ℤ) → KeepsBounds s.set →
    ((q i k lane : ℕ) → slice_get (by_place s.tiling) q ≡ Some i → k < 2 * s.samples → lane < lane_count s.set → unsigned_abs (get_or sums (number_of s q k lane) (pos 0)) ≤ 2 ^ 61) →
    All IsSweepable list → length list ≤ 2 ^ 20 → StaysSmall s list sums
lanes_stay_small s list sums bounds small all few m q i k lane upto is in_samples in_lanes =
    let size : length (take m list) ≤ 2 ^ 20 = simp length-take (omega arith) in
    let added = list_small s (take m list) i k lane bounds (All-take IsSweepable m list all) in
    let one = small q i k lane is in_samples in_lanes in
    sum_small (get_or sums (number_of s q k lane) (pos 0)) (sum_each (λ one. sample_change s one i k lane) (take m list)) one (omega (arith, added, size))
  where
    sum_small : (a b : ℤ) → unsigned_abs a ≤ 2 ^ 61 → unsigned_abs b ≤ 2 ^ 47 → unsigned_abs (a +ℤ b) ≤ 2 ^ 62
    sum_small a b first second = omega (arith, ints)

-- so do they where each stored number is within 2^61
pub stays_small : (s : Setting) (list : List Swept) (sums : List ℤ) → KeepsBounds s.set → ((n : ℕ) → unsigned_abs (get_or sums n (pos 0)) ≤ 2 ^ 61) →
    All IsSweepable list → length list ≤ 2 ^ 20 → StaysSmall s list sums
stays_small s list sums bounds small all few = lanes_stay_small s list sums bounds (λ q i k lane is in_samples in_lanes. small (number_of s q k lane)) all few

-- sums of 0 are small
pub zeros_small : (n i : ℕ) (sums : List ℤ) → sums ≡ replicate n (pos 0) → unsigned_abs (get_or sums i (pos 0)) ≤ 2 ^ 61
zeros_small n i sums is = ⊎_elim
    (λ below. rw (is, get_or-replicate n i (pos 0) (pos 0) below) (omega arith))
    (λ past. rw (is, get_or-eq_default (replicate n (pos 0)) (pos 0) {n = i} (omega (arith, past, length-replicate n (pos 0)))) (omega arith))
    (cases_lt i n)

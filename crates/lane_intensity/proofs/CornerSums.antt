-- What the corners of a list add to a lane, one by one.
use Rattle.std.proofs.Common.{◌≡◌, ℕ, ◌+◌, ◌*◌, ◌^◌, ◌<◌, ◌≤◌, ℤ, pos, ◌+ℤ◌, ◌*ℤ◌, unsigned_abs, List, [], length, get_or, take, sym, arith, mul-le-mul, SFits, w64, to_z, of_z, to_z-of_z}
use Rattle.std.proofs.lemmas.Int.{fits_signed_mul, ints, unsigned_abs-mul}
use Rattle.opc_base.specs.Changes.{RisesBy}
use Rattle.opc_base.specs.Lanes.{AddUpNear, LanesAre, amplitude_of_lane, corners_change, ground_of_lane, lane_count, part_of_lane}
use Rattle.opc_base.specs.Plane.{PixelSet}
use Rattle.opc_base.specs.declared.kernels.KernelSet.{KernelSet}
use Rattle.opc_base.specs.declared.plane.Corner.{Corner}
use Rattle.opc_base.proofs.ChangeLaws.{RisesBy-add, RisesBy-none, RisesBy-same}
use Rattle.opc_base.proofs.LaneLaws.{LanesAre-rise, amplitude_of_lane-part, part_of_lane-corners}
use Rattle.opc_base.proofs.SumLaws.{sum_each_start, sum_each-more}
use Rattle.lane_intensity.specs.Differences.{corner_change}

-- before the first corner
pub corners_start : (set : KernelSet) (x y : ℤ) (acc : List ℤ) → RisesBy (corners_change set (take 0 []) x y) 0 acc acc
corners_start set x y acc = RisesBy-none (corners_change set (take 0 []) x y) 0 acc (λ lane. sym (sum_each_start (λ (c : Corner). corner_change set c x y lane)))

-- one more corner
pub corners_step : (set : KernelSet) (corners : List Corner) (i : ℕ) (d : Corner) (x y : ℤ) (xs ys zs : List ℤ) → i < length corners →
    RisesBy (corners_change set (take i corners) x y) 0 xs ys → RisesBy (corner_change set (get_or corners i d) x y) 0 ys zs →
    RisesBy (corners_change set (take (i + 1) corners) x y) 0 xs zs
corners_step set corners i d x y xs ys zs within first second =
    RisesBy-same (λ lane. corners_change set (take i corners) x y lane +ℤ corner_change set (get_or corners i d) x y lane)
    (corners_change set (take (i + 1) corners) x y) 0 xs zs
    (λ lane below. sym (sum_each-more (λ (c : Corner). corner_change set c x y (0 + lane)) corners i d within))
    (RisesBy-add (corners_change set (take i corners) x y) (corner_change set (get_or corners i d) x y) 0 xs ys zs first second)

-- the lanes stay small
pub small_step : (set : KernelSet) (corner : Corner) (x y : ℤ) (most : ℕ) (ys zs : List ℤ) → length ys ≡ lane_count set →
    ((lane : ℕ) → lane < lane_count set → unsigned_abs (get_or ys lane (pos 0)) ≤ most) →
    ((lane : ℕ) → lane < lane_count set → unsigned_abs (corner_change set corner x y lane) ≤ 2 ^ 28) →
    RisesBy (corner_change set corner x y) 0 ys zs → (lane : ℕ) → lane < lane_count set → unsigned_abs (get_or zs lane (pos 0)) ≤ most + 2 ^ 28
small_step set corner x y most ys zs count small change rises lane below =
    let risen : get_or zs lane (pos 0) ≡ get_or ys lane (pos 0) +ℤ corner_change set corner x y (0 + lane) = rises.each lane (omega arith) in
    let more : unsigned_abs (corner_change set corner x y (0 + lane)) ≤ 2 ^ 28 = change (0 + lane) (omega arith) in
    sum_small (get_or ys lane (pos 0)) (corner_change set corner x y (0 + lane)) (get_or zs lane (pos 0)) (small lane below) more risen
  where
    sum_small : (a b c : ℤ) → unsigned_abs a ≤ most → unsigned_abs b ≤ 2 ^ 28 → c ≡ a +ℤ b → unsigned_abs c ≤ most + 2 ^ 28
    sum_small a b c small_a small_b is = omega (arith, ints)

-- what each set gives that the corners add up to
pub corners_part : (set : KernelSet) (pixels : PixelSet) (corners : List Corner) (x y : ℤ) (xs ys : List ℤ) → AddUpNear set.reach corners pixels x y →
    RisesBy (corners_change set corners x y) 0 xs ys → RisesBy (part_of_lane set pixels x y) 0 xs ys
corners_part set pixels corners x y xs ys near =
    RisesBy-same (corners_change set corners x y) (part_of_lane set pixels x y) 0 xs ys (λ lane below. part_of_lane-corners set pixels corners x y (0 + lane) near)

-- from the ground on, its amplitudes
pub corners_amplitudes : (set : KernelSet) (pixels : PixelSet) (x y : ℤ) (xs ys : List ℤ) → LanesAre set (ground_of_lane set) xs →
    RisesBy (part_of_lane set pixels x y) 0 xs ys → LanesAre set (amplitude_of_lane set pixels x y) ys
corners_amplitudes set pixels x y xs ys = LanesAre-rise set _ _ _ xs ys (λ lane. amplitude_of_lane-part set pixels x y lane)

-- a sign times a block is small
pub times-small : (times block : ℤ) → unsigned_abs times ≤ 2 → unsigned_abs block ≤ 2 ^ 27 → unsigned_abs (times *ℤ block) ≤ 2 * 2 ^ 27
times-small times block few small = rw (unsigned_abs-mul times block) (mul-le-mul few small)

-- their product as the code computes it, and its sum with a lane
pub product-is : (times block : ℤ) → unsigned_abs times ≤ 2 → unsigned_abs block ≤ 2 ^ 27 →
    to_z w64 (of_z w64 (to_z w64 (of_z w64 times) *ℤ to_z w64 (of_z w64 block))) ≡ times *ℤ block
product-is times block few small =
    let times_fits : SFits w64 times = omega (arith, ints) in
    let block_fits : SFits w64 block = omega (arith, ints) in
    let product_fits = fits_signed_mul w64 times block 2 (2 ^ 27) few small (omega arith) in
    simp to_z-of_z

pub sum-fits : (acc times block : ℤ) → unsigned_abs acc ≤ 2 ^ 62 + 2 ^ 48 → unsigned_abs times ≤ 2 → unsigned_abs block ≤ 2 ^ 27 →
    SFits w64 (acc +ℤ times *ℤ block)
sum-fits acc times block small few small_block = of_two acc (times *ℤ block) small (times-small times block few small_block)
  where
    of_two : (a b : ℤ) → unsigned_abs a ≤ 2 ^ 62 + 2 ^ 48 → unsigned_abs b ≤ 2 * 2 ^ 27 → SFits w64 (a +ℤ b)
    of_two a b small_a small_b = omega (arith, ints)

pub lane-is : (acc : ℤ) → unsigned_abs acc ≤ 2 ^ 62 + 2 ^ 48 → to_z w64 (of_z w64 acc) ≡ acc
lane-is acc small = omega (arith, ints)

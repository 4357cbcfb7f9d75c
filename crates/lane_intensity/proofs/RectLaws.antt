-- What a rectangle adds to a lane is the difference of four blocks, and what a move adds to an amplitude.
use Rattle.std.proofs.Common.{◌≡◌, ℕ, ℤ, pos, neg_ℤ, ◌+ℤ◌, ◌-ℤ◌, ◌*ℤ◌, ◌≤ℤ◌, ◌<ℤ◌, unsigned_abs, List, ◌∙◌, sym, arith}
use Rattle.std.proofs.lemmas.Int.{ints}
use Rattle.opc_base.specs.Changes.{RisesBy}
use Rattle.opc_base.specs.Lanes.{LanesAre, amplitude_of_lane, block_of_lane, lane_entry, part_of_lane, rect_change}
use Rattle.opc_base.specs.Plane.{IsOrdered, IsSweep, PixelSet, rect_cover}
use Rattle.opc_base.specs.declared.kernels.KernelSet.{KernelSet}
use Rattle.opc_base.specs.declared.moves.Swept.{Swept}
use Rattle.opc_base.specs.declared.plane.Rect.{Rect}
use Rattle.opc_base.proofs.BlockLaws.{seen_sum-rect}
use Rattle.opc_base.proofs.LaneLaws.{LanesAre-rise, amplitude_of_lane-sweep}

pub rect_lane : (set : KernelSet) (rect : Rect) (x y : ℤ) (lane : ℕ) (a b c d : ℤ) → IsOrdered rect →
    a ≡ block_of_lane set lane (x -ℤ rect.x0) (y -ℤ rect.y0) → b ≡ block_of_lane set lane (x -ℤ rect.x1) (y -ℤ rect.y0) →
    c ≡ block_of_lane set lane (x -ℤ rect.x0) (y -ℤ rect.y1) → d ≡ block_of_lane set lane (x -ℤ rect.x1) (y -ℤ rect.y1) →
    a -ℤ b -ℤ c +ℤ d ≡ part_of_lane set (rect_cover rect) x y lane
rect_lane set rect x y lane a b c d ordered at_a at_b at_c at_d = rw (at_a, at_b, at_c, at_d) (sym (seen_sum-rect set.reach (lane_entry set lane) rect x y ordered))

-- with the sign of the rectangle
pub outward : (sign a b c d z : ℤ) → unsigned_abs sign ≡ 1 → pos 0 <ℤ sign → a -ℤ b -ℤ c +ℤ d ≡ z → a -ℤ b -ℤ c +ℤ d ≡ sign *ℤ z
outward sign a b c d z one above is =
    let plus : sign ≡ pos 1 = omega (arith, ints) in
    rw plus (is ∙ omega (arith, ints))

pub inward : (sign a b c d z : ℤ) → unsigned_abs sign ≡ 1 → sign ≤ℤ pos 0 → a -ℤ b -ℤ c +ℤ d ≡ z → b -ℤ a -ℤ d +ℤ c ≡ sign *ℤ z
inward sign a b c d z one under is =
    let minus : sign ≡ neg_ℤ (pos 1) = omega (arith, ints) in
    rw minus (omega (arith, ints, is))

-- from the amplitudes of one mask to those of the next
pub rect_amplitudes : (set : KernelSet) (s : Swept) (before after : PixelSet) (x y : ℤ) (xs ys : List ℤ) → unsigned_abs s.sign ≡ 1 → IsSweep s before after →
    LanesAre set (amplitude_of_lane set before x y) xs → RisesBy (rect_change set s.rect s.sign x y) 0 xs ys → LanesAre set (amplitude_of_lane set after x y) ys
rect_amplitudes set s before after x y xs ys one move = LanesAre-rise set _ _ _ xs ys (λ lane. amplitude_of_lane-sweep set s before after x y lane one move)

use Rattle.std.proofs.Common.{◌≡◌, ◌+◌, ◌*◌, ◌-◌, ◌≤◌, length, get_or, zero-add, take, drop, ap, arith}
use Rattle.std.proofs.Math.Nat.{mul-le-mul_left}
use Rattle.std.proofs.lemmas.List.{length-take}
use Rattle.tiles.specs.Tiles.{fragments_of}
use Rattle.opc_base.proofs.ChangeLaws.{RisesBetween-join, RisesBetween-part, RisesBy-moved, RisesBy-between}
use Rattle.opc_parallel.specs.Conditions.{setting_of}
use Rattle.opc_parallel.specs.Stored.{start_at, stride_of}
use Rattle.opc_parallel.proofs.StoredLaws.{AreLanes-part, change_at-fragment, number_below, tile_ends, tile_fits, tile_room}
use Rattle.opc_parallel.proofs.tile_sums.add_to_tile.Goals as goal

pub overflow_mul-start : goal.overflow_mul-start
overflow_mul-start g c =
    let s = setting_of c.args.work.now in
    let within = tile_fits s c.args.tile (length c.args.sums.now) c.loop-place.place c.requires.tile c.requires.size (rw c.fragments-number-items.ensures at c.loop-place-test.true) in
    let room = tile_room s c.args.tile (length c.args.sums.now) c.requires.ready c.requires.tile c.requires.size in
    record { fits = rw c.stride-stride.ensures.stride (omega (arith, within, room)) }

pub overflow_add-own : goal.overflow_add-own
overflow_add-own g c =
    let s = setting_of c.args.work.now in
    let within = tile_fits s c.args.tile (length c.args.sums.now) c.loop-place.place c.requires.tile c.requires.size (rw c.fragments-number-items.ensures at c.loop-place-test.true) in
    let room = tile_room s c.args.tile (length c.args.sums.now) c.requires.ready c.requires.tile c.requires.size in
    record { fits = rw c.stride-stride.ensures.stride (omega (arith, within, room)) }

pub offset_bounds-sums-start : goal.offset_bounds-sums-start
offset_bounds-sums-start g c =
    let s = setting_of c.args.work.now in
    let within = tile_fits s c.args.tile (length c.args.sums.now) c.loop-place.place c.requires.tile c.requires.size (rw c.fragments-number-items.ensures at c.loop-place-test.true) in
    let room = tile_room s c.args.tile (length c.args.sums.now) c.requires.ready c.requires.tile c.requires.size in
    record { fits = rw c.stride-stride.ensures.stride (omega (arith, within, room)) }

pub slice_bounds-own-end : goal.slice_bounds-own-end
slice_bounds-own-end g c =
    let s = setting_of c.args.work.now in
    let within = tile_fits s c.args.tile (length c.args.sums.now) c.loop-place.place c.requires.tile c.requires.size (rw c.fragments-number-items.ensures at c.loop-place-test.true) in
    let ends : c.loop-place.place * c.stride-stride.result + c.stride-stride.result ≤ length c.loop-place.sums =
    rw c.stride-stride.ensures.stride (omega (arith, within, c.loop-place.invariant.0.same_length)) in
    omega (arith, ends)

pub add_if_near-requires-clause-number : goal.add_if_near-requires-clause-number
add_if_near-requires-clause-number g c =
    rw c.fragments-number-items.ensures
    (number_below (setting_of c.args.work.now) c.args.tile c.loop-place.place c.requires.ready c.requires.tile (rw c.fragments-number-items.ensures at c.loop-place-test.true))

pub add_if_near-requires-clause-sums : goal.add_if_near-requires-clause-sums
add_if_near-requires-clause-sums g c =
    let s = setting_of c.args.work.now in
    let within = tile_fits s c.args.tile (length c.args.sums.now) c.loop-place.place c.requires.tile c.requires.size (rw c.fragments-number-items.ensures at c.loop-place-test.true) in
    rw c.stride-stride.ensures.stride (AreLanes-part (stride_of s) (c.loop-place.place * stride_of s + stride_of s - c.loop-place.place * stride_of s) (c.loop-place.place * stride_of s) c.loop-place.sums (omega arith)
    (omega (arith, within, c.loop-place.invariant.0.same_length)) (λ i from below. rw (c.loop-place.invariant.0.after i from) (c.requires.small.small i (omega (arith, below, within)))))

pub loop-place-preserved : goal.loop-place-preserved
loop-place-preserved g c =
    let s = setting_of c.args.work.now in
    let stride = stride_of s in
    let start = start_at s c.args.tile in
    let p = c.loop-place.place in
    let p_below = rw c.fragments-number-items.ensures at c.loop-place-test.true in
    let within = tile_fits s c.args.tile (length c.args.sums.now) p c.requires.tile c.requires.size p_below in
    let read = ap (λ xs. get_or xs p 0) c.fragments-number-items.ensures in
    let next : (p + 1) * stride ≡ p * stride + stride = omega arith in
    let part_length : length (take (p * stride + stride - p * stride) (drop (p * stride) c.loop-place.sums)) ≤ stride = simp length-take (omega arith) in (
      rw (c.stride-stride.ensures.stride, next) (RisesBetween-join _ start 0 (p * stride) (p * stride + stride) _ _ _ (omega arith) (omega arith) c.loop-place.invariant.0
          (RisesBetween-part _ start (p * stride) _ stride _ _ (omega arith) (omega (arith, within, c.loop-place.invariant.0.same_length))
          (RisesBy-moved _ _ 0 (start + p * stride) _ _ (λ i below.
          rw (zero-add i) (change_at-fragment s c.args.swept c.args.tile p i (start + p * stride + i) _ c.requires.ready c.requires.tile p_below (omega arith) (omega (arith, part_length, below)) read))
          (rw c.stride-stride.ensures.stride at c.add_if_near.ensures.rises)))),
      omega (arith, c.loop-place.invariant.1, c.add_if_near.ensures.cost),
    )

pub returns-clause-rises : goal.returns-clause-rises
returns-clause-rises g c =
    let s = setting_of c.args.work.now in
    let past = rw c.fragments-number-items.ensures at c.loop-place-test.false in
    let done = tile_ends s c.args.tile (length c.args.sums.now) c.loop-place.place c.requires.tile c.requires.size (omega (arith, past)) in
    RisesBy-between _ _ (c.loop-place.place * stride_of s) _ _ done c.loop-place.invariant.0

pub returns-clause-cost : goal.returns-clause-cost
returns-clause-cost g c =
    let items = c.fragments-number-items.ensures in
    let all : c.loop-place.place ≤ length (fragments_of c.args.work.now.index.now c.args.tile) = rw items at c.loop-place.auto.place-end in
    omega (arith, c.loop-place.invariant.1, mul-le-mul_left (8 * c.args.work.now.samples) all)

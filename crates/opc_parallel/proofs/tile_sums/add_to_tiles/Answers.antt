use Rattle.std.proofs.Common.{◌≡◌, ℕ, ◌+◌, ◌-◌, ◌≤◌, length, arith}
use Rattle.std.proofs.lemmas.List.{length-take, length-drop}
use Rattle.opc_base.proofs.ChangeLaws.{RisesBetween-join, RisesBetween-part, RisesBy-between}
use Rattle.opc_parallel.specs.Conditions.{setting_of}
use Rattle.opc_parallel.specs.Stored.{change_at, start_at}
use Rattle.opc_parallel.proofs.StoredLaws.{AreLanes-kept, RisesBetween-past, tile_bounds, tiles_room}
use Rattle.opc_parallel.proofs.CostLaws.{step_cost}
use Rattle.opc_parallel.proofs.tile_sums.add_to_tiles.Goals as goal

pub overflow_sub-start : goal.overflow_sub-start
overflow_sub-start g c =
    let b = tile_bounds (setting_of c.args.work.now) c.args.first c.in-Some.tile c.args.last (length c.args.sums.now) (omega (arith, c.loop-tile.invariant.0, c.in-Some.ensures.0)) (omega (arith, c.in-Some.ensures.1)) c.requires.tiles c.requires.size in
    omega (arith, b.0, c.start_of_tile-base.ensures, c.start_of_tile.ensures)

pub overflow_sub-end : goal.overflow_sub-end
overflow_sub-end g c =
    let b = tile_bounds (setting_of c.args.work.now) c.args.first c.in-Some.tile c.args.last (length c.args.sums.now) (omega (arith, c.loop-tile.invariant.0, c.in-Some.ensures.0)) (omega (arith, c.in-Some.ensures.1)) c.requires.tiles c.requires.size in
    omega (arith, b.0, b.1, c.start_of_tile-base.ensures, c.start_of_tile-in-Some.ensures)

pub offset_bounds-sums-start : goal.offset_bounds-sums-start
offset_bounds-sums-start g c =
    let s = setting_of c.args.work.now in
    let b = tile_bounds s c.args.first c.in-Some.tile c.args.last (length c.args.sums.now) (omega (arith, c.loop-tile.invariant.0, c.in-Some.ensures.0)) (omega (arith, c.in-Some.ensures.1)) c.requires.tiles c.requires.size in
    let room = tiles_room s c.args.last (start_at s c.in-Some.tile) c.requires.ready c.requires.tiles (omega (arith, b.1, b.2, c.requires.size)) in
    record { fits = omega (arith, room, c.start_of_tile-base.ensures, c.start_of_tile.ensures) }

pub slice_bounds-own-end : goal.slice_bounds-own-end
slice_bounds-own-end g c =
    let b = tile_bounds (setting_of c.args.work.now) c.args.first c.in-Some.tile c.args.last (length c.args.sums.now) (omega (arith, c.loop-tile.invariant.0, c.in-Some.ensures.0)) (omega (arith, c.in-Some.ensures.1)) c.requires.tiles c.requires.size in
    let ends : c.start_of_tile-in-Some.result - c.start_of_tile-base.result ≤ length c.loop-tile.sums =
    omega (arith, b.0, b.1, b.2, c.start_of_tile-base.ensures, c.start_of_tile-in-Some.ensures, c.loop-tile.invariant.2.same_length) in
    omega (arith, ends)

pub add_to_tile-requires-clause-size : goal.add_to_tile-requires-clause-size
add_to_tile-requires-clause-size g c =
    let b = tile_bounds (setting_of c.args.work.now) c.args.first c.in-Some.tile c.args.last (length c.args.sums.now) (omega (arith, c.loop-tile.invariant.0, c.in-Some.ensures.0)) (omega (arith, c.in-Some.ensures.1)) c.requires.tiles c.requires.size in
    simp (length-take, length-drop) (omega (arith, b.0, b.1, b.2, c.start_of_tile-base.ensures, c.start_of_tile.ensures, c.start_of_tile-in-Some.ensures, c.loop-tile.invariant.2.same_length))

pub add_to_tile-requires-clause-small : goal.add_to_tile-requires-clause-small
add_to_tile-requires-clause-small g c =
    let s = setting_of c.args.work.now in
    let b = tile_bounds s c.args.first c.in-Some.tile c.args.last (length c.args.sums.now) (omega (arith, c.loop-tile.invariant.0, c.in-Some.ensures.0)) (omega (arith, c.in-Some.ensures.1)) c.requires.tiles c.requires.size in
    let rises = RisesBetween-past s c.args.swept c.args.first c.loop-tile.next c.in-Some.tile c.args.sums.now c.loop-tile.sums c.requires.ready c.loop-tile.invariant.0 c.in-Some.ensures.0
    (omega (arith, c.in-Some.ensures.1, c.requires.tiles)) c.in-Some.ensures.3 c.loop-tile.invariant.2 in
    let base = c.start_of_tile-base.result in
    let start = c.start_of_tile.result in
    let end = c.start_of_tile-in-Some.result in
    AreLanes-kept (start - base) (end - base - (start - base)) (end - start) c.args.sums.now c.loop-tile.sums c.requires.small (omega (arith, b.0, b.1, c.start_of_tile-base.ensures, c.start_of_tile.ensures, c.start_of_tile-in-Some.ensures))
    (omega (arith, b.0, b.1, b.2, c.start_of_tile-base.ensures, c.start_of_tile.ensures, c.start_of_tile-in-Some.ensures, rises.same_length)) rises.same_length
    (λ i from. rises.after i (omega (arith, from, c.start_of_tile-base.ensures, c.start_of_tile.ensures)))

pub loop-tile-preserved : goal.loop-tile-preserved
loop-tile-preserved g c =
    let s = setting_of c.args.work.now in
    let b = tile_bounds s c.args.first c.in-Some.tile c.args.last (length c.args.sums.now) (omega (arith, c.loop-tile.invariant.0, c.in-Some.ensures.0)) (omega (arith, c.in-Some.ensures.1)) c.requires.tiles c.requires.size in
    let rises = RisesBetween-past s c.args.swept c.args.first c.loop-tile.next c.in-Some.tile c.args.sums.now c.loop-tile.sums c.requires.ready c.loop-tile.invariant.0 c.in-Some.ensures.0
    (omega (arith, c.in-Some.ensures.1, c.requires.tiles)) c.in-Some.ensures.3 c.loop-tile.invariant.2 in
    let base : ℕ = start_at s c.args.first in
    let start : ℕ = start_at s c.in-Some.tile in
    let end : ℕ = start_at s (c.in-Some.tile + 1) in
    let upper : end - base ≡ start - base + (end - start) = omega (arith, b.0, b.1) in
    let place : base + (start - base) ≡ start = omega (arith, b.0) in (
      omega (arith, c.loop-tile.invariant.0, c.in-Some.ensures.0),
      omega (arith, c.in-Some.ensures.1),
      rw (c.start_of_tile-base.ensures, c.start_of_tile.ensures, c.start_of_tile-in-Some.ensures)
          (rw upper (RisesBetween-join _ base 0 (start - base) (start - base + (end - start)) _ _ _ (omega arith) (omega arith) rises
          (RisesBetween-part _ base (start - base) _ (end - start) _ _ (omega (arith, b.0, b.1)) (omega (arith, b.0, b.1, b.2, rises.same_length))
          (rw place (rw upper at (rw (c.start_of_tile-base.ensures, c.start_of_tile.ensures, c.start_of_tile-in-Some.ensures) at c.add_to_tile.ensures.rises)))))),
      step_cost c.args.work.now.samples c.args.work.now.index.now c.args.swept.rect c.loop-tile.next c.args.last c.in-Some.tile c.loop-tile.steps c.add_to_tile.new.steps _ c.first_met.result
          c.first_met.ensures c.in-Some.is c.loop-tile.invariant.3 c.add_to_tile.ensures.cost,
    )

pub returns-clause-rises : goal.returns-clause-rises
returns-clause-rises g c =
    let s = setting_of c.args.work.now in
    let base : ℕ = start_at s c.args.first in
    RisesBy-between (change_at s c.args.swept) base (start_at s c.args.last - base) c.args.sums.now c.loop-tile.sums (omega (arith, c.requires.size))
    (RisesBetween-past s c.args.swept c.args.first c.loop-tile.next c.args.last c.args.sums.now c.loop-tile.sums c.requires.ready c.loop-tile.invariant.0 c.loop-tile.invariant.1 c.requires.tiles
    c.in_default.ensures c.loop-tile.invariant.2)

use Rattle.std.proofs.Common.{◌+◌, pos, sym, arith}
use Rattle.opc_base.proofs.ChangeLaws.{RisesBy-none, RisesBy-add, RisesBy-same}
use Rattle.opc_base.proofs.SumLaws.{sum_each_start, sum_each-more}
use Rattle.opc_base.specs.declared.moves.Swept.{Swept}
use Rattle.opc_parallel.specs.Conditions.{setting_of}
use Rattle.opc_parallel.specs.Stored.{change_at, start_at}
use Rattle.opc_parallel.proofs.StoredLaws.{small_after}
use Rattle.opc_parallel.proofs.tile_sums.apply_tiles.Goals as goal

pub loop-one-init : goal.loop-one-init
loop-one-init g c = RisesBy-none _ _ _ (λ n. sym (sum_each_start _))

pub add_to_tiles-requires-clause-small : goal.add_to_tiles-requires-clause-small
add_to_tiles-requires-clause-small g c =
    small_after (setting_of c.args.work.now) c.args.swept.now (start_at (setting_of c.args.work.now) c.args.first) c.loop-one.one-index c.args.sums.now c.loop-one.sums
    c.requires.fits (omega (arith, c.loop-one-test.true)) c.loop-one.invariant

pub loop-one-preserved : goal.loop-one-preserved
loop-one-preserved g c =
    let s = setting_of c.args.work.now in
    let none : Swept = record { rect = record { x0 = pos 0; y0 = pos 0; x1 = pos 0; y1 = pos 0 }; sign = pos 0 } in
    RisesBy-same _ _ _ _ _
    (λ i below. sym (sum_each-more (λ swept. change_at s swept (start_at s c.args.first + i)) c.args.swept.now c.loop-one.one-index none c.loop-one-test.true))
    (RisesBy-add _ _ _ _ _ _ c.loop-one.invariant c.add_to_tiles.ensures.rises)

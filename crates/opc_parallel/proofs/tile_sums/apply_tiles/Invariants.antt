use Rattle.std.proofs.Common.{take}
use Rattle.opc_base.specs.Changes.{RisesBy}
use Rattle.opc_parallel.specs.Conditions.{setting_of}
use Rattle.opc_parallel.specs.Stored.{list_change, start_at}
use Rattle.opc_parallel.proofs.tile_sums.apply_tiles.Given as goal

abbrev pub invariant-loop-one : goal.invariant-loop-one
invariant-loop-one g l =
    let s = setting_of l.work in
    RisesBy (list_change s (take l.one-index l.swept)) (start_at s l.first) l.fn.sums l.sums

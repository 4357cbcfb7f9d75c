use Rattle.std.proofs.Common.{◌+◌, ◌*◌, ◌≤◌}
use Rattle.opc_base.specs.Changes.{RisesBetween}
use Rattle.opc_parallel.specs.Conditions.{setting_of}
use Rattle.opc_parallel.specs.Stored.{change_at, start_at, stride_of}
use Rattle.opc_parallel.proofs.tile_sums.add_to_tile.Given as goal

abbrev pub invariant-loop-place : goal.invariant-loop-place
invariant-loop-place g l =
    let s = setting_of l.work in
    (RisesBetween (change_at s l.swept) (start_at s l.tile) 0 (l.place * stride_of s) l.fn.sums l.sums)
    × (l.steps ≤ l.fn.steps + 8 * l.work.samples * l.place)

use Rattle.std.proofs.Common.{◌+◌, ◌-◌, ◌≤◌}
use Rattle.opc_base.specs.Changes.{RisesBetween}
use Rattle.tiles.specs.Meets.{touched_between}
use Rattle.opc_parallel.specs.Conditions.{setting_of}
use Rattle.opc_parallel.specs.Stored.{change_at, most_steps, start_at}
use Rattle.opc_parallel.proofs.tile_sums.add_to_tiles.Given as goal

abbrev pub invariant-loop-tile : goal.invariant-loop-tile
invariant-loop-tile g l =
    let s = setting_of l.work in
    (l.first ≤ l.next) × (l.next ≤ l.last)
    × (RisesBetween (change_at s l.swept) (start_at s l.first) 0 (start_at s l.next - start_at s l.first) l.fn.sums l.sums)
    × (l.steps + most_steps l.work.samples l.work.index.now (touched_between l.work.index.now l.swept.rect l.next l.last) ≤ l.fn.steps + most_steps l.work.samples l.work.index.now (touched_between l.work.index.now l.swept.rect l.first l.last))

abbrev pub decreases-loop-tile : goal.decreases-loop-tile
decreases-loop-tile g l = l.last - l.next

use Rattle.std.proofs.Common.{◌+◌, ◌*◌, ◌≤◌, length, SFits, w32, to_z-of_z, arith}
use Rattle.opc_base.specs.Lanes.{block_of_lane}
use Rattle.opc_base.proofs.LaneLaws.{block_of_lane-bound}
use Rattle.prefix_tables.proofs.TableLaws.{LanesAre-small, block_end, block_lanes, start_of}
use Rattle.prefix_tables.proofs.tables.Tables.block.Goals as goal

pub slice_bounds-result-end : goal.slice_bounds-result-end
slice_bounds-result-end g c =
    let end : start_of c.from.result c.self.inside.lanes c.clamped-row.result c.clamped-column.result + c.self.inside.lanes ≤ length c.deref.result.now =
    rw (c.from.ensures, c.deref.ensures.value) (block_end c.self.inside.set.value c.self.inside.reach c.self.inside.lanes c.self.inside.sums.items _
    c.clamped-row.result c.clamped-column.result c.self.invariant c.clamped-row.ensures.range c.clamped-column.ensures.range) in
    omega arith

pub returns-clause-lanes : goal.returns-clause-lanes
returns-clause-lanes g c =
    let dx_fits : SFits w32 c.args.dx = c.ranges.dx in
    let dy_fits : SFits w32 c.args.dy = c.ranges.dy in
    rw (c.from.ensures, c.deref.ensures.value, ← c.self.view_is)
    (block_lanes c.self.inside.set.value c.self.inside.reach c.self.inside.lanes c.self.inside.sums.items _ c.clamped-row.result c.clamped-column.result
    c.args.dx c.args.dy c.self.invariant c.clamped-row.ensures.range c.clamped-column.ensures.range
    (simp to_z-of_z at c.clamped-column.ensures.value) (simp to_z-of_z at c.clamped-row.ensures.value))

pub returns-clause-small : goal.returns-clause-small
returns-clause-small g c =
    let dx_fits : SFits w32 c.args.dx = c.ranges.dx in
    let dy_fits : SFits w32 c.args.dy = c.ranges.dy in
    let set = c.self.inside.set.value in
    rw (c.from.ensures, c.deref.ensures.value)
    (LanesAre-small set (λ lane. block_of_lane set lane c.args.dx c.args.dy) 134217728 _
    (block_lanes set c.self.inside.reach c.self.inside.lanes c.self.inside.sums.items _ c.clamped-row.result c.clamped-column.result
    c.args.dx c.args.dy c.self.invariant c.clamped-row.ensures.range c.clamped-column.ensures.range
    (simp to_z-of_z at c.clamped-column.ensures.value) (simp to_z-of_z at c.clamped-row.ensures.value))
    (λ lane. block_of_lane-bound set lane c.args.dx c.args.dy c.self.invariant.bounds))

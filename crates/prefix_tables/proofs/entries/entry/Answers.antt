use Rattle.std.proofs.Common.{◌/◌, ◌<◌, length, arith}
use Rattle.prefix_tables.proofs.TableLaws.{entry_of_lane_at}
use Rattle.prefix_tables.proofs.entries.entry.Goals as goal

pub bounds-as_slice-row : goal.bounds-as_slice-row
bounds-as_slice-row c =
    let set = c.args.kernels.now in
    let within : c.args.lane / 2 < length set.kernels = omega arith in
    rw (c.as_slice-2.ensures.list, c.from.ensures)
    (entry_of_lane_at set c.args.lane c.args.column c.args.row c.index-as_slice-lane.result c.requires.bounds c.requires.column c.requires.row within
    (rw c.as_slice.ensures.list at c.index-as_slice-lane.is)).0

pub returns : goal.returns
returns c =
    let set = c.args.kernels.now in
    let within : c.args.lane / 2 < length set.kernels = omega arith in
    rw (c.as_slice-2.ensures.list, c.from.ensures)
    (entry_of_lane_at set c.args.lane c.args.column c.args.row c.index-as_slice-lane.result c.requires.bounds c.requires.column c.requires.row within
    (rw c.as_slice.ensures.list at c.index-as_slice-lane.is)).1

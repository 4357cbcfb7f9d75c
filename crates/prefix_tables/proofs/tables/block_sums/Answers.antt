use Rattle.std.proofs.Common.{◌≡◌, length, ◌∙◌, SFits, w64, to_z-of_z, rules, arith}
use Rattle.prefix_tables.specs.Places.{table_place}
use Rattle.prefix_tables.proofs.TableLaws.{HoldsFirst-push}
use Rattle.prefix_tables.proofs.tables.block_sums.Goals as goal

pub loop-lane-preserved : goal.loop-lane-preserved
loop-lane-preserved c =
    let size : length c.loop-lane.sums.items ≡ table_place c.args.kernels.now c.loop-row.row c.loop-column.column c.loop-lane.lane = omega arith in
    let fits : SFits w64 c.next_block-block.result = search rules in
    record {
      size = omega (arith, c.in_ok-push.ensures.len);
      holds = HoldsFirst-push c.args.kernels.now _ _ c.loop-row.row c.loop-column.column c.loop-lane.lane _ (omega arith) (omega arith) size
          c.loop-lane.invariant.holds c.in_ok-push.ensures.items (to_z-of_z fits ∙ c.next_block-block.ensures);
    }

use Rattle.std.proofs.Common.{map}
use Rattle.std.specs.List.{range_with_len}
use Rattle.gds_model.specs.PlacedList.{copy_map}
use Rattle.gds_expand.specs.Copies.{AddsCopies}
use Rattle.gds_expand.proofs.copies.push_row.Given as goal

abbrev pub invariant-loop-column : goal.invariant-loop-column
invariant-loop-column l = AddsCopies (map (λ column. copy_map l.reference l.row column) (range_with_len 0 l.column)) l.base l.fn.steps.items l.steps.items

use Rattle.std.proofs.Common.{map, unsigned_abs}
use Rattle.std.specs.List.{flat_map, range_with_len}
use Rattle.gds_model.specs.PlacedList.{columns_of, copy_map}
use Rattle.gds_expand.specs.Copies.{AddsCopies}
use Rattle.gds_expand.proofs.copies.push_copies.Given as goal

abbrev pub invariant-loop-row : goal.invariant-loop-row
invariant-loop-row l =
    AddsCopies
    (flat_map (λ row. map (λ column. copy_map l.reference row column) (range_with_len 0 (unsigned_abs (columns_of l.reference.array)))) (range_with_len 0 l.row))
    l.base l.fn.steps.items l.steps.items

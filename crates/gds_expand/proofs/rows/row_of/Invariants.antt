use Rattle.std.proofs.Common.{take}
use Rattle.gds_model.specs.PlacedList.{is_on}
use Rattle.gds_expand.specs.Rows.{IsRow}
use Rattle.gds_expand.proofs.rows.row_of.Given as goal

abbrev pub invariant-loop-element : goal.invariant-loop-element
invariant-loop-element l =
    IsRow l.library.structures (is_on l.pick.layer l.pick.datatype) l.plan (take l.element-index l.elements) l.row.items

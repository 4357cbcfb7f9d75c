use Rattle.std.proofs.Common.{◌≡◌, take, map}
use Rattle.gds_model.specs.PlacedList.{is_on}
use Rattle.gds_expand.specs.Parts.{parts_in}
use Rattle.gds_expand.proofs.parts.part_plan.Given as goal

abbrev pub invariant-loop-i : goal.invariant-loop-i
invariant-loop-i l =
    map (λ row. row.items) l.plan.items
    ≡ map (λ s. parts_in l.library.structures (is_on l.pick.layer l.pick.datatype) s.elements) (take l.i l.library.structures)

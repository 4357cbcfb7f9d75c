use Rattle.std.proofs.Common.{◌≡◌, take}
use Rattle.gds_model.specs.PlacedList.{is_on}
use Rattle.gds_expand.specs.Parts.{parts_in}
use Rattle.gds_expand.proofs.parts.parts_in.Given as goal

abbrev pub invariant-loop-element : goal.invariant-loop-element
invariant-loop-element l =
    l.parts.items ≡ parts_in l.library.structures (is_on l.pick.layer l.pick.datatype) (take l.element-index l.elements)

use Rattle.std.proofs.Common.{◌≡◌, drop}
use Rattle.std.specs.Prelude.{fold}
use Rattle.gds_expand.specs.Wrong.{lower_by}
use Rattle.gds_expand.proofs.wrong.lowest_in.Given as goal

abbrev pub invariant-loop-element : goal.invariant-loop-element
invariant-loop-element l =
    fold (lower_by l.library.structures) l.lowest (drop l.element-index l.elements) ≡ fold (lower_by l.library.structures) l.fn.best l.elements

use Rattle.std.specs.Prelude.{All}
use Rattle.opc_base.specs.Cover.{IsPlaced}
use Rattle.rect_union.proofs.tests.stairs.Given as goal

abbrev pub invariant-loop-index : goal.invariant-loop-index
invariant-loop-index g l = All IsPlaced l.outlines.items

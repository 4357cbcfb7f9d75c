use Rattle.opc_base.specs.Plane.{cover}
use Rattle.rect_union.specs.Strips.{AreStrips}
use Rattle.rect_union.proofs.strips.striped_within.Given as goal

abbrev pub invariant-loop-border : goal.invariant-loop-border
invariant-loop-border l = AreStrips (cover l.fn.rects) l.strips

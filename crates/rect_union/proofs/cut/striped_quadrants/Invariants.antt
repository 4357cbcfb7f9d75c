use Rattle.rect_union.specs.Quadrants.{is_wound}
use Rattle.rect_union.specs.Strips.{AreStrips}
use Rattle.rect_union.proofs.cut.striped_quadrants.Given as goal

abbrev pub invariant-loop-border : goal.invariant-loop-border
invariant-loop-border l = AreStrips (is_wound l.owners l.quadrants) l.strips

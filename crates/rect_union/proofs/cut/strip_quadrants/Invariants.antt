use Rattle.rect_union.specs.Cuts.{IsCutTo}
use Rattle.rect_union.proofs.cut.strip_quadrants.Given as goal

abbrev pub invariant-loop-quadrant : goal.invariant-loop-quadrant
invariant-loop-quadrant l = IsCutTo l.quadrants l.left l.right l.quadrant-index l.seen.items

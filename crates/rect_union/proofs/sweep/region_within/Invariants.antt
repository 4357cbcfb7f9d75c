use Rattle.rect_union.specs.Sweeps.{IsSweeping}
use Rattle.rect_union.proofs.sweep.region_within.Given as goal

abbrev pub invariant-loop-quadrant : goal.invariant-loop-quadrant
invariant-loop-quadrant l = IsSweeping l.quadrants l.fn.owners l.state l.row.items l.bottom l.quadrant-index

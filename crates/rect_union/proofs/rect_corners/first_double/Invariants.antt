use Rattle.std.proofs.Common.{ℕ, ◌<◌, get_or}
use Rattle.rect_union.specs.declared.quadrants.Quadrant.{Quadrant}
use Rattle.rect_union.specs.Touches.{IsDouble}
use Rattle.rect_union.proofs.rect_corners.first_double.Given as goal

abbrev pub invariant-loop-quadrant : goal.invariant-loop-quadrant
invariant-loop-quadrant l = (j : ℕ) (d : Quadrant) → j < l.quadrant-index → ¬ IsDouble (get_or l.merged j d).column.sign

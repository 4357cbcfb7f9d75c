use Rattle.rect_union.specs.Merging.{IsMergingTo}
use Rattle.rect_union.proofs.rect_corners.merge_points.Given as goal

abbrev pub invariant-loop-index : goal.invariant-loop-index
invariant-loop-index l = IsMergingTo l.quadrants l.index l.sign l.merged.items

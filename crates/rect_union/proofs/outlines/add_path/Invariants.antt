use Rattle.std.proofs.Common.{take}
use Rattle.rect_union.specs.Outlines.{AddsPath}
use Rattle.rect_union.proofs.outlines.add_path.Given as goal

abbrev pub invariant-loop-rect : goal.invariant-loop-rect
invariant-loop-rect l = AddsPath l.initial.quadrants.items l.quadrants.items l.fn.owner (take l.rect-index l.rects)

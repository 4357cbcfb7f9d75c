use Rattle.std.proofs.Common.{◌≤◌, take}
use Rattle.rect_union.specs.Outlines.{AddsPolygon}
use Rattle.rect_union.proofs.outlines.add_polygon.Given as goal

abbrev pub invariant-loop-index : goal.invariant-loop-index
invariant-loop-index l = record {
  started : 1 ≤ l.index;
  adds : AddsPolygon l.initial.quadrants.items l.quadrants.items l.fn.owner (take l.index l.points);
}

use Rattle.std.proofs.Common.{◌≡◌, take, map}
use Rattle.gds_model.specs.Outlines.{pixels_in}
use Rattle.gds_expand.proofs.shapes.pixel_rects.Given as goal

abbrev pub invariant-loop-rect : goal.invariant-loop-rect
invariant-loop-rect l = l.pixels.items ≡ map (pixels_in l.side.length) (take l.rect-index l.rects)

use Rattle.std.proofs.Common.{◌≡◌, ◌++◌, ◌^◌, ◌≤◌, drop, filter, unsigned_abs}
use Rattle.gds_model.specs.PathRects.{has_area, rects_from, rects_through}
use Rattle.gds_model.specs.Placement.{IsPositionWithin}
use Rattle.gds_expand.proofs.path.rects_through.Given as goal

abbrev pub invariant-loop-i : goal.invariant-loop-i
invariant-loop-i l = record {
  made : l.rects.items ++ filter has_area (rects_from l.form l.before l.from (drop l.i l.rest)) ≡ rects_through l.form l.corners;
  small : unsigned_abs l.before ≤ 2 ^ 32;
  near : IsPositionWithin (2 ^ 51) l.from;
}

use Rattle.std.proofs.Common.{◌≡◌, ℕ, ◌<◌, ◌≤◌, length, get_or, map, take, unsigned_abs}
use Rattle.opc_base.specs.declared.plane.Corner.{Corner}
use Rattle.rect_union.specs.Corners.{corner_quadrant}
use Rattle.rect_union.proofs.corners.corner_quadrants.Given as goal

abbrev pub invariant-loop-corner : goal.invariant-loop-corner
invariant-loop-corner l = record {
  quadrants : l.quadrants.items ≡ map corner_quadrant (take l.corner-index l.corners);
  small : (k : ℕ) (d : Corner) → k < l.corner-index → k < length l.corners → unsigned_abs (get_or l.corners k d).sign ≤ 128;
}

use Rattle.std.proofs.Common.{ℕ, ◌+◌, ◌<◌, ◌≤◌, length, get_or}
use Rattle.opc_base.specs.declared.plane.Pix.{Pix}
use Rattle.opc_base.specs.Cover.{IsStraight}
use Rattle.geometry_rows.proofs.shapes.are_straight.Given as goal

abbrev pub invariant-loop-index : goal.invariant-loop-index
invariant-loop-index l = record {
  started : 1 ≤ l.index;
  straight : (k : ℕ) (d : Pix) → k + 1 < l.index → k + 1 < length l.points → IsStraight (get_or l.points k d) (get_or l.points (k + 1) d);
}

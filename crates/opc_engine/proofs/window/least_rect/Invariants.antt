use Rattle.std.proofs.Common.{ℕ, ◌<◌, get_or}
use Rattle.std.specs.Prelude.{All}
use Rattle.opc_base.specs.Plane.{IsRectWithin}
use Rattle.opc_base.specs.declared.plane.Rect.{Rect}
use Rattle.print_check.specs.Near.{Encloses}
use Rattle.opc_engine.proofs.window.least_rect.Given as goal

abbrev pub invariant-loop-rect : goal.invariant-loop-rect
invariant-loop-rect l = record {
  each : (k : ℕ) (d : Rect) → k < l.rect-index → Encloses l.least (get_or l.rects k d);
  least : (other : Rect) → All (Encloses other) l.rects → Encloses other l.least;
  within : IsRectWithin 1048000 l.least;
}

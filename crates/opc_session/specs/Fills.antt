-- Sums that are filled rectangle by rectangle.
use Rattle.std.specs.Prelude.{pos}
use Rattle.opc_base.specs.declared.moves.Swept.{Swept}
use Rattle.opc_base.specs.declared.plane.Rect.{Rect}

-- what a rectangle adds to a mask that has none of its pixels
abbrev pub gain : Rect → Swept
gain r = record { rect = r; sign = pos 1 }

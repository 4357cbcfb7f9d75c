-- A tower of rows of ten and eleven pixels in turn.
use Rattle.std.specs.Prelude.{ℕ, ◌+◌, ◌%◌, pos}
use Rattle.opc_base.specs.declared.plane.Rect.{Rect}

abbrev pub tower_row : ℕ → Rect
tower_row k = record { x0 = pos 0; y0 = pos k; x1 = pos (10 + k % 2); y1 = pos (k + 1) }

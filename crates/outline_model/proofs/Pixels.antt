-- The pixels of a rectangle.
use Rattle.std.proofs.Common.{◌≡◌, ℤ, Bool, true, false, ◌&&◌, int_le, int_lt, refl}
use Rattle.opc_base.specs.declared.plane.Rect.{Rect}
use Rattle.opc_base.specs.Plane.{rect_cover}

regroup : (a b c d : Bool) → (((a && b) && c) && d) ≡ ((a && b) && (c && d))
regroup true true true d = refl
regroup true true false d = refl
regroup true false c d = refl
regroup false b c d = refl

-- a pixel of a rectangle is in its columns and in its rows
pub rect_cover-pairs : (r : Rect) (x y : ℤ) → rect_cover r x y ≡ ((int_le r.x0 x && int_lt x r.x1) && (int_le r.y0 y && int_lt y r.y1))
rect_cover-pairs r x y = regroup (int_le r.x0 x) (int_lt x r.x1) (int_le r.y0 y) (int_lt y r.y1)

-- Walks round a rectangle.
use Rattle.std.specs.Prelude.{◌≡◌, ◌≢◌, ℤ, pos, not, List}
use Rattle.std.specs.Ordering.{int_eq}
use Rattle.opc_base.specs.declared.plane.Pix.{Pix}
use Rattle.opc_base.specs.declared.plane.Rect.{Rect}
use Rattle.opc_base.specs.Cover.{crossings}
use Rattle.opc_base.specs.Plane.{rect_cover}

-- the points differ in both coordinates
abbrev pub AreOpposite : Pix → Pix → Type 0
AreOpposite p q = (p.x ≢ q.x) × (p.y ≢ q.y)

-- the rectangle has the pixels round which the walk winds
abbrev pub CoversWalk : List Pix → Rect → Type 0
CoversWalk points r = (x y : ℤ) → rect_cover r x y ≡ not (int_eq (crossings points x y) (pos 0))

use Rattle.std.proofs.Common.{◌≡◌, ◌||◌, ℤ, take}
use Rattle.opc_base.specs.Cover.{AreRectangles}
use Rattle.opc_base.specs.Plane.{cover}
use Rattle.rect_union.proofs.spread.add_each.Given as goal

abbrev pub invariant-loop-rect : goal.invariant-loop-rect
invariant-loop-rect l = record {
  placed : AreRectangles l.rects.items;
  pixels : (x y : ℤ) → cover l.rects.items x y ≡ (cover l.fn.rects.items x y || cover (take l.rect-index l.more) x y);
}

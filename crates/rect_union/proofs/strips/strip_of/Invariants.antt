use Rattle.std.proofs.Common.{◌≡◌, ℤ, int_le, int_lt, ◌&&◌, ◌||◌, take}
use Rattle.rect_union.specs.Strips.{AreInPlane}
use Rattle.opc_base.specs.Plane.{cover}
use Rattle.rect_union.proofs.strips.strip_of.Given as goal

abbrev pub invariant-loop-rect : goal.invariant-loop-rect
invariant-loop-rect l = record {
  placed : AreInPlane l.seen.items;
  pixels : (x y : ℤ) → cover l.seen.items x y ≡ (cover l.reaching x y || (int_le l.left x && int_lt x l.right && cover (take l.rect-index l.rects) x y));
}

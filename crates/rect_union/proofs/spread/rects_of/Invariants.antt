use Rattle.std.proofs.Common.{◌≡◌, ℤ, take}
use Rattle.opc_base.specs.Cover.{AreRectangles}
use Rattle.opc_base.specs.Plane.{cover}
use Rattle.opc_base.specs.Target.{target}
use Rattle.rect_union.proofs.spread.rects_of.Given as goal

abbrev pub invariant-loop-outline : goal.invariant-loop-outline
invariant-loop-outline l = record {
  placed : AreRectangles l.rects.items;
  pixels : (x y : ℤ) → cover l.rects.items x y ≡ target (take l.outline-index l.outlines) x y;
}

use Rattle.std.proofs.Common.{◌≡◌, ℤ, ◌||◌, take}
use Rattle.opc_base.specs.Plane.{cover}
use Rattle.rect_union.specs.Stacks.{IsAddingSlab, slab_cover}
use Rattle.rect_union.proofs.stack.add_slab.Given as goal

abbrev pub invariant-loop-run : goal.invariant-loop-run
invariant-loop-run l = record {
  adding : IsAddingSlab l.fn.bottom l.fn.top l.runs l.growing l.rects.items l.grown.items l.next l.run-index;
  pixels : (x y : ℤ) → cover l.rects.items x y ≡ (cover l.initial.rects.items x y || slab_cover l.fn.bottom l.fn.top (take l.run-index l.runs) x y);
}

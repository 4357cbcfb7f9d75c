use Rattle.opc_base.specs.Plane.{cover}
use Rattle.rect_union.proofs.TouchLaws.{corners_near, touch_found}
use Rattle.rect_union.proofs.rect_corners.first_touch.Goals as goal

pub first_double-requires : goal.first_double-requires
first_double-requires c = record { near = rw c.deref.ensures.value (corners_near c.args.rects.now c.in_ok-merged.merged.items c.requires.within c.in_ok-merged.ensures.corners) }

pub returns : goal.returns
returns c =
    record {
      touch = touch_found (cover c.args.rects.now) c.in_ok-merged.merged.items c.first_double.result c.in_ok-merged.ensures.corners
          (rw c.deref.ensures.value at c.first_double.ensures.found) (rw c.deref.ensures.value at c.first_double.ensures.none);
    }

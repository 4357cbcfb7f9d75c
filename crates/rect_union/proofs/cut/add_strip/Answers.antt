use Rattle.std.proofs.Common.{◌≡◌, ◌<ℤ◌, SFits, w32, subst, to_z-of_z, rules}
use Rattle.opc_base.specs.Plane.{cover}
use Rattle.rect_union.specs.Quadrants.{is_wound}
use Rattle.rect_union.proofs.CutLaws.{strip_between, strip_inside}
use Rattle.rect_union.proofs.StripLaws.{widened_strips}
use Rattle.rect_union.proofs.WithinLaws.{rects_in_limit}
use Rattle.rect_union.proofs.cut.add_strip.Goals as goal

pub widen-requires : goal.widen-requires
widen-requires c =
    let border_fits : SFits w32 c.args.border = c.ranges.border in
    let left_fits : SFits w32 c.args.strips.now.border = search rules in
    let pixels = simp to_z-of_z at c.in_ok-strip.ensures.pixels in
    rw c.deref.ensures.value
    (record {
      placed = record {
        solid = c.in_ok-strip.ensures.canonical.solid;
        within = rects_in_limit 1048576 c.in_ok-strip.strip.items c.in_ok-strip.ensures.canonical.solid
            (strip_inside 1048576 c.args.owners c.args.quadrants.now c.in_ok-strip.strip.items c.args.strips.now.border c.args.border c.requires.near pixels);
      };
      parted = c.requires.so_far.parted;
    })

pub returns-clause-so_far : goal.returns-clause-so_far
returns-clause-so_far c =
    let border_fits : SFits w32 c.args.border = c.ranges.border in
    let left_fits : SFits w32 c.args.strips.now.border = search rules in
    let wide : c.args.strips.now.border <ℤ c.args.border = search rules in
    let pixels = simp to_z-of_z at c.in_ok-strip.ensures.pixels in
    let reaches = simp to_z-of_z at c.in_ok-widen.ensures.ends in
    let ends : c.widen.new.self.border ≡ c.args.border = reaches wide in
    widened_strips (is_wound c.args.owners c.args.quadrants.now) c.in_ok-strip.strip.items c.args.strips.now c.widen.new.self c.requires.so_far
    (rw c.deref.ensures.value at c.in_ok-widen.ensures.widened)
    (λ x y from to. strip_between c.args.strips.now.border c.args.border x (cover c.in_ok-strip.strip.items x y) (is_wound c.args.owners c.args.quadrants.now x y)
    from (subst (λ z. x <ℤ z) ends to) (pixels x y))

use Rattle.std.proofs.Common.{◌≡◌, ◌||◌, ◌<◌, ◌≤◌, ◌<ℤ◌, ◌≤ℤ◌, length, get_or, pos, refl, SFits, w32, to_z-of_z, arith, rules}
use Rattle.std.proofs.lemmas.Int.{ints}
use Rattle.std.proofs.lemmas.List.{get_or_default}
use Rattle.opc_base.specs.declared.plane.Rect.{Rect}
use Rattle.opc_base.specs.Plane.{cover}
use Rattle.rect_union.proofs.StripLaws.{is_left, is_not_left, nothing_wider, sharing_done, sharing_ends, sharing_open, sharing_starts, swept_strip}
use Rattle.rect_union.proofs.strips.Strips.widen.Goals as goal
use Rattle.rect_union.proofs.strips.Strips.widen.Goals.{then-rect-border+in_ok-push, else-rect-border+in_ok-push-2}

pub loop-rect-init : goal.loop-rect-init
loop-rect-init c =
    let border_fits : SFits w32 c.args.border = c.ranges.border in
    let old_fits : SFits w32 c.args.self.now.border = search rules in
    let further : c.args.self.now.border <ℤ c.args.border = search rules in
    let seen = simp to_z-of_z at (rw c.deref.ensures.value at c.in_ok-seen.ensures.pixels) in
    let strip = swept_strip c.args.rects.now c.args.self.now.reaching.items c.in_ok-seen.seen.items c.in_ok-swept.swept.items c.args.self.now.border c.args.border
    further c.requires.parted.reach c.in_ok-swept.ensures.canonical seen c.in_ok-swept.ensures.pixels in
    simp to_z-of_z
    (record {
      border = refl;
      sharing = rw (c.new.ensures.items, c.deref-rect-items.ensures.value)
          (sharing_starts c.args.rects.now c.args.self.now.done.items c.args.self.now.reaching.items c.in_ok-swept.swept.items c.args.self.now.border c.args.border
          c.requires.parted strip);
    })

pub loop-rect-preserved : goal.loop-rect-preserved
loop-rect-preserved c =
    let border_fits : SFits w32 c.args.border = c.ranges.border in
    let old_fits : SFits w32 c.args.self.now.border = search rules in
    let further : c.args.self.now.border <ℤ c.args.border = search rules in
    let seen = simp to_z-of_z at (rw c.deref.ensures.value at c.in_ok-seen.ensures.pixels) in
    let strip = swept_strip c.args.rects.now c.args.self.now.reaching.items c.in_ok-seen.seen.items c.in_ok-swept.swept.items c.args.self.now.border c.args.border
    further c.requires.parted.reach c.in_ok-swept.ensures.canonical seen c.in_ok-swept.ensures.pixels in
    let at : c.loop-rect.rect-index < length c.in_ok-swept.swept.items = rw c.deref-rect-items.ensures.value at c.loop-rect-test.true in
    let r : Rect = get_or c.in_ok-swept.swept.items c.loop-rect.rect-index (record { x0 = pos 0; y0 = pos 0; x1 = pos 0; y1 = pos 0 }) in
    let end_fits : SFits w32 r.x1 = search rules in
    let is : (d : Rect) → get_or c.in_ok-swept.swept.items c.loop-rect.rect-index d ≡ r = λ d. get_or_default c.in_ok-swept.swept.items c.loop-rect.rect-index d _ at in
    let so_far = rw c.deref-rect-items.ensures.value at (simp to_z-of_z at c.loop-rect.invariant.sharing) in
    elim c.if-rect-border.branch [
      | then-rect-border+in_ok-push w ↦
          let there : c.loop-rect.self.border ≡ c.args.border = simp to_z-of_z at c.loop-rect.invariant.border in
          let left : r.x1 <ℤ c.args.border = is_left r.x1 c.args.border (simp to_z-of_z at (rw c.deref-rect-items.ensures.value at w.if-rect-border.true)) in
          rw (w.self-is, w.in_ok-push.ensures.items, c.deref-rect-items.ensures.value)
          (simp to_z-of_z
          (record {
            border = there;
            sharing = sharing_done c.args.self.now.done.items c.in_ok-swept.swept.items c.args.border c.loop-rect.rect-index c.loop-rect.self.done.items
                c.loop-rect.self.reaching.items r strip.canonical at is left so_far;
          }))
      | else-rect-border+in_ok-push-2 w ↦
          let there : c.loop-rect.self.border ≡ c.args.border = simp to_z-of_z at c.loop-rect.invariant.border in
          let right : c.args.border ≤ℤ r.x1 = is_not_left r.x1 c.args.border (simp to_z-of_z at (rw c.deref-rect-items.ensures.value at w.if-rect-border.false)) in
          rw (w.self-is, w.in_ok-push-2.ensures.items, c.deref-rect-items.ensures.value)
          (simp to_z-of_z
          (record {
            border = there;
            sharing = sharing_open c.args.rects.now c.args.self.now.reaching.items c.args.self.now.done.items c.in_ok-swept.swept.items c.args.self.now.border c.args.border
                c.loop-rect.rect-index c.loop-rect.self.done.items c.loop-rect.self.reaching.items r strip c.in_ok-swept.ensures.placed at is right so_far;
          }))
    ]

pub returns-clause-widened : goal.returns-clause-widened
returns-clause-widened c =
    let border_fits : SFits w32 c.args.border = c.ranges.border in
    let old_fits : SFits w32 c.args.self.now.border = search rules in
    let further : c.args.self.now.border <ℤ c.args.border = search rules in
    let seen = simp to_z-of_z at (rw c.deref.ensures.value at c.in_ok-seen.ensures.pixels) in
    let strip = swept_strip c.args.rects.now c.args.self.now.reaching.items c.in_ok-seen.seen.items c.in_ok-swept.swept.items c.args.self.now.border c.args.border
    further c.requires.parted.reach c.in_ok-swept.ensures.canonical seen c.in_ok-swept.ensures.pixels in
    let so_far = rw c.deref-rect-items.ensures.value at (simp to_z-of_z at c.loop-rect.invariant.sharing) in
    let all : length c.in_ok-swept.swept.items ≤ c.loop-rect.rect-index = rw c.deref-rect-items.ensures.value at c.loop-rect-test.false in
    let there : c.loop-rect.self.border ≡ c.args.border = simp to_z-of_z at c.loop-rect.invariant.border in
    record {
      parted = rw there so_far.parted;
      further = rw there (omega (arith, ints));
      pixels = λ x y. rw there
          (sharing_ends c.args.rects.now c.args.self.now.done.items c.args.self.now.reaching.items c.in_ok-swept.swept.items c.args.self.now.border c.args.border
          c.loop-rect.rect-index c.loop-rect.self.done.items c.loop-rect.self.reaching.items strip all so_far x y);
    }

pub returns-clause-reached : goal.returns-clause-reached
returns-clause-reached c =
    let border_fits : SFits w32 c.args.border = c.ranges.border in
    let there : c.loop-rect.self.border ≡ c.args.border = simp to_z-of_z at c.loop-rect.invariant.border in
    omega (arith, ints)

pub returns-clause-ends : goal.returns-clause-ends
returns-clause-ends c _ =
    let border_fits : SFits w32 c.args.border = c.ranges.border in
    simp to_z-of_z at c.loop-rect.invariant.border

pub returns-then-border-self-clause-widened : goal.returns-then-border-self-clause-widened
returns-then-border-self-clause-widened c = record {
  parted = c.requires.parted;
  further = omega (arith, ints);
  pixels = λ x y. nothing_wider c.args.self.now.border x (cover c.args.self.now.done.items x y || cover c.args.self.now.reaching.items x y) (cover c.args.rects.now x y);
}

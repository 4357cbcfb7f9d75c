use Rattle.std.proofs.Common.{rules, ◌≡◌, ℤ, slice_index_or, subst, sym, refl, arith, to_z, of_z, w32, FitsSigned}
use Rattle.std.proofs.lemmas.Int.{to_z-of_z}
use Rattle.opc_base.specs.declared.plane.Rect.{Rect}
use Rattle.mask_polygons.specs.Links.{LiesBefore, rect_at}
use Rattle.mask_polygons.specs.Loops.{lists}
use Rattle.mask_polygons.proofs.LinkLaws.{link-more, links-all, links-from, none-behind, upper-from}
use Rattle.mask_polygons.proofs.links.push_links.Goals as goal

abbrev IsPlain : Rect → ℤ → ℤ → Type 0
IsPlain r height column = (height ≡ r.y1) × (column ≡ r.x0)

plainly : (r s : Rect) (height column : ℤ) → IsPlain r height column → LiesBefore s height column → LiesBefore s r.y1 r.x0
plainly r s height column plain h = subst (λ y. LiesBefore s y r.x0) plain.0 (subst (LiesBefore s height) plain.1 h)

back-again : (r s : Rect) (height column : ℤ) → IsPlain r height column → LiesBefore s r.y1 r.x0 → LiesBefore s height column
back-again r s height column plain h = subst (LiesBefore s height) (sym plain.1) (subst (λ y. LiesBefore s y r.x0) (sym plain.0) h)

plain : (c : goal.After-first_at-above) → IsPlain (rect_at c.args.rects.now c.args.number) (to_z w32 (of_z w32 (rect_at c.args.rects.now c.args.number).y1)) (to_z w32 (of_z w32 (rect_at c.args.rects.now c.args.number).x0))
plain c =
    let high : FitsSigned w32 (rect_at c.args.rects.now c.args.number).y1 = search rules in
    let left : FitsSigned w32 (rect_at c.args.rects.now c.args.number).x0 = search rules in
    (to_z-of_z w32 (rect_at c.args.rects.now c.args.number).y1 high, to_z-of_z w32 (rect_at c.args.rects.now c.args.number).x0 left)

pub loop-above-init : goal.loop-above-init
loop-above-init c =
    links-from c.args.rects.now (lists c.args.links.now.items) c.args.number c.first_at-above.result c.requires.links
    (λ k d less. plainly (rect_at c.args.rects.now c.args.number) (slice_index_or c.args.rects.now k d) _ _ (plain c) (c.first_at-above.ensures.ahead k d less))

pub returns-then-not-is_over : goal.returns-then-not-is_over
returns-then-not-is_over c =
    let high : FitsSigned w32 (rect_at c.args.rects.now c.args.number).y1 = search rules in
    let left : FitsSigned w32 (rect_at c.args.rects.now c.args.number).x0 = search rules in
    let r = rect_at c.args.rects.now c.args.number in
    let s = rect_at c.args.rects.now c.loop-above.above in
    links-all c.args.rects.now (lists c.loop-above.links.items) c.args.number c.loop-above.above c.requires.canonical c.loop-above.invariant
    (none-behind c.args.rects.now c.args.number c.loop-above.above c.requires.canonical c.loop-above-test.true
    (λ h. c.first_at-above.ensures.behind c.loop-above.above _ c.loop-above.auto.above c.loop-above-test.true
    (back-again r s _ _ (to_z-of_z w32 r.y1 high, to_z-of_z w32 r.x0 left) h))
    (λ h. let a = c.if-not-is_over.ensures.1 h in cc a))

pub loop-above-preserved : goal.loop-above-preserved
loop-above-preserved c =
    let high : FitsSigned w32 (rect_at c.args.rects.now c.args.number).y1 = search rules in
    let left : FitsSigned w32 (rect_at c.args.rects.now c.args.number).x0 = search rules in
    let r = rect_at c.args.rects.now c.args.number in
    let s = rect_at c.args.rects.now c.loop-above.above in
    link-more c.args.rects.now (lists c.loop-above.links.items) (lists c.link.new.links.items) c.args.number c.loop-above.above c.loop-above.invariant c.requires.number c.loop-above-test.true
    (upper-from r s (c.if-not-is_over.ensures.0 refl)
    (λ h. c.first_at-above.ensures.behind c.loop-above.above _ c.loop-above.auto.above c.loop-above-test.true
    (back-again r s _ _ (to_z-of_z w32 r.y1 high, to_z-of_z w32 r.x0 left) h))) c.in_ok-link.ensures

pub returns : goal.returns
returns c =
    let all = c.loop-above-test.false in
    links-all c.args.rects.now (lists c.loop-above.links.items) c.args.number c.loop-above.above c.requires.canonical c.loop-above.invariant
    (λ j from below upper. omega (arith, all, from, below))

use Rattle.std.proofs.Common.{◌≡◌, ◌∙◌, inl, inr, sym, ap, SFits, w32, of_z, to_z, to_z-of_z, rules}
use Rattle.rect_union.proofs.OutlineLaws.{AddsCount-edge, AddsCount-level}
use Rattle.rect_union.proofs.outlines.add_edge.Goals as goal

pub returns-in_ok-push-2 : goal.returns-in_ok-push-2
returns-in_ok-push-2 c =
    let upright : c.args.from.x ≡ c.args.to.x = elim c.requires [
      | inl same ↦ same
      | inr level ↦ absurd (c.if-from-to.true (ap (of_z w32) level))
    ] in
    rw (c.in_ok-push-2.ensures.items, c.in_ok-push.ensures.items, c.quadrant_of.ensures, c.quadrant_of-then-from-to.ensures)
    (AddsCount-edge c.args.quadrants.now.items c.args.owner c.args.from c.args.to upright)

pub returns-else-from-to : goal.returns-else-from-to
returns-else-from-to c =
    let from_fits : SFits w32 c.args.from.y = search rules in
    let to_fits : SFits w32 c.args.to.y = search rules in
    AddsCount-level c.args.quadrants.now.items c.args.owner c.args.from c.args.to
    (sym (to_z-of_z from_fits) ∙ ap (to_z w32) c.if-from-to.false ∙ to_z-of_z to_fits)

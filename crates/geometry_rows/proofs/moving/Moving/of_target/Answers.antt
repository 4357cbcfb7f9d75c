use Rattle.std.proofs.Common.{◌≡◌, ℤ, pos, List, length, replicate, sym, ◌∙◌, ap, subst}
use Rattle.outline_model.specs.Limits.{IsOffsets}
use Rattle.outline_model.specs.Rules.{KeepsRules}
use Rattle.mask_rules.proofs.MovingLaws.{at_first}
use Rattle.geometry_rows.proofs.moving.Moving.of_target.Goals as goal

pub invariant_of-result : goal.invariant_of-result
invariant_of-result c =
    let fs = c.in_ok-fragments.fragments in
    let first = at_first c.args.rules c.args.region.now fs c.rects.ensures.canonical c.requires c.count.ensures.list c.in_ok-fragments.ensures.boundary c.in_ok-fragments.ensures.keeps in
    let same : c.in_ok-offsets.offsets.items ≡ replicate (length fs) (pos 0) =
    c.in_ok-offsets.ensures.items_if_clones_equal (λ y e. e) ∙ ap (λ n. replicate n (pos 0)) c.count.ensures.count in (
      c.in_ok-near.ensures.fragments,
      subst (λ (l : List ℤ). IsOffsets fs l) (sym same) first.0,
      subst (λ (l : List ℤ). KeepsRules c.args.rules fs l) (sym same) first.1,
    )

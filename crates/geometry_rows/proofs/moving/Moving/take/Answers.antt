use Rattle.std.proofs.Common.{◌≡◌, ℤ, List, set, w32, to_z, of_z, SFits, sym, ◌∙◌, ap, subst}
use Rattle.std.proofs.lemmas.Int.{to_z-of_z}
use Rattle.outline_model.specs.Limits.{IsOffsets}
use Rattle.outline_model.specs.Rules.{KeepsRules}
use Rattle.mask_rules.proofs.MovingLaws.{after_move}
use Rattle.geometry_rows.proofs.moving.Moving.take.Goals as goal

pub invariant_of-self : goal.invariant_of-self
invariant_of-self c =
    let fits : SFits w32 c.args.to = c.ranges.to in
    let same : set c.self.inside.offsets.items c.args.i (to_z w32 (of_z w32 c.args.to)) ≡ set c.self.inside.offsets.items c.args.i c.args.to =
    ap (set c.self.inside.offsets.items c.args.i) (to_z-of_z w32 c.args.to fits) in
    let fs = c.self.inside.fragments in
    let written : set c.deref.result.now c.args.i (to_z w32 (of_z w32 c.args.to)) ≡ set c.self.inside.offsets.items c.args.i c.args.to =
    ap (λ (l : List ℤ). set l c.args.i (to_z w32 (of_z w32 c.args.to))) c.deref.ensures.value ∙ same in
    let keeps : KeepsRules c.self.inside.rules fs (set c.self.inside.offsets.items c.args.i c.args.to) =
    subst (λ (l : List ℤ). KeepsRules c.self.inside.rules fs l) written (c.first_broken-broken.ensures.kept.0 c.if-is_none.ensures) in (
      c.self.invariant.0,
      subst (λ (l : List ℤ). IsOffsets fs l) (sym same) (after_move c.self.inside.rules fs c.self.inside.offsets.items c.args.i c.args.to c.self.invariant.1 keeps),
      subst (λ (l : List ℤ). KeepsRules c.self.inside.rules fs l) (sym same) keeps,
    )

use Rattle.std.proofs.Common.{ℤ, ◌<◌, ◌≤ℤ◌, List, length, sym, subst, arith}
use Rattle.outline_model.specs.Outline.{lines, low_end, high_end}
use Rattle.mask_rules.proofs.MovingLaws.{ends_in_order}
use Rattle.geometry_rows.proofs.moving.Moving.swept.Goals as goal

pub swept-requires-clause-ordered : goal.swept-requires-clause-ordered
swept-requires-clause-ordered c =
    let fs = c.self.inside.fragments in
    let below : c.args.i < length fs = omega (arith, c.count.ensures.count) in
    subst (λ (l : List ℤ). low_end fs (lines fs l) c.args.i ≤ℤ high_end fs (lines fs l) c.args.i) (sym c.deref.ensures.value)
    (ends_in_order c.self.inside.rules fs c.self.inside.offsets.items c.args.i c.self.invariant.2 below)

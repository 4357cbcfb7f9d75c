-- The smaller rectangle meets what is within reach.
use Rattle.std.proofs.Common.{◌<◌, length, sym, subst, arith}
use Rattle.std.specs.Prelude.{All, Contains}
use Rattle.std.proofs.lemmas.Int.{ints}
use Rattle.fragment.specs.Index.{within_from}
use Rattle.fragment.proofs.IndexLaws.{within-few, within-near}
use Rattle.fragment.proofs.near.Near.within.Goals as goal

pub returns-clause-below : goal.returns-clause-below
returns-clause-below c =
    subst (λ l. All (λ k. k < length c.args.self.now) (within_from c.self.inside.by_place l c.shrunk-rect.result 0)) (sym c.deref.ensures.value)
    (within-few c.self.inside.fragments.items c.args.self.now c.self.inside.by_number c.self.inside.by_place c.self.inside.order.items c.shrunk-rect.result
    c.self.view_is c.self.invariant)

pub returns-clause-complete : goal.returns-clause-complete
returns-clause-complete c k x y below covered near =
    subst (λ l. Contains (within_from c.self.inside.by_place l c.shrunk-rect.result 0) k) (sym c.deref.ensures.value)
    (within-near c.self.inside.fragments.items c.args.self.now c.self.inside.by_number c.self.inside.by_place c.self.inside.order.items
    c.args.rect.now c.shrunk-rect.result c.args.reach _ k x y c.self.view_is c.self.invariant c.shrunk-rect.ensures (omega (arith, ints)) below covered near)

-- The fragments that are met, of all.
use Rattle.fragment.proofs.IndexLaws.{meets-few, meets-near}
use Rattle.fragment.proofs.MetLaws.{met-ascending}
use Rattle.fragment.proofs.near.Near.meets.Goals as goal

pub returns-clause-ascending : goal.returns-clause-ascending
returns-clause-ascending c = met-ascending c.self.inside.by_number c.args.rect.now

pub returns-clause-below : goal.returns-clause-below
returns-clause-below c =
    meets-few c.self.inside.fragments.items c.args.self.now c.self.inside.by_number c.self.inside.by_place c.self.inside.order.items c.args.rect.now
    c.self.view_is c.self.invariant

pub returns-clause-complete : goal.returns-clause-complete
returns-clause-complete c k x y below covered near =
    meets-near c.self.inside.fragments.items c.args.self.now c.self.inside.by_number c.self.inside.by_place c.self.inside.order.items c.args.rect.now
    k x y c.self.view_is c.self.invariant below covered near

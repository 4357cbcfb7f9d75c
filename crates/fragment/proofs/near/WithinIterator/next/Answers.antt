-- The first fragment that is met is taken from those that are left.
use Rattle.std.proofs.Common.{◌≡◌, ◌+◌, ◌∷◌, get_or, rules}
use Rattle.fragment.specs.Index.{within_from}
use Rattle.fragment.proofs.MetLaws.{places_none, places_some}
use Rattle.fragment.proofs.near.WithinIterator.next.Goals as goal

pub returns-in-None-clause-steps : goal.returns-in-None-clause-steps
returns-in-None-clause-steps c =
    places_none c.self.inside.areas.now c.self.inside.order.now c.self.inside.rect c.self.inside.from c.args.self.now c.first_met.result c.self.view_is
    c.first_met.ensures.first c.in-None.is

pub returns-in-Some-clause-steps : goal.returns-in-Some-clause-steps
returns-in-Some-clause-steps c =
    places_some c.self.inside.areas.now c.self.inside.order.now c.self.inside.rect c.self.inside.from c.in-Some.k c.args.self.now c.first_met.result
    c.self.view_is c.first_met.ensures.first c.in-Some.is

pub returns-in-Some-clause-goes : goal.returns-in-Some-clause-goes
returns-in-Some-clause-goes c =
    let e : c.args.self.now ≡ get_or c.self.inside.order.now c.in-Some.k 0 ∷ within_from c.self.inside.areas.now c.self.inside.order.now c.self.inside.rect (c.in-Some.k + 1) =
    returns-in-Some-clause-steps c in
    rw e (search rules)

-- The first tile that is met is taken from those that are left.
use Rattle.std.proofs.Common.{◌≡◌, ◌+◌, ◌∷◌, rules}
use Rattle.tiles.specs.Meets.{touched_between}
use Rattle.tiles.proofs.TouchedLaws.{steps_none, steps_some}
use Rattle.tiles.proofs.touched.TouchedIterator.next.Goals as goal

pub returns-in-None-clause-steps : goal.returns-in-None-clause-steps
returns-in-None-clause-steps c =
    steps_none c.self.inside.index.now c.self.inside.rect c.self.inside.next c.self.inside.end c.args.self.now c.first_met.result c.self.view_is c.first_met.ensures c.in-None.is

pub returns-in-Some-clause-steps : goal.returns-in-Some-clause-steps
returns-in-Some-clause-steps c =
    steps_some c.self.inside.index.now c.self.inside.rect c.self.inside.next c.self.inside.end c.in-Some.tile c.args.self.now c.first_met.result c.self.view_is c.first_met.ensures c.in-Some.is

pub returns-in-Some-clause-goes : goal.returns-in-Some-clause-goes
returns-in-Some-clause-goes c =
    let e : c.args.self.now ≡ c.in-Some.tile ∷ touched_between c.self.inside.index.now c.self.inside.rect (c.in-Some.tile + 1) c.self.inside.end = returns-in-Some-clause-steps c in
    rw e (search rules)

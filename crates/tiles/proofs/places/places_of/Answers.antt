use Rattle.std.proofs.Common.{subst, arith}
use Rattle.tiles.specs.Places.{AreSomewhere}
use Rattle.tiles.proofs.PlaceLaws.{places_all}
use Rattle.tiles.proofs.places.places_of.Goals as goal

pub returns-clause-placed : goal.returns-clause-placed
returns-clause-placed c =
    places_all c.args.numbers.now c.loop-place.places.items c.requires.one_each c.loop-place.invariant.0
    (subst (λ n. AreSomewhere c.args.numbers.now n c.loop-place.places.items) (omega (arith, c.loop-place-test.false, c.loop-place.auto.place-end)) c.loop-place.invariant.1)

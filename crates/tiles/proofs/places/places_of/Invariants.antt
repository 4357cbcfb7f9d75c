use Rattle.std.proofs.Common.{◌≡◌, length}
use Rattle.tiles.specs.Places.{AreSomewhere}
use Rattle.tiles.proofs.places.places_of.Given as goal

abbrev pub invariant-loop-place : goal.invariant-loop-place
invariant-loop-place l = (length l.places.items ≡ length l.numbers) × AreSomewhere l.numbers l.place l.places.items

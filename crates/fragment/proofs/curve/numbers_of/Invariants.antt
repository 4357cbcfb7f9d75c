-- The numbers of the places so far.
use Rattle.std.proofs.Common.{◌≡◌, map, take}
use Rattle.fragment.proofs.curve.numbers_of.Given as goal

abbrev pub invariant-loop-place : goal.invariant-loop-place
invariant-loop-place l = l.order.items ≡ map (λ p. p.1) (take l.place-index l.places)

-- Each area so far has its place, and these have their numbers in turn.
use Rattle.std.proofs.Common.{◌≡◌, map}
use Rattle.std.specs.List.{range_with_len}
use Rattle.fragment.proofs.curve.places_of.Given as goal

abbrev pub invariant-loop-k : goal.invariant-loop-k
invariant-loop-k l = map (λ p. p.1) l.places.items ≡ range_with_len 0 l.k

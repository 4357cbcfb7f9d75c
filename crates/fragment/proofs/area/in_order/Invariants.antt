-- The areas of the numbers so far.
use Rattle.std.proofs.Common.{◌≡◌, take}
use Rattle.fragment.specs.Index.{in_order}
use Rattle.fragment.proofs.area.in_order.Given as goal

abbrev pub invariant-loop-k : goal.invariant-loop-k
invariant-loop-k l = l.placed.items ≡ in_order l.areas (take l.k-index l.order)

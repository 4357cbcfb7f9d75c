use Rattle.std.proofs.Common.{◌≡◌, map, take}
use Rattle.opc_session.specs.Fills.{gain}
use Rattle.opc_session.proofs.opening.gains_of.Given as goal

abbrev pub invariant-loop-rect : goal.invariant-loop-rect
invariant-loop-rect l = l.gains.items ≡ map gain (take l.rect-index l.rects)

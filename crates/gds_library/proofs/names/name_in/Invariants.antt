use Rattle.std.proofs.Common.{◌≡◌, ◌≤◌, length, take}
use Rattle.gds_model.specs.Names.{name_of}
use Rattle.gds_library.proofs.names.name_in.Given as goal

abbrev pub invariant-loop-end : goal.invariant-loop-end
invariant-loop-end l = (l.end ≤ length l.body) × (name_of l.body ≡ name_of (take l.end l.body))

abbrev pub decreases-loop-end : goal.decreases-loop-end
decreases-loop-end l = l.end

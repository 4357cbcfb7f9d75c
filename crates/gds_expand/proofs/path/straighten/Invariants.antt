use Rattle.std.proofs.Common.{◌≡◌, ◌++◌, drop}
use Rattle.gds_model.specs.PathRects.{straightened, turns_after}
use Rattle.gds_expand.proofs.path.straighten.Given as goal

abbrev pub invariant-loop-i : goal.invariant-loop-i
invariant-loop-i l = l.left.items ++ turns_after l.before (drop l.i l.rest) ≡ straightened l.points

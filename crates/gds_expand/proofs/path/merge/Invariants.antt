use Rattle.std.proofs.Common.{◌≡◌, ◌++◌, drop}
use Rattle.gds_model.specs.PathRects.{merged}
use Rattle.gds_expand.proofs.path.merge.Given as goal

abbrev pub invariant-loop-i : goal.invariant-loop-i
invariant-loop-i l = l.left.items ++ merged (drop l.i l.points) ≡ merged l.points

use Rattle.std.proofs.Common.{◌≡◌, take}
use Rattle.gds_expand.specs.Points.{targets_of}
use Rattle.gds_expand.proofs.parts.targets_of.Given as goal

abbrev pub invariant-loop-part : goal.invariant-loop-part
invariant-loop-part l = l.targets.items ≡ targets_of (take l.part-index l.parts)

use Rattle.std.proofs.Common.{◌≡◌, take}
use Rattle.opc_engine.specs.FlawList.{count_of}
use Rattle.opc_engine.proofs.flaw_list.count_of.Given as goal

abbrev pub invariant-loop-flaw : goal.invariant-loop-flaw
invariant-loop-flaw l = l.count ≡ count_of l.kind (take l.flaw-index l.flaws)

use Rattle.std.proofs.Common.{◌≡◌, ◌++◌, take}
use Rattle.std.specs.List.{flat_map}
use Rattle.opc_engine.specs.FlawList.{flaw_line}
use Rattle.opc_engine.proofs.flaw_list.put_flaws.Given as goal

abbrev pub invariant-loop-flaw : goal.invariant-loop-flaw
invariant-loop-flaw l = l.out ≡ l.fn.out ++ flat_map flaw_line (take l.flaw-index l.flaws)

use Rattle.std.proofs.Common.{Ok, All, take}
use Rattle.opc_base.specs.Optics.{KeepsBounds}
use Rattle.opc_engine.specs.PrepareSets.{SetsGive}
use Rattle.opc_engine.proofs.prepared.sets_of.Given as goal

abbrev pub invariant-loop-file : goal.invariant-loop-file
invariant-loop-file l = record {
  sets : SetsGive (take l.file-index l.kernels) (Ok l.sets.items);
  bounds : All KeepsBounds l.sets.items;
}

use Rattle.std.proofs.Common.{◌≡◌, ◌++◌}
use Rattle.opc_engine.specs.ErrorTable.{texts_of}
use Rattle.opc_engine.specs.TrialInput.{entry_bytes, place}
use Rattle.opc_engine.specs.TrialShapes.{entry_of}
use Rattle.opc_engine.proofs.trial_shapes.put_row.Given as goal

abbrev pub invariant-loop-column : goal.invariant-loop-column
invariant-loop-column l = l.file ≡ l.fn.file ++ texts_of (λ u. entry_bytes (entry_of l.shape (place u) l.v)) l.column

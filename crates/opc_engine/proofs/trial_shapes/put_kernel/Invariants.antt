use Rattle.std.proofs.Common.{◌≡◌, ◌++◌, w16}
use Rattle.std.specs.Int.{to_be_bytes}
use Rattle.opc_engine.specs.ErrorTable.{texts_of}
use Rattle.opc_engine.specs.TrialInput.{entry_bytes, place}
use Rattle.opc_engine.specs.TrialShapes.{entry_of}
use Rattle.opc_engine.proofs.trial_shapes.put_kernel.Given as goal

abbrev pub invariant-loop-row : goal.invariant-loop-row
invariant-loop-row l = l.file ≡ (l.fn.file ++ to_be_bytes w16 l.weight) ++ texts_of (λ v. texts_of (λ u. entry_bytes (entry_of l.shape (place u) (place v))) 17) l.row

-- The two kernels of `trial` by their names.
use Rattle.std.specs.Prelude.{ℤ}
use Rattle.opc_base.specs.declared.kernels.Entry.{Entry}
use Rattle.opc_engine.specs.TrialInput.{peak, slope}
use Rattle.opc_engine.specs.declared.trial_shapes.Shape.{Shape}
use Rattle.opc_engine.specs.declared.trial_shapes.Shape.TheVariants.{Peak, Slope}

abbrev pub entry_of : Shape → ℤ → ℤ → Entry
entry_of Peak u v = peak u v
entry_of Slope u v = slope u v

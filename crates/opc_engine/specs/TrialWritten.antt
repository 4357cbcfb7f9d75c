-- The head of the layout of `trial`, as it is written.
use Rattle.std.specs.Prelude.{◌++◌, replicate}
use Rattle.std.specs.Int.{w16, to_be_bytes}
use Rattle.gds_records.specs.declared.library_head.Head.{Head}
use Rattle.gds_writer.specs.MaskFile.{padded}
use Rattle.opc_engine.specs.TrialInput.{real_one, trial_name}

abbrev pub trial_head : Head
trial_head = record {
  header = to_be_bytes w16 600;
  dates = replicate 24 0;
  name = padded trial_name;
  units = real_one ++ real_one;
}

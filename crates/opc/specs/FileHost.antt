-- Real files, as contracts see them: only the counts of faults are told.
use Rattle.std.specs.Prelude.{None}
use Rattle.opc_base.specs.Outside.{Outside}
use Rattle.opc.specs.declared.file_host.FileHost.{FileHost}

abbrev pub outside_of : {R : Type 0} → FileHost R → Outside
outside_of host = record {
  files = None;
  said = None;
  load_faults = host.load_faults;
  store_faults = host.store_faults;
  say_faults = host.say_faults;
}

-- no call of the host has failed yet
abbrev pub untouched : Outside
untouched = record { files = None; said = None; load_faults = 0; store_faults = 0; say_faults = 0 }

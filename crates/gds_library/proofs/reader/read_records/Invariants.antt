use Rattle.std.proofs.Common.{length, ◌-◌}
use Rattle.gds_library.proofs.Reading.{Reading}
use Rattle.gds_library.proofs.reader.read_records.Given as goal

abbrev pub invariant-loop-record : goal.invariant-loop-record
invariant-loop-record l = Reading l.bytes l.at l.progress l.draft

abbrev pub decreases-loop-record : goal.decreases-loop-record
decreases-loop-record l = length l.bytes - l.at

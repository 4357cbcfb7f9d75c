use Rattle.std.proofs.Common.{◌≡◌, drop}
use Rattle.std.specs.Ordering.{nat_cmp}
use Rattle.std.specs.Cmp.Lexicographic.{slice_cmp}
use Rattle.std.specs.FinMap.{get, find}
use Rattle.opc_base.proofs.file_map.FileMap.get.Given as goal

abbrev pub invariant-loop-file : goal.invariant-loop-file
invariant-loop-file l = get l.self l.name ≡ find (slice_cmp nat_cmp) l.name (drop l.file-index l.file-items)

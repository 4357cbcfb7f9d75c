use Rattle.std.proofs.Common.{◌<◌, take}
use Rattle.std.specs.List.{flat_map}
use Rattle.gds_writer.specs.MaskFile.{boundary, bytes_of, opening}
use Rattle.gds_writer.proofs.Growing.{Grew}
use Rattle.gds_writer.proofs.outlines.write_outlines.Given as goal

abbrev pub invariant-loop-points : goal.invariant-loop-points
invariant-loop-points l = record {
  grew : Grew (bytes_of (opening l.head l.out)) l.file (flat_map (boundary l.out l.grid) (take l.points-index l.outlines));
  fits : 0 < l.points-index → (l.out.layer < 65536) × (l.out.datatype < 65536);
}

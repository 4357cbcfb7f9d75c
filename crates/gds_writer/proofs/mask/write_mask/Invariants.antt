use Rattle.std.proofs.Common.{◌<◌, take}
use Rattle.std.specs.List.{flat_map}
use Rattle.gds_writer.specs.MaskFile.{around, boundary, bytes_of, opening}
use Rattle.gds_writer.proofs.Growing.{Grew}
use Rattle.gds_writer.proofs.mask.write_mask.Given as goal

abbrev pub invariant-loop-rect : goal.invariant-loop-rect
invariant-loop-rect l = record {
  grew : Grew (bytes_of (opening l.head l.out)) l.file (flat_map (λ r. boundary l.out l.grid (around r)) (take l.rect-index l.region));
  fits : 0 < l.rect-index → (l.out.layer < 65536) × (l.out.datatype < 65536);
}

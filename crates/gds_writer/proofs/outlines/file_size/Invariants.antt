use Rattle.std.proofs.Common.{◌≡◌, ◌+◌, ◌-◌, ◌*◌, ◌^◌, min, length, take}
use Rattle.std.specs.List.{sum_by}
use Rattle.gds_writer.specs.MaskFile.{padded}
use Rattle.gds_writer.proofs.outlines.file_size.Given as goal

abbrev pub invariant-loop-outline : goal.invariant-loop-outline
invariant-loop-outline l =
    l.size ≡ min (98 + length l.head.name + length (padded l.out.name) + sum_by (λ points. 24 + 8 * length points) (take l.outline-index l.outlines)) (2 ^ 64 - 1)

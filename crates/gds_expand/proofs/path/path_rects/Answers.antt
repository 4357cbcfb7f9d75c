use Rattle.std.proofs.Common.{◌^◌}
use Rattle.gds_model.specs.Placement.{IsPositionWithin}
use Rattle.gds_expand.proofs.PathLemmas.{All-merged, All-straightened}
use Rattle.gds_expand.proofs.path.path_rects.Goals as goal

pub rects_through-requires : goal.rects_through-requires
rects_through-requires c =
    rw (c.deref-2.ensures.value, c.in_ok-corners.ensures, c.deref.ensures.value, c.in_ok-merged.ensures)
    (All-straightened (IsPositionWithin (2 ^ 51)) _ (All-merged (IsPositionWithin (2 ^ 51)) _ c.requires))

use Rattle.std.proofs.Common.{arith}
use Rattle.rect_union.proofs.WithinLaws.{within_more}
use Rattle.rect_union.proofs.tests.finds_where_squares_touch.Goals as goal

pub first_touch-requires-clause-within : goal.first_touch-requires-clause-within
first_touch-requires-clause-within g c =
    rw c.rects-rects.ensures.list (within_more 1048000 1048576 c.in_ok-region.region (omega arith) c.in_ok-region.ensures.within)

use Rattle.std.proofs.Common.{◌+◌, get_or, arith}
use Rattle.rect_union.proofs.QuadrantLaws.{follows_sorted, rows_from_next}
use Rattle.rect_union.proofs.quadrants.sort_rows.Goals as goal

pub returns-clause-rows : goal.returns-clause-rows
returns-clause-rows c =
    rows_from_next c.sort_unstable.new.self.items
    (λ k d below. follows_sorted (get_or c.sort_unstable.new.self.items k d) (get_or c.sort_unstable.new.self.items (k + 1) d) _
    (c.sort_unstable.ensures.sorted k d (omega arith) below))

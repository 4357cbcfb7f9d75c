use Rattle.std.proofs.Common.{arith}
use Rattle.rect_union.proofs.WithinLaws.{within_more}
use Rattle.mask_rules.proofs.tests.judge.Goals as goal

pub check_target-requires : goal.check_target-requires
check_target-requires c =
    record { within = within_more 1048000 1048576 c.in_ok-region.region (omega arith) c.in_ok-region.ensures.within }

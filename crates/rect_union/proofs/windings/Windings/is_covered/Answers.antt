use Rattle.std.proofs.Common.{length, sym, ◌∙◌, ap, nat_lt}
use Rattle.rect_union.specs.Windings.{count_at}
use Rattle.rect_union.proofs.SumLaws.{any_set-count_set}
use Rattle.rect_union.proofs.windings.Windings.is_covered.Goals as goal

pub returns : goal.returns
returns c =
    ap (nat_lt 0) c.args.self.now.counted
    ∙ sym (any_set-count_set (length c.args.self.now.counts.items) (count_at c.args.self.now.counts.items))

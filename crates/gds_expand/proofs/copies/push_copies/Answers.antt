use Rattle.std.proofs.Common.{ℕ, map, unsigned_abs, subst}
use Rattle.std.specs.List.{range_with_len}
use Rattle.gds_model.specs.PlacedList.{columns_of, copy_map}
use Rattle.gds_expand.specs.Copies.{AddsCopies}
use Rattle.gds_expand.proofs.AddLemmas.{adds_row}
use Rattle.gds_expand.proofs.copies.push_copies.Goals as goal

pub loop-row-preserved : goal.loop-row-preserved
loop-row-preserved c =
    adds_row (λ row. map (λ column. copy_map c.args.reference.now row column) (range_with_len 0 (unsigned_abs (columns_of c.args.reference.now.array)))) c.loop-row.row
    c.args.base.now c.args.steps.now.items c.loop-row.steps.items c.push_row.new.steps.items c.loop-row.invariant
    (subst (λ (n : ℕ). AddsCopies (map (λ column. copy_map c.args.reference.now c.loop-row.row column) (range_with_len 0 n)) c.args.base.now c.loop-row.steps.items c.push_row.new.steps.items)
    c.columns_of-columns.ensures c.in_ok-push_row.ensures)

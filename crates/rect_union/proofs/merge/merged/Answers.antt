use Rattle.std.proofs.Common.{◌+◌, pos, refl}
use Rattle.rect_union.proofs.MergeLaws.{merging_starts, merging_step, merging_swapped}
use Rattle.rect_union.proofs.merge.merged.Goals as goal

pub loop-i-init : goal.loop-i-init
loop-i-init c = rw c.in_ok-columns.ensures.items (merging_starts c.args.first.now c.args.second.now)

pub loop-i-preserved-then-takes_first : goal.loop-i-preserved-then-takes_first
loop-i-preserved-then-takes_first c =
    merging_step c.args.first.now c.args.second.now c.loop-i.columns.items c.push_column.new.columns.items c.loop-i.i c.loop-i.j
    (record { x = pos 0; owner = 0; sign = pos 0 }) c.requires.first c.loop-i.invariant (c.if-takes_first.ensures.first refl) c.in_ok-push_column.ensures

pub loop-i-preserved : goal.loop-i-preserved
loop-i-preserved c =
    merging_swapped c.args.second.now c.args.first.now c.push_column-else-takes_first.new.columns.items (c.loop-i.j + 1) c.loop-i.i
    (merging_step c.args.second.now c.args.first.now c.loop-i.columns.items c.push_column-else-takes_first.new.columns.items c.loop-i.j c.loop-i.i
    (record { x = pos 0; owner = 0; sign = pos 0 }) c.requires.second
    (merging_swapped c.args.first.now c.args.second.now c.loop-i.columns.items c.loop-i.i c.loop-i.j c.loop-i.invariant) (c.if-takes_first.ensures.second refl) c.in_ok-push_column-2.ensures)

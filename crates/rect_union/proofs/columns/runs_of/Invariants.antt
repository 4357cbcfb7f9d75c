use Rattle.std.proofs.Common.{◌≡◌, length}
use Rattle.rect_union.specs.Columns.{IsCountedTo, IsBuiltTo}
use Rattle.rect_union.proofs.columns.runs_of.Given as goal

abbrev pub invariant-loop-index : goal.invariant-loop-index
invariant-loop-index l = record {
  size : length l.windings.counts.items ≡ length l.initial.windings.counts.items;
  counted : IsCountedTo l.columns l.index l.windings.counts.items;
  built : IsBuiltTo l.columns l.index (length l.windings.counts.items) l.windings.counts.items l.builder;
}

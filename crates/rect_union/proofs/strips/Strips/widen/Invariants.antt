use Rattle.std.proofs.Common.{◌≡◌}
use Rattle.rect_union.specs.Strips.{IsSharing}
use Rattle.rect_union.proofs.strips.Strips.widen.Given as goal

abbrev pub invariant-loop-rect : goal.invariant-loop-rect
invariant-loop-rect l = record {
  border : l.self.border ≡ l.border;
  sharing : IsSharing l.initial.self.done.items l.rect-items l.border l.rect-index l.self.done.items l.self.reaching.items;
}

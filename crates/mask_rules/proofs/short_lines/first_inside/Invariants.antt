use Rattle.mask_rules.specs.First.{IsFirst}
use Rattle.mask_rules.specs.ShortLines.{IsShortAmong}
use Rattle.mask_rules.proofs.short_lines.first_inside.Given as goal

abbrev pub invariant-loop-rect : goal.invariant-loop-rect
invariant-loop-rect l = IsFirst (IsShortAmong l.turn l.out l.least l.rects l.rect-index) l.first

-- The next place has the next number.
use Rattle.std.proofs.Common.{refl}
use Rattle.fragment.proofs.IndexLaws.{numbers_more}
use Rattle.fragment.proofs.curve.places_of.Goals as goal

pub loop-k-preserved : goal.loop-k-preserved
loop-k-preserved c = numbers_more c.loop-k.places.items c.push.new.self.items _ c.loop-k.k c.loop-k.invariant c.in_ok-push.ensures.items refl

use Rattle.std.proofs.Common.{arith}
use Rattle.std.proofs.lemmas.Int.{ints}
use Rattle.rect_union.proofs.StripLaws.{parted_starts, starts_empty}
use Rattle.rect_union.proofs.strips.Strips.new.Goals as goal

pub returns : goal.returns
returns c = record {
  valid = λ whole inside. record {
    parted = rw (c.new.ensures.items, c.new-2.ensures.items) (parted_starts _);
    pixels = λ x y. rw (c.new.ensures.items, c.new-2.ensures.items) (starts_empty whole _ x y inside (omega (arith, ints)));
  };
}

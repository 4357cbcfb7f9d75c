use Rattle.std.proofs.Common.{◌∙◌, arith}
use Rattle.std.proofs.lemmas.Int.{ints}
use Rattle.rect_union.specs.Quadrants.{is_wound}
use Rattle.rect_union.proofs.StripLaws.{strips_end}
use Rattle.rect_union.proofs.cut.striped_quadrants.Goals as goal

pub loop-border-init : goal.loop-border-init
loop-border-init c = c.new-strips.ensures.valid (is_wound c.args.owners c.args.quadrants.now) c.requires.near

pub returns-clause-pixels : goal.returns-clause-pixels
returns-clause-pixels c x y =
    let valid = c.in_ok-add_strip-2.ensures.so_far in
    c.sort_starts.ensures.pixels x y
    ∙ strips_end (is_wound c.args.owners c.args.quadrants.now) c.add_strip-2.new.strips.done.items c.add_strip-2.new.strips.reaching.items c.add_strip-2.new.strips.border x y c.requires.near
    valid.parted.reach (let far = c.in_ok-add_strip-2.ensures.reached in omega (arith, ints)) valid.pixels

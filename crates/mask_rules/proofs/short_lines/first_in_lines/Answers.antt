use Rattle.std.proofs.Common.{◌≡◌, ℤ, false, refl, rules, SFits, w32, to_z-of_z}
use Rattle.opc_base.specs.Plane.{cover}
use Rattle.mask_rules.specs.LineSets.{LiesInShortLine, line_set}
use Rattle.mask_rules.specs.ShortLines.{LiesInside}
use Rattle.mask_rules.proofs.Firsts.{IsFirst-same}
use Rattle.mask_rules.proofs.LineSetLaws.{inside_if_short, short_if_inside}
use Rattle.mask_rules.proofs.short_lines.first_in_lines.Goals as goal

pub returns : goal.returns
returns c =
    let least_fits : SFits w32 c.args.least = c.ranges.least in
    let pixels : (x y : ℤ) → cover c.rects.result.now x y ≡ line_set c.args.turn c.args.out (cover c.args.rects.now) x y = rw c.rects.ensures.list c.in_ok-region.ensures.pixels in
    let first = simp to_z-of_z at c.first_inside-place.ensures.first in
    record {
      first = IsFirst-same (LiesInside c.args.turn c.args.out c.args.least c.rects.result.now) (LiesInShortLine c.args.turn c.args.out (cover c.args.rects.now) c.args.least)
          c.first_inside-place.result
          (short_if_inside c.args.turn c.args.out c.args.rects.now c.rects.result.now c.args.least pixels)
          (inside_if_short c.args.turn c.args.out c.args.rects.now c.rects.result.now c.args.least c.requires.within pixels)
          first;
    }

pub returns-then-not-out : goal.returns-then-not-out
returns-then-not-out c =
    let least_fits : SFits w32 c.args.least = c.ranges.least in
    let no_turn : c.args.turn ≡ false = search rules in
    let no_out : c.args.out ≡ false = search rules in
    let first = simp to_z-of_z at c.first_inside-own.ensures.first in
    record {
      first = rw (no_turn, no_out)
          (IsFirst-same (LiesInside false false c.args.least c.args.rects.now) (LiesInShortLine false false (cover c.args.rects.now) c.args.least) c.first_inside-own.result
          (short_if_inside false false c.args.rects.now c.args.rects.now c.args.least (λ x y. refl))
          (inside_if_short false false c.args.rects.now c.args.rects.now c.args.least c.requires.within (λ x y. refl))
          first);
    }

use Rattle.std.proofs.Common.{SFits, w32, to_z-of_z, true, false}
use Rattle.opc_base.specs.Plane.{cover}
use Rattle.mask_rules.specs.LineSets.{LiesInShortLine}
use Rattle.mask_rules.proofs.Firsts.{IsFirst-earlier}
use Rattle.mask_rules.proofs.short_lines.first_too_narrow.Goals as goal

pub returns : goal.returns
returns c =
    let least_fits : SFits w32 c.args.least = c.ranges.least in
    let row = simp to_z-of_z at c.in_ok-row.ensures.first in
    let column = simp to_z-of_z at c.in_ok-column.ensures.first in
    record {
      first = rw c.earlier.ensures
          (IsFirst-earlier (LiesInShortLine false c.args.out (cover c.args.rects.now) c.args.least) (LiesInShortLine true c.args.out (cover c.args.rects.now) c.args.least)
          c.in_ok-row.row c.in_ok-column.column row column);
    }

-- An area that does not reach the rectangle is not met.
use Rattle.std.proofs.Common.{false, sym}
use Rattle.fragment.proofs.AreaLaws.{met_at, one_missed}
use Rattle.fragment.proofs.area_tree.AreaTree.missed_from.Goals as goal

pub returns-else-reaches-clause-missed : goal.returns-else-reaches-clause-missed
returns-else-reaches-clause-missed c =
    one_missed c.args.self.now c.args.rect.now c.args.k
    (met_at c.self.inside.areas.items c.args.self.now c.args.rect.now c.index.result.now false c.args.k c.self.view_is c.requires c.index.ensures
    (sym c.if-reaches.ensures))

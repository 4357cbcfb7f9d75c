-- What an area round many misses, those inside it miss.
use Rattle.std.proofs.Common.{◌≡◌, ◌%◌, sym, arith}
use Rattle.fragment.proofs.AreaLaws.{block_missed_at, cluster_missed_at, group_missed_at}
use Rattle.fragment.proofs.area_tree.AreaTree.missed_round.Goals as goal

pub returns-then-not-reaches-clause-missed : goal.returns-then-not-reaches-clause-missed
returns-then-not-reaches-clause-missed c =
    let even : c.args.k % 4096 ≡ 0 = omega arith in
    cluster_missed_at c.self.inside.areas.items c.args.self.now c.self.inside.blocks.items c.self.inside.groups.items c.self.inside.clusters.items
    c.args.rect.now c.index.result.now c.args.k c.self.view_is c.self.invariant c.requires even c.index.ensures (sym c.if-not-reaches.ensures)

pub returns-then-not-reaches-2-clause-missed : goal.returns-then-not-reaches-2-clause-missed
returns-then-not-reaches-2-clause-missed c =
    let even : c.args.k % 256 ≡ 0 = omega arith in
    group_missed_at c.self.inside.areas.items c.args.self.now c.self.inside.blocks.items c.self.inside.groups.items c.self.inside.clusters.items
    c.args.rect.now c.index-then-k-eq0-2.result.now c.args.k c.self.view_is c.self.invariant c.requires even c.index-then-k-eq0-2.ensures
    (sym c.if-not-reaches-2.ensures)

pub returns-then-not-reaches-3-clause-missed : goal.returns-then-not-reaches-3-clause-missed
returns-then-not-reaches-3-clause-missed c =
    let even : c.args.k % 16 ≡ 0 = omega arith in
    block_missed_at c.self.inside.areas.items c.args.self.now c.self.inside.blocks.items c.self.inside.groups.items c.self.inside.clusters.items
    c.args.rect.now c.index-then-k-eq0-3.result.now c.args.k c.self.view_is c.self.invariant c.requires even c.index-then-k-eq0-3.ensures
    (sym c.if-not-reaches-3.ensures)

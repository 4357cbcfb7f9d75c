use Rattle.std.proofs.Common.{SFits, w32, rules}
use Rattle.tiles.proofs.RowLaws.{high_row, low_row, next_fits}
use Rattle.tiles.proofs.index.lines_between.Goals as goal

pub overflow_add-result : goal.overflow_add-result
overflow_add-result c =
    let end : SFits w32 c.args.end = search rules in
    next_fits c.args.end c.args.side c.args.halo c.from-2.result c.from-halo.result c.from-side.result c.div_euclid-high.result end c.requires
    c.from-2.ensures c.from-halo.ensures c.from-side.ensures c.div_euclid-high.ensures

pub returns-clause-low : goal.returns-clause-low
returns-clause-low c b less =
    let start : SFits w32 c.args.start = search rules in
    low_row c.args.start c.args.side c.args.halo c.from.result c.from-halo.result c.from-side.result c.div_euclid-low.result b start c.requires
    c.from.ensures c.from-halo.ensures c.from-side.ensures c.div_euclid-low.ensures less

pub returns-clause-high : goal.returns-clause-high
returns-clause-high c b more =
    let end : SFits w32 c.args.end = search rules in
    high_row c.args.end c.args.side c.args.halo c.from-2.result c.from-halo.result c.from-side.result c.div_euclid-high.result b end c.requires
    c.from-2.ensures c.from-halo.ensures c.from-side.ensures c.div_euclid-high.ensures more

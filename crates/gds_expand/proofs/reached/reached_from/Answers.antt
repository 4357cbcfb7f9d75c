use Rattle.std.proofs.Common.{◌<◌, length, arith}
use Rattle.gds_expand.proofs.GraphLemmas.{marked_too}
use Rattle.gds_expand.proofs.reached.reached_from.Goals as goal

pub returns-clause-marked : goal.returns-clause-marked
returns-clause-marked c =
    let inside : c.args.start < length c.in_ok-marks.marks.items = omega (arith, c.in_ok-marks.ensures.size, c.requires.start) in
    marked_too c.args.graph.now c.args.start c.in_ok-marks.marks.items inside c.in_ok-marks.ensures.marked

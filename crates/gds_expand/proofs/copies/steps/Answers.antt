use Rattle.std.proofs.Common.{rules}
use Rattle.gds_model.specs.PlacedList.{steps}
use Rattle.gds_expand.proofs.CopyLemmas.{read_fits, read_part, read_within}
use Rattle.gds_expand.proofs.PlacementLemmas.{same_position}
use Rattle.gds_expand.proofs.copies.steps.Goals as goal

pub overflow_mul-result : goal.overflow_mul-result
overflow_mul-result c =
    read_fits c.args.number c.from.result c.args.displacement.now.x c.args.count.now.steps c.from.ensures (search rules) (search rules) c.args.count.now.positive c.requires.number c.requires.near.x

pub overflow_mul-result-2 : goal.overflow_mul-result-2
overflow_mul-result-2 c =
    read_fits c.args.number c.from-2.result c.args.displacement.now.y c.args.count.now.steps c.from-2.ensures (search rules) (search rules) c.args.count.now.positive c.requires.number c.requires.near.y

pub returns-clause-value : goal.returns-clause-value
returns-clause-value c =
    same_position _ (steps c.args.number c.args.count.now.steps c.args.displacement.now)
    (read_part c.args.number c.from.result c.args.displacement.now.x c.args.count.now.steps c.from.ensures (search rules) (search rules) c.args.count.now.positive c.requires.number c.requires.near.x)
    (read_part c.args.number c.from-2.result c.args.displacement.now.y c.args.count.now.steps c.from-2.ensures (search rules) (search rules) c.args.count.now.positive c.requires.number c.requires.near.y)

pub returns-clause-near : goal.returns-clause-near
returns-clause-near c = record {
  x = read_within c.args.number c.from.result c.args.displacement.now.x c.args.count.now.steps c.from.ensures (search rules) (search rules) c.args.count.now.positive c.requires.number c.requires.near.x;
  y = read_within c.args.number c.from-2.result c.args.displacement.now.y c.args.count.now.steps c.from-2.ensures (search rules) (search rules) c.args.count.now.positive c.requires.number c.requires.near.y;
}

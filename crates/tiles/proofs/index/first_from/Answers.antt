use Rattle.std.proofs.Common.{arith, rules}
use Rattle.std.proofs.lemmas.List.Sorted.{IsPartitionPoint-from_clause}
use Rattle.tiles.specs.Keys.{is_before}
use Rattle.tiles.specs.declared.key.Square.{Square}
use Rattle.tiles.proofs.SkipLaws.{parted}
use Rattle.tiles.proofs.index.first_from.Goals as goal

pub returns-clause-before : goal.returns-clause-before
returns-clause-before c k under =
    let point = IsPartitionPoint-from_clause (λ (s : Square). is_before s c.args.row c.args.column) _ _ c.partition_point.ensures.partitioned
    (parted c.args.squares.now c.args.row c.args.column c.requires.order) (λ a r q k. search rules) in
    point.0 k _ (omega arith) under

pub returns-clause-after : goal.returns-clause-after
returns-clause-after c k from within =
    let point = IsPartitionPoint-from_clause (λ (s : Square). is_before s c.args.row c.args.column) _ _ c.partition_point.ensures.partitioned
    (parted c.args.squares.now c.args.row c.args.column c.requires.order) (λ a r q k. search rules) in
    point.1 k _ from within

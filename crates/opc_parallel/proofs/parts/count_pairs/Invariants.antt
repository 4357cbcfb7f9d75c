use Rattle.std.proofs.Common.{◌≡◌, ◌+◌, length, sum_by, take}
use Rattle.tiles.specs.Meets.{touched_tiles}
use Rattle.opc_parallel.proofs.parts.count_pairs.Given as goal

abbrev pub invariant-loop-one : goal.invariant-loop-one
invariant-loop-one g l = l.steps ≡ l.fn.steps + sum_by (λ one. length (touched_tiles l.index one.rect)) (take l.one-index l.swept)
